-- `viewer::keys::face_key` meets its promise: the four numbers, turned, in one. Assumes nothing.
use Rattle.std.proofs.Common.{ℕ, ◌≡◌, sym, ◌∙◌, subst, List}
use Rattle.table.specs.Order.{InOrder}
use Rattle.viewer_lines.specs.ViewerLines.{corners, least_first, least_of}
use Rattle.viewer_lines.specs.Packed.{Small}
use Rattle.numbering.specs.Ranks.{Stand, held-close}
use Rattle.viewer_lines.specs.Lines.{face-small}
use Rattle.viewer.proofs.keys.face_key.Goals as goal
use Rattle.viewer.proofs.keys.face_key.Goals.{After-least_first}

pub number_near-a-requires : goal.number_near-a-requires
number_near-a-requires c = let p = c.requires in (held-close p.0 p.1.0 _ p.1.1.1.at, (p.0, (p.1.0, p.1.1.0)))

pub number_near-b-requires : goal.number_near-b-requires
number_near-b-requires c = let p = c.requires in (held-close p.0 p.1.0 _ p.1.1.1.adjacent, (p.0, (p.1.0, p.1.1.0)))

pub number_near-c-requires : goal.number_near-c-requires
number_near-c-requires c = let p = c.requires in (held-close p.0 p.1.0 _ p.1.1.1.opposite, (p.0, (p.1.0, p.1.1.0)))

pub number_near-d-requires : goal.number_near-d-requires
number_near-d-requires c = let p = c.requires in (held-close p.0 p.1.0 _ p.1.1.1.next, (p.0, (p.1.0, p.1.1.0)))

-- the four numbers, turned
turned : (c : After-least_first) (t : List ℕ) → InOrder t → Stand t c.args.out.now c.args.k → c.least_first.result ≡ least_of t c.args.f
turned c t o w =
    c.least_first.ensures
    ∙ (λ i. least_first (corners
    (c.number_near-a.ensures t o w i)
    (c.number_near-b.ensures t o w i)
    (c.number_near-c.ensures t o w i)
    (c.number_near-d.ensures t o w i)))

pub pack-requires : goal.pack-requires
pack-requires c =
    let p = c.requires in
    subst Small (sym (turned (goal.at.pack-requires c).After-least_first p.0 p.1.0 p.1.1.0)) (face-small p.0 p.1.0 c.args.f p.1.1.1)
