-- `viewer_lines::lengths::face_length` meets its promise: its four numbers, two characters before and four after them. Assumes nothing.
use Rattle.std.proofs.Common.{◌≡◌, true, List, ℕ, ◌+◌, ◌≤◌, ◌<◌, sym, ◌∙◌, arith}
use Rattle.lattice.specs.declared.points.Point.{Point}
use Rattle.table.specs.Order.{InOrder}
use Rattle.table.specs.Entries.{holds}
use Rattle.text.specs.LineOrder.{Close}
use Rattle.writers.specs.Kept.{places}
use Rattle.firsts.specs.declared.faces.Face.{Face}
use Rattle.numbering.specs.Numbering.{number_of}
use Rattle.numbering.specs.Ranks.{Cuts, held-close, held_number}
use Rattle.numbering.specs.declared.Widths.{Widths}
use Rattle.mesh_faces.specs.Once.{Four}
use Rattle.viewer_lines.specs.ViewerLines.{corners_of}
use Rattle.viewer_lines.specs.Lines.{face-long}
use Rattle.viewer_lines.specs.declared.styles.Style.{Style}
use Rattle.viewer_lines.proofs.lengths.face_length.Goals as goal

-- a vertex of the table in which all four stand
vertex : (s : Style) (w : Widths) (f : Face) (p : Point) → ((t : List ℕ) × (InOrder t × (Cuts t s.first w × Four t f))) × (s.first ≤ 1)
    → ((t : List ℕ) → Four t f → holds t p ≡ true)
    → record { close : Close p; by_index : ((t : List ℕ) × (InOrder t × (Cuts t s.first w × (number_of t p < places)))) × (s.first ≤ 1) }
vertex s w f p r h =
    let t = r.0.0 in
    let o = r.0.1.0 in
    let there = h t r.0.1.1.1 in
    record { close = held-close t o p there; by_index = ((t, (o, (r.0.1.1.0, held_number t o p there))), r.1) }

pub number_width-a-requires : goal.number_width-a-requires
number_width-a-requires c = vertex c.args.s c.args.w c.args.f c.args.f.at c.requires (λ t w. w.at)

pub number_width-b-requires : goal.number_width-b-requires
number_width-b-requires c = vertex c.args.s c.args.w c.args.f c.args.f.adjacent c.requires (λ t w. w.adjacent)

pub number_width-c-requires : goal.number_width-c-requires
number_width-c-requires c = vertex c.args.s c.args.w c.args.f c.args.f.opposite c.requires (λ t w. w.opposite)

pub number_width-d-requires : goal.number_width-d-requires
number_width-d-requires c = vertex c.args.s c.args.w c.args.f c.args.f.next c.requires (λ t w. w.next)

pub returns : goal.returns
returns c =
    let f = c.args.f in (
      λ t o u w. four c.number_width-a.result c.number_width-b.result c.number_width-c.result c.number_width-d.result _ _ _ _
          (c.number_width-a.ensures.0 t o u (held_number t o f.at w.at))
          (c.number_width-b.ensures.0 t o u (held_number t o f.adjacent w.adjacent))
          (c.number_width-c.ensures.0 t o u (held_number t o f.opposite w.opposite))
          (c.number_width-d.ensures.0 t o u (held_number t o f.next w.next))
          ∙ sym (face-long c.args.s (corners_of t f)),
      omega (arith, c.number_width-a.ensures.1, c.number_width-b.ensures.1, c.number_width-c.ensures.1, c.number_width-d.ensures.1),
    )
  where
    four : (a b c d x y z w : ℕ) → a ≡ x → b ≡ y → c ≡ z → d ≡ w → 6 + a + b + c + d ≡ 6 + (x + (y + (z + w)))
    four a b c d x y z w e f g h = omega arith
