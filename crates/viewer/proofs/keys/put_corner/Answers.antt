-- `viewer::keys::put_corner` meets its promise: by whether the face is written here. Assumes nothing.
use Rattle.std.proofs.Common.{◌≡◌, sym, ◌∙◌, ap, subst, List, [], ◌∷◌, ℕ, ◌+◌, arith}
use Rattle.firsts.specs.declared.faces.Face.{Face}
use Rattle.sorting.specs.Keys.{Put}
use Rattle.mesh_faces.specs.Once.{fresh_of, fresh_at, Four, fresh-four}
use Rattle.viewer.specs.BodyLaws.{FacesIn, faces-one}
use Rattle.viewer.proofs.keys.put_corner.Goals as goal
use Rattle.viewer.proofs.keys.put_corner.Goals.{In-Some}

-- the face is written here
module _ (c : In-Some) where
  one : c.in-Some.fresh.face ∷ [] ≡ fresh_at c.args.t.now c.args.k c.args.v c.args.j
  one = ap fresh_of (sym c.in-Some.is) ∙ c.fresh_between.ensures

  four : Four c.args.t.now c.in-Some.fresh.face
  four =
      let p = c.requires in
      fresh-four c.args.t.now p.in_order.0 p.in_order.1.1 c.args.k c.args.v (omega arith) p.k_lt_n.1 c.args.j p.inner.1 c.in-Some.fresh.face one

pub face_key-x-requires : goal.face_key-x-requires
face_key-x-requires c = (c.args.t.now, (c.requires.in_order.0, (c.requires.stand, four (goal.at.face_key-x-requires c).In-Some)))

pub returns-in-Some : goal.returns-in-Some
returns-in-Some c =
    let h = (goal.at.returns-in-Some c).In-Some in
    let a = c.args in
    let t = a.t.now in
    subst (λ (fs : List Face). FacesIn t a.out.now a.at fs c.put_key.new.out (a.at + 1)) (one h)
    (faces-one t a.out.now a.at c.in-Some.fresh.face c.put_key.new.out
    (subst (λ (v : ℕ). Put a.out.now a.at v c.put_key.new.out) (c.face_key-x.ensures t c.requires.in_order.0 c.requires.stand (four h))
    c.put_key.ensures))
