-- `viewer_lines::lengths::corner_length` meets its promise: nothing where no face is written here. Assumes nothing.
use Rattle.std.proofs.Common.{◌≡◌, ap, sym, ◌∙◌, List, [], ◌∷◌, arith, length}
use Rattle.firsts.specs.declared.faces.Face.{Face}
use Rattle.viewer_lines.specs.ViewerLines.{texts}
use Rattle.mesh_faces.specs.Once.{Four, fresh_of, fresh_at, fresh-four}
use Rattle.viewer_lines.specs.Lines.{face_line, long-none, long-one}
use Rattle.viewer_lines.proofs.lengths.corner_length.Goals as goal
use Rattle.viewer_lines.proofs.lengths.corner_length.Goals.{In-Some}

-- the face that is written here
module _ (c : In-Some) where
  one : c.in-Some.fresh.face ∷ [] ≡ fresh_at c.args.t.now c.args.k c.args.v c.args.j
  one = ap fresh_of (sym c.in-Some.is) ∙ c.fresh_at.ensures

  four : Four c.args.t.now c.in-Some.fresh.face
  four =
      let p = c.requires in
      let a = c.args in
      fresh-four a.t.now p.in_order.0 p.in_order.1.1 a.k a.v (omega (arith, p.in_order.1.0, p.k_lt_n.0)) p.k_lt_n.1 a.j p.inner.1 c.in-Some.fresh.face one

pub face_length-requires : goal.face_length-requires
face_length-requires c =
    let p = c.requires in
    ((c.args.t.now, (p.in_order.0, (p.cuts.0, four (goal.at.face_length-requires c).In-Some))), p.cuts.1)

pub returns-in-None : goal.returns-in-None
returns-in-None c =
    let a = c.args in
    let t = a.t.now in (
      long-none a.s t ∙ ap (λ (l : List Face). length (texts (face_line a.s t) l)) (ap fresh_of (sym c.in-None.is) ∙ c.fresh_at.ensures),
      omega arith,
    )

pub returns-in-Some : goal.returns-in-Some
returns-in-Some c =
    let a = c.args in
    let t = a.t.now in
    let h = (goal.at.returns-in-Some c).In-Some in
    let e = c.face_length.ensures in (
      e.0 t c.requires.in_order.0 c.requires.cuts.0 (four h) ∙ sym (long-one a.s t c.in-Some.fresh.face)
          ∙ ap (λ (l : List Face). length (texts (face_line a.s t) l)) (one h),
      e.1,
    )
