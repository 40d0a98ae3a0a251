-- `viewer_lines::lengths::star_length` meets its promise. Assumes nothing.
use Rattle.std.proofs.Common.{◌≡◌, ◌∙◌, ap, ℕ, arith, length}
use Rattle.lattice.specs.RecordLaws.{Inner}
use Rattle.firsts.specs.EarlierLaws.{star-inner, valid-degree}
use Rattle.firsts.specs.Faces.{gather}
use Rattle.mesh_faces.specs.Once.{fresh_at}
use Rattle.viewer_lines.specs.ViewerLines.{texts}
use Rattle.viewer_lines.specs.Lines.{face_line, star-start, star-more}
use Rattle.viewer_lines.proofs.lengths.star_length.Goals as goal
use Rattle.viewer_lines.proofs.lengths.star_length.Goals.{In-loop-j}

pub loop-j-init : goal.loop-j-init
loop-j-init c = let a = c.args in (star-start a.s a.t.now (fresh_at a.t.now a.k a.v), omega arith)

-- in the loop there is a star
star : (c : In-loop-j) → Inner c.args.v
star c =
    let p = c.requires in
    star-inner c.args.t.now p.in_order.0 c.args.k c.args.v (omega arith) p.k_lt_n.1 c.loop-j.j (omega arith)

pub corner_length-total-requires-clause-inner : goal.corner_length-total-requires-clause-inner
corner_length-total-requires-clause-inner c = (star c, omega arith)

pub loop-j-preserved : goal.loop-j-preserved
loop-j-preserved c =
    let a = c.args in
    let h = c.loop-j.invariant in
    let e = c.corner_length-total.ensures in
    (omega (arith, h.0, e.0, star-more a.s a.t.now (fresh_at a.t.now a.k a.v) c.loop-j.j), omega (arith, h.1, e.1))

pub returns : goal.returns
returns c =
    let p = c.requires in
    let d = valid-degree c.args.v (p.in_order.0.valid c.args.k c.args.v (omega arith) p.k_lt_n.1) in
    let e : c.loop-j.j ≡ c.args.v.d = omega arith in
    let h = c.loop-j.invariant in (
      h.0 ∙ ap (λ (j : ℕ). length (texts (face_line c.args.s c.args.t.now) (gather j (fresh_at c.args.t.now c.args.k c.args.v)))) e,
      omega (arith, h.1, d),
    )
