-- `viewer::is_short` meets its promise: by the longest lines, else by their own lengths. Assumes nothing.
use Rattle.std.proofs.Common.{ℕ, ◌+◌, sym, ◌∙◌, ap, arith, le-ltb, ltb}
use Rattle.viewer.specs.CallLaws.{face-part, face-part-most}
use Rattle.viewer.proofs.is_short.Goals as goal

pub returns-then-start-faces : goal.returns-then-start-faces
returns-then-start-faces c =
    let a = c.args in
    let p = c.requires in
    sym (le-ltb a.len _ (omega (arith, face-part-most a.s a.t.now p.in_order.0 p.t_value.0 p.t_value.1)))

pub returns : goal.returns
returns c =
    let a = c.args in
    let p = c.requires in
    ap (λ (w : ℕ). ltb a.len (a.start + w)) (c.faces_length.ensures.0 ∙ face-part a.s a.t.now p.in_order.0 a.n p.in_order.1)
