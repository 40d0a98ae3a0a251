-- `firsts::stride` meets its promise: by whether the row has one there. Assumes nothing.
use Rattle.std.proofs.Common.{Bool, cond, ◌+◌, ◌*◌, ◌/◌, ◌%◌, sym, ap, arith, eq-eqb, ne_eqb}
use Rattle.firsts.specs.Strides.{part_of, stride_of}
use Rattle.firsts.proofs.strides.stride.Goals as goal

pub returns-then-r-eq63 : goal.returns-then-r-eq63
unfolding stride_of
returns-then-r-eq63 c =
    let a = c.args in
    let p = part_of a.row a.j in
    (sym (ap (λ (b : Bool). cond b 0 (16 * (a.n.0 + p / 16) + (a.k + p % 16) % 12)) (eq-eqb p 63 c.if-r-eq63.true)), omega arith)

pub returns : goal.returns
unfolding stride_of
returns c =
    let a = c.args in
    let p = part_of a.row a.j in
    (sym (ap (λ (b : Bool). cond b 0 (16 * (a.n.0 + p / 16) + (a.k + p % 16) % 12)) (ne_eqb p 63 c.if-r-eq63.false)), omega arith)
