-- `tally::beside` meets its promise. Assumes nothing.
use Rattle.std.proofs.Common.{ap, ◌∙◌, arith, w32}
use Rattle.laws.specs.Machine.{Mx, back, need, whole, ◌+ᵐ◌}
use Rattle.lattice.specs.Bounds.{summable}
use Rattle.lattice.specs.Points.{pt}
use Rattle.table.specs.Entries.{holds}
use Rattle.local.specs.BornLaws.{small_size}
use Rattle.counts.specs.CaseLaws.{bit-from, from-most}
use Rattle.firsts.specs.Faces.{bit}
use Rattle.tally.proofs.beside.Goals as goal

pub overflow_add-q : goal.overflow_add-q
overflow_add-q c = let a = c.args in need (whole a.p.a summable (small_size a.p c.requires.in_order.1.1).0 +ᵐ whole a.x 2 c.requires.x_bound.0) tt

pub overflow_add-q-2 : goal.overflow_add-q-2
overflow_add-q-2 c = let a = c.args in need (whole a.p.b summable (small_size a.p c.requires.in_order.1.1).1 +ᵐ whole a.y 2 c.requires.x_bound.1) tt

pub returns : goal.returns
returns c =
    let a = c.args in
    let t = a.t.now in
    let across : Mx w32 = whole a.p.a summable (small_size a.p c.requires.in_order.1.1).0 +ᵐ whole a.x 2 c.requires.x_bound.0 in
    let up : Mx w32 = whole a.p.b summable (small_size a.p c.requires.in_order.1.1).1 +ᵐ whole a.y 2 c.requires.x_bound.1 in (
      c.from.ensures ∙ bit-from c.is_there.result ∙ ap bit (c.is_there.ensures ∙ (λ i. holds t (pt (back across tt i) (back up tt i) 0))),
      omega (arith, c.from.ensures, from-most),
    )
