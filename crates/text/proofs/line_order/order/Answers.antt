-- `text::order` meets its promise. Assumes nothing.
use Rattle.std.proofs.Common.{◌≡◌, arith, rules, ◌+◌, ◌*◌}
use Rattle.std.proofs.lemmas.Int.{to_z-of_z}
use mir.Syntax.{w32}
use mir.Val.{SFits}
use Rattle.text.specs.LineOrder.{span, lifted, order_of}
use Rattle.text.proofs.line_order.order.Goals as goal

pub returns : goal.returns
unfolding order_of
returns c =
    let p = c.args.p in
    let fa : SFits w32 p.a = search rules in
    let fb : SFits w32 p.b = search rules in
    let a : c.lift-x.result ≡ lifted p.a = simp to_z-of_z at c.lift-x.ensures.0 in
    let b : c.lift-y.result ≡ lifted p.b = simp to_z-of_z at c.lift-y.ensures.0 in
    (λ i. (p.m.0 * span + a i) * span + b i, omega arith)
