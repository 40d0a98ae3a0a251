-- `local::ring_count` meets its promise: three points looked up. Assumes nothing.
use Rattle.std.proofs.Common.{◌+◌, ◌≤◌, Bool, true, false, ◌∙◌, ap, lit≤, arith}
use Rattle.std.specs.Int.{from_bool}
use Rattle.local.specs.Sheet.{held-there}
use Rattle.local.proofs.lookups.ring_count.Goals as goal

at-most-one : (b : Bool) → from_bool b ≤ 1
at-most-one true = lit≤ tt
at-most-one false = lit≤ tt

pub returns : goal.returns
returns c =
    let t = c.args.t.now in
    let e = c.from.ensures ∙ ap from_bool (c.is_there-x.ensures ∙ held-there t c.moved.ensures) in
    let f = c.from-2.ensures ∙ ap from_bool (c.is_there-y.ensures ∙ held-there t c.moved-2.ensures) in
    let g = c.from-3.ensures ∙ ap from_bool (c.is_there-z.ensures ∙ held-there t c.moved-3.ensures) in
    ((λ i. e i + f i + g i), omega (arith, c.from.ensures, c.from-2.ensures, c.from-3.ensures, at-most-one))
