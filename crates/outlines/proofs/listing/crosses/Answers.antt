-- `outlines::listing::crosses` meets its promise. Assumes nothing.
use Rattle.std.proofs.Common.{◌≡◌, sym, ◌∙◌, refl, Bool, true, false, not, arith}
use Rattle.std.proofs.Math.Bool.{beq}
use Rattle.laws.specs.Each.{at-among, among-more}
use Rattle.outlines.specs.Outlines.{unlike, crosses_at}
use Rattle.outlines.specs.ListLaws.{star-located, own-located, six-inner, crosses-is}
use Rattle.outlines.proofs.listing.crosses.Goals as goal

-- one of two holds, not both: they differ
unlike-is : (x y : Bool) → unlike x y ≡ not (beq x y)
unlike-is true true = refl
unlike-is true false = refl
unlike-is false true = refl
unlike-is false false = refl

pub is_below-here-requires : goal.is_below-here-requires
is_below-here-requires c = own-located c.args.v c.requires.0

pub adjacent_of-requires : goal.adjacent_of-requires
adjacent_of-requires c = (six-inner c.args.v c.requires.0 c.requires.1, omega (arith, c.loop-j-test.true, c.requires.1))

pub is_below-there-requires : goal.is_below-there-requires
is_below-there-requires c =
    rw c.adjacent_of.ensures (star-located c.args.v (six-inner c.args.v c.requires.0 c.requires.1) c.loop-j.j (omega (arith, c.loop-j-test.true, c.requires.1)))

pub returns-then-here-there : goal.returns-then-here-there
returns-then-here-there c =
    let a = c.args in
    let j = c.loop-j.j in
    let u = unlike-is c.is_below-here.result c.is_below-there.result ∙ c.if-here-there.true in
    let d = rw (c.is_below-here.ensures, c.is_below-there.ensures, c.adjacent_of.ensures) at u in
    sym (at-among (crosses_at a.o a.v) 6 j c.loop-j-test.true (sym (crosses-is a.o a.v j) ∙ d))

pub loop-j-preserved : goal.loop-j-preserved
loop-j-preserved c =
    let a = c.args in
    let j = c.loop-j.j in
    let u = unlike-is c.is_below-here.result c.is_below-there.result ∙ c.if-here-there.false in
    let d = rw (c.is_below-here.ensures, c.is_below-there.ensures, c.adjacent_of.ensures) at u in
    among-more (crosses_at a.o a.v) j c.loop-j.invariant (sym (crosses-is a.o a.v j) ∙ d)

pub returns : goal.returns
returns c = let e : c.loop-j.j ≡ 6 = omega arith in sym (rw e at c.loop-j.invariant)
