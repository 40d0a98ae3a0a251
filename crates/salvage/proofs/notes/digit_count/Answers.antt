-- `salvage::notes::digit_count` meets its promise. Assumes nothing.
use Rattle.std.proofs.Common.{◌≤◌, ap, length, arith}
use Rattle.text.specs.Decimal.{digits}
use Rattle.text.specs.DecimalLaws.{digits-small, more-length, width-below}
use Rattle.salvage.proofs.notes.digit_count.Goals as goal

pub overflow_add-w : goal.overflow_add-w
overflow_add-w c =
    let twenty : length (digits c.args.n) ≤ 20 = width-below 20 c.args.n (omega arith) (omega arith) in omega (arith, c.loop-v.invariant, twenty)

pub loop-v-preserved : goal.loop-v-preserved
loop-v-preserved c = let big = more-length c.loop-v.v (omega (arith, c.loop-v-test.true)) in omega (arith, c.loop-v.invariant)

pub returns : goal.returns
returns c =
    let twenty : length (digits c.args.n) ≤ 20 = width-below 20 c.args.n (omega arith) (omega arith) in
    let one = ap length (digits-small c.loop-v.v (omega (arith, c.loop-v-test.false))) in
    record { value = omega (arith, c.loop-v.invariant, one); upper_bound = omega (arith, c.loop-v.invariant, one, twenty) }
