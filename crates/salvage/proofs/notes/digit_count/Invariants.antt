-- The invariant of `salvage::notes::digit_count`: the digits passed and those left are all.
use Rattle.std.proofs.Common.{◌≡◌, ◌+◌, length}
use Rattle.text.specs.Decimal.{digits}
use Rattle.salvage.proofs.notes.digit_count.Given as goal

abbrev pub invariant-loop-v : goal.invariant-loop-v
invariant-loop-v l = l.w + length (digits l.v) ≡ length (digits l.n) + 1

abbrev pub decreases-loop-v : goal.decreases-loop-v
decreases-loop-v l = l.v
