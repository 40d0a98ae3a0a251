-- The invariant of `table::copy`: the first bytes are copied, and the rest are as they were.
use Rattle.std.proofs.Common.{◌≡◌, ◌++◌, length, take, drop}
use Rattle.table.proofs.slots.copy.Given as goal

abbrev pub invariant-loop-i : goal.invariant-loop-i
invariant-loop-i l = record { bytes : l.to ≡ take l.i l.from ++ drop l.i l.initial.to; long : length l.to ≡ length l.initial.to }
