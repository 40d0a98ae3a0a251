-- The invariant of `salvage::filling::enter_keys`: the records of the keys passed have entered.
use Rattle.salvage.specs.FillLaws.{Entering}
use Rattle.salvage.proofs.filling.enter_keys.Given as goal

abbrev pub invariant-loop-i : goal.invariant-loop-i
invariant-loop-i l = Entering l.keys l.initial.table l.k l.i l.table
