-- The invariant of `salvage::filling::restore_keys`: what the records of the keys passed leave out is restored.
use Rattle.salvage.specs.FillLaws.{Restoring}
use Rattle.salvage.proofs.filling.restore_keys.Given as goal

abbrev pub invariant-loop-i : goal.invariant-loop-i
invariant-loop-i l = Restoring l.keys l.initial.table l.k l.i l.table
