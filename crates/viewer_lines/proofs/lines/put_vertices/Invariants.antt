-- The loop of `viewer_lines::lines::put_vertices`: the keys of the slots so far are stored. Assumes nothing.
use Rattle.table.specs.Slots.{slot_at}
use Rattle.writers.specs.KeptLaws.{Filled}
use Rattle.numbering.specs.Keyed.{keys_below}
use Rattle.viewer_lines.proofs.lines.put_vertices.Given as goal

abbrev pub invariant-loop-i : goal.invariant-loop-i
invariant-loop-i l = Filled l.initial.out (keys_below (slot_at l.t) l.i) l.out l.k
