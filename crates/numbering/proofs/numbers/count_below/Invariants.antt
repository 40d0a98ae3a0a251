-- The slots so far are counted.
use Rattle.std.proofs.Common.{◌≡◌, ◌≤◌}
use Rattle.table.specs.Entries.{records_below}
use Rattle.numbering.specs.Numbering.{how_many}
use Rattle.numbering.specs.Ranks.{lower}
use Rattle.numbering.proofs.numbers.count_below.Given as goal

abbrev pub invariant-loop-i : goal.invariant-loop-i
invariant-loop-i l = record { counted : l.count ≡ how_many (lower l.x) (records_below l.table l.i); most : l.count ≤ l.i }
