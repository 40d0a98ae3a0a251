-- The keys of the slots so far are stored, and their lines counted.
use Rattle.std.proofs.Common.{◌≡◌, map, length}
use Rattle.text.specs.Line.{lines}
use Rattle.writers.specs.Kept.{kept_at, standing, key_for}
use Rattle.writers.specs.KeptLaws.{Filled}
use Rattle.writers.proofs.kept.put_keys.Given as goal

abbrev pub invariant-loop-i : goal.invariant-loop-i
invariant-loop-i l = record {
  filled : Filled l.initial.out (map key_for (standing (kept_at l.table l.marks) l.i)) l.out l.put.keys;
  counted : l.put.bytes ≡ length (lines (standing (kept_at l.table l.marks) l.i));
}
