-- The invariant of `local::all_pass`: the records so far pass, and `any` says whether there is one. Assumes nothing.
use Rattle.std.proofs.Common.{◌≡◌, true}
use Rattle.table.specs.Entries.{records_below}
use Rattle.local.specs.Slots.{has_any, pass_below}
use Rattle.local.proofs.checks.all_pass.Given as goal

abbrev pub invariant-loop-i : goal.invariant-loop-i
invariant-loop-i l = record {
  pass : pass_below l.t l.i ≡ true;
  any_is : l.any ≡ has_any (records_below l.t l.i);
}
