-- The loop of `lookups::fb_lookups`: so many of the first i points are there.
use Rattle.std.proofs.Common.{◌≡◌, ◌≤◌}
use Rattle.lookups.specs.Lookups.{held_to}
use Rattle.lookups.proofs.fb_lookups.Given as goal

abbrev pub invariant-loop-i : goal.invariant-loop-i
invariant-loop-i l = record { most : l.found ≤ l.i; count : l.found ≡ held_to l.table l.points l.m l.i }
