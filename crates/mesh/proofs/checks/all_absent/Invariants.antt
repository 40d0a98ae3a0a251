-- The loop of `mesh::checks::all_absent`: no vertex stands at the points so far, and where a slot is free the searches for them stopped at the slots
-- kept. Assumes nothing.
use Rattle.std.proofs.Common.{◌≡◌, true, not, ◌<◌, length}
use Rattle.laws.specs.Rules.{upto}
use Rattle.lattice.specs.Stars.{adjacent_at}
use Rattle.table.specs.Slots.{free_slots}
use Rattle.table.specs.Entries.{holds}
use Rattle.mesh.specs.Met.{StoppedAt}
use Rattle.mesh.proofs.checks.all_absent.Given as goal

abbrev pub invariant-loop-j : goal.invariant-loop-j
invariant-loop-j l =
    record {
      absent : upto l.j (λ k. not (holds l.t (adjacent_at l.c k))) ≡ true;
      long : length l.slots ≡ 6;
      stopped_at : 0 < free_slots l.t → StoppedAt l.t l.c l.slots l.j;
    }
