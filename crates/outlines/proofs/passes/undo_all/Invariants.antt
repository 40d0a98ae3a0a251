-- The loop of `outlines::passes::undo_all`: the subdivisions at the keys left lead from the table before all of them to this one. Assumes nothing.
use Rattle.std.proofs.Common.{List, ℕ}
use Rattle.table.specs.Slots.{Table}
use Rattle.outlines.specs.PassLaws.{Steps}
use Rattle.outlines.proofs.passes.undo_all.Given as goal

abbrev pub invariant-loop-left : goal.invariant-loop-left
invariant-loop-left l =
    record {
      table : Table l.t l.n;
      some : (u : List ℕ) × Steps l.keys u l.left l.t;
      each : (u : List ℕ) → Steps l.keys u l.i l.initial.t → Steps l.keys u l.left l.t;
    }
