-- The invariant of `counts::count_degrees`: the slots so far are counted, degree by degree. Assumes nothing.
use Rattle.counts.specs.Counted.{slot_degree}
use Rattle.counts.specs.CaseLaws.{Summed}
use Rattle.counts.proofs.degrees.count_degrees.Given as goal

abbrev pub invariant-loop-k : goal.invariant-loop-k
invariant-loop-k l = record {
  none : Summed (slot_degree l.t 0) 1 l.k l.d0;
  three : Summed (slot_degree l.t 3) 1 l.k l.d3;
  four : Summed (slot_degree l.t 4) 1 l.k l.d4;
  five : Summed (slot_degree l.t 5) 1 l.k l.d5;
  six : Summed (slot_degree l.t 6) 1 l.k l.d6;
}
