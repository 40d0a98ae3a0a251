-- The loop of `outlines::listing::put_list`: the keys of the slots so far are stored. Assumes nothing.
use Rattle.std.proofs.Common.{map}
use Rattle.writers.specs.Kept.{standing}
use Rattle.writers.specs.KeptLaws.{Filled}
use Rattle.outlines.specs.ListLaws.{point_key, wanted_at}
use Rattle.outlines.proofs.listing.put_list.Given as goal

abbrev pub invariant-loop-i : goal.invariant-loop-i
invariant-loop-i l = Filled l.initial.out (map point_key (standing (wanted_at l.o l.level l.table) l.i)) l.out l.k
