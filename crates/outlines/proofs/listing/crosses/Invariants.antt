-- The loop of `outlines::listing::crosses`: none of the edges so far crosses. Assumes nothing.
use Rattle.std.proofs.Common.{◌≡◌, false}
use Rattle.laws.specs.Rules.{among}
use Rattle.outlines.specs.Outlines.{crosses_at}
use Rattle.outlines.proofs.listing.crosses.Given as goal

abbrev pub invariant-loop-j : goal.invariant-loop-j
invariant-loop-j l = among l.j (crosses_at l.o l.v) ≡ false
