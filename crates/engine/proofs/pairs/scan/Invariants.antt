-- What the pairs so far show was seen. Assumes nothing.
use Rattle.std.proofs.Common.{◌≡◌}
use Rattle.engine.specs.Scan.{seen_of}
use Rattle.engine.proofs.pairs.scan.Given as goal

abbrev pub invariant-loop-j : goal.invariant-loop-j
invariant-loop-j l = l.s ≡ seen_of l.pairs l.j l.w
