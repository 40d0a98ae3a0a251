-- Only guesses were stored.
use Rattle.numbering.specs.Guesses.{Guessed}
use Rattle.numbering.proofs.guesses.put_guesses.Given as goal

abbrev pub invariant-loop-i : goal.invariant-loop-i
invariant-loop-i l = Guessed l.initial.out l.k l.base l.n l.out
