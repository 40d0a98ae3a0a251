-- The invariant of `text::write_bytes`: the bytes so far are stored.
use Rattle.text.specs.Copy.{Copied}
use Rattle.text.proofs.bytes.write_bytes.Given as goal

abbrev pub invariant-loop-i : goal.invariant-loop-i
invariant-loop-i l = Copied l.initial.out l.at l.bytes l.i l.out
