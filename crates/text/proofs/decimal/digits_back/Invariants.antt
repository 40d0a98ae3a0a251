-- `text::digits_back`: with the digits that are left stored too, all are stored. Assumes nothing.
use Rattle.std.proofs.Common.{◌≡◌, ◌+◌, ◌-◌, ◌≤◌, length}
use Rattle.std.proofs.lemmas.List.Edits.{sets}
use Rattle.text.specs.Decimal.{digits}
use Rattle.text.proofs.decimal.digits_back.Given as goal

abbrev pub invariant-loop-v : goal.invariant-loop-v
invariant-loop-v l =
    let start = l.end - length (digits l.n) in
    record {
      past : l.at ≤ l.end;
      spot : start + length (digits l.v) ≡ l.at;
      bytes : sets l.out start (digits l.v) ≡ sets l.initial.out start (digits l.n);
    }

abbrev pub decreases-loop-v : goal.decreases-loop-v
decreases-loop-v l = l.v
