-- `findings::write_keys`: `Left`, the keys left and the lines written. Assumes nothing.
use Rattle.std.proofs.Common.{List, drop}
use Rattle.findings.specs.Laying.{Ready}
use Rattle.findings.specs.BackLaws.{Left}
use Rattle.findings.specs.declared.line.Finding.{Finding}
use Rattle.findings.proofs.lines.write_keys.Given as goal

abbrev pub invariant-loop-i : goal.invariant-loop-i
invariant-loop-i l =
    (fs : List Finding) → Ready l.list fs l.initial.out l.k l.total → Left l.list fs (drop l.total l.initial.out) l.out l.i l.at
