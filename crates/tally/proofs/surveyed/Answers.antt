-- `tally::surveyed` meets its promise: by the local check. Assumes nothing.
use Rattle.std.proofs.Common.{sym, ◌∙◌}
use Rattle.laws.specs.Choices.{of-true}
use Rattle.grown.specs.Grown.{passes-grown}
use Rattle.together.specs.Plain.{plain-grown}
use Rattle.tally.proofs.surveyed.Goals as goal

pub tally-counts-requires : goal.tally-counts-requires
tally-counts-requires c =
    (passes-grown c.args.t.now c.requires.0 (of-true (sym c.all_pass.ensures ∙ c.if-all_pass.true)), c.requires.1)

pub returns-then-all_pass : goal.returns-then-all_pass
returns-then-all_pass c =
    (c.tally-counts.ensures, sym (plain-grown _ (passes-grown c.args.t.now c.requires.0 (of-true (sym c.all_pass.ensures ∙ c.if-all_pass.true)))))
