-- `readers::complete` meets its promise: by the tests, in the order of document 01. Assumes nothing.
use Rattle.std.proofs.Common.{sym, ◌∙◌, refl, true, false}
use Rattle.readers.specs.CallLaws.{restored-order, restored-slots, mended-closes}
use Rattle.readers.specs.RestoreSteps.{file_records}
use Rattle.readers.proofs.complete.complete.Goals as goal

pub all_pass-requires : goal.all_pass-requires
all_pass-requires c =
    let f = c.args.file.now in
    let rs = file_records f in
    let whole = sym c.in_ok-kept.ensures.mends.is in (
      restored-order f c.args.n rs c.args.table.now c.restore_file.new.table c.requires.1 whole,
      restored-slots f c.args.n rs c.args.table.now c.restore_file.new.table c.requires.1 whole,
    )

pub returns-then-not-all_pass-clause-closes : goal.returns-then-not-all_pass-clause-closes
returns-then-not-all_pass-clause-closes c =
    mended-closes c.args.file.now c.args.n (file_records c.args.file.now) c.args.table.now c.restore_file.new.table c.requires.1 c.in_ok-kept.ensures.mends
    false c.in_ok-kept.kept (sym c.all_pass.ensures ∙ c.if-not-all_pass.true) refl

pub returns-then-kept-clause-closes : goal.returns-then-kept-clause-closes
returns-then-kept-clause-closes c =
    mended-closes c.args.file.now c.args.n (file_records c.args.file.now) c.args.table.now c.restore_file.new.table c.requires.1 c.in_ok-kept.ensures.mends
    true true (sym c.all_pass.ensures ∙ c.if-not-all_pass.false) c.if-kept.true

pub returns-clause-closes : goal.returns-clause-closes
returns-clause-closes c =
    mended-closes c.args.file.now c.args.n (file_records c.args.file.now) c.args.table.now c.restore_file.new.table c.requires.1 c.in_ok-kept.ensures.mends
    true false (sym c.all_pass.ensures ∙ c.if-not-all_pass.false) c.if-kept.false
