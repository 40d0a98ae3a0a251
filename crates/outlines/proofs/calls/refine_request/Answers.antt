-- `outlines::calls::refine_request` meets its promise. Assumes nothing.
use Rattle.std.proofs.Common.{sym, ◌∙◌}
use Rattle.table.specs.MapLaws.{test-order}
use Rattle.outlines.specs.CallLaws.{leave_same, request-1, request-17, request-on}
use Rattle.outlines.proofs.calls.refine_request.Goals as goal

pub returns-in_default : goal.returns-in_default
returns-in_default c =
    let a = c.args in
    request-1 a.table.now a.o a.passes a.level a.scratch.now c.in_default.ensures

pub returns-then-not-request_fits : goal.returns-then-not-request_fits
returns-then-not-request_fits c =
    let a = c.args in
    request-17 a.table.now a.o a.passes a.level a.scratch.now c.in-Some.ensures.0 (sym c.request_fits.ensures ∙ c.if-not-request_fits.true)

pub make_passes-requires : goal.make_passes-requires
make_passes-requires c =
    let o = c.in-Some.ensures in
    (record { table = c.requires.0; order = test-order c.args.table.now o.0; free = o.1 }, c.requires.1)

pub returns : goal.returns
returns c =
    let a = c.args in
    leave_same (request-on a.table.now a.o a.passes a.level a.scratch.now c.in-Some.ensures.0 (sym c.request_fits.ensures ∙ c.if-not-request_fits.false))
    c.make_passes.ensures
