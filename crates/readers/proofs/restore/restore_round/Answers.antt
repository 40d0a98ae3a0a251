-- `readers::restore_round` meets its promise. Assumes nothing.
use Rattle.std.proofs.Common.{◌≡◌, ap, refl, arith}
use Rattle.lattice.specs.RefusalLaws.{number-some}
use Rattle.laws.specs.Choices.{of-true}
use Rattle.lattice.specs.RecordLaws.{valid-turn}
use Rattle.table.specs.MapLaws.{table_same}
use Rattle.lattice.specs.declared.records.Record.{Record}
use Rattle.table.specs.Entries.{look_up}
use Rattle.readers.specs.Readers.{With, restore}
use Rattle.readers.specs.Keeps.{is_three}
use Rattle.readers.specs.FaultLaws.{handed-on}
use Rattle.readers.specs.RestoreSteps.{mends-as, six-inner, rounding-start, rounding-stop, rounding-more, rounding-end}
use Rattle.readers.proofs.restore.restore_round.Goals as goal

pub loop-j-init : goal.loop-j-init
loop-j-init c = rounding-start c.args.before.now c.args.table.now c.args.v

pub born-requires : goal.born-requires
born-requires c =
    let ok = c.requires.1.0 in
    (six-inner c.args.v ok c.requires.1.1, (omega arith, valid-turn c.args.v (of-true ok)))

pub restore_record-requires : goal.restore_record-requires
restore_record-requires c = table_same c.args.table.now c.loop-j.table c.args.n c.loop-j.invariant.long c.requires.0

pub returns-in_err-kept : goal.returns-in_err-kept
returns-in_err-kept c =
    let m = mends-as (ap (restore (With c.loop-j.table)) c.born.ensures) (ap (λ (r : Record). is_three (look_up c.args.before.now r.at)) c.born.ensures)
    c.in_err-kept.ensures in
    rw (handed-on c.from_residual.ensures.1) (rounding-stop c.loop-j.invariant c.loop-j-test.true m (number-some c.in_err-kept.field-0.0))

pub loop-j-preserved : goal.loop-j-preserved
loop-j-preserved c =
    let m = mends-as (ap (restore (With c.loop-j.table)) c.born.ensures) (ap (λ (r : Record). is_three (look_up c.args.before.now r.at)) c.born.ensures)
    c.in_ok-kept.ensures in
    rounding-more c.loop-j.invariant c.loop-j-test.true m refl (omega (arith, c.restore_record.auto))

pub returns : goal.returns
returns c = let e : c.loop-j.j ≡ 6 = omega arith in rounding-end c.loop-j.invariant e
