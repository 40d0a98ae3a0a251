-- `salvage::filling::enter_keys` meets its promise. Assumes nothing.
use Rattle.std.proofs.Common.{ap, ◌∙◌, refl, arith}
use Rattle.lattice.specs.RefusalLaws.{number-some}
use Rattle.lattice.specs.declared.records.Record.{Record}
use Rattle.table.specs.MapLaws.{table_same}
use Rattle.writers.specs.Kept.{record_for}
use Rattle.readers.specs.Readers.{With}
use Rattle.readers.specs.FaultLaws.{handed-on}
use Rattle.salvage.specs.Salvage.{entering}
use Rattle.salvage.specs.FillLaws.{entering-start, entering-end, entering-stops, entering-more}
use Rattle.salvage.proofs.filling.enter_keys.Goals as goal

pub loop-i-init : goal.loop-i-init
loop-i-init c = entering-start c.args.keys.now c.args.table.now c.args.k

pub key-requires : goal.key-requires
key-requires c = omega (arith, c.requires.1)

pub enter_record-requires : goal.enter_record-requires
enter_record-requires c = table_same c.args.table.now c.loop-i.table c.args.n c.loop-i.invariant.long c.requires.0

pub returns-in_err-enter_record : goal.returns-in_err-enter_record
returns-in_err-enter_record c =
    let told = c.unpack.ensures ∙ ap record_for c.key.ensures in
    let why = c.in_err-enter_record.field-0.0 in
    rw (handed-on c.from_residual.ensures.1)
    (entering-stops c.args.keys.now c.args.table.now c.args.k c.loop-i.i c.loop-i.table c.loop-i.invariant c.loop-i-test.true _ c.enter_record.new.table
    (c.in_err-enter_record.ensures ∙ ap (λ (r : Record). entering (With c.loop-i.table) r) told) (number-some why))

pub loop-i-preserved : goal.loop-i-preserved
loop-i-preserved c =
    let told = c.unpack.ensures ∙ ap record_for c.key.ensures in
    entering-more c.args.keys.now c.args.table.now c.args.k c.loop-i.i c.loop-i.table c.loop-i.invariant c.loop-i-test.true 0 c.enter_record.new.table
    (c.in_ok-enter_record.ensures ∙ ap (λ (r : Record). entering (With c.loop-i.table) r) told) refl (omega (arith, c.enter_record.auto))

pub returns : goal.returns
returns c =
    entering-end c.args.keys.now c.args.table.now c.args.k c.loop-i.i c.loop-i.table c.loop-i.invariant (λ l. let z = c.loop-i-test.false in omega arith)
