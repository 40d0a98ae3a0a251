-- `salvage::filling::restore_keys` meets its promise. Assumes nothing.
use Rattle.std.proofs.Common.{ap, ◌∙◌, refl, arith}
use Rattle.lattice.specs.RefusalLaws.{number-some}
use Rattle.lattice.specs.Records.{valid_of}
use Rattle.lattice.specs.declared.records.Record.{Record}
use Rattle.table.specs.MapLaws.{table_same}
use Rattle.writers.specs.Kept.{record_for}
use Rattle.readers.specs.Readers.{With, restore_star}
use Rattle.readers.specs.FaultLaws.{handed-on}
use Rattle.salvage.specs.FillLaws.{restoring-start, restoring-end, restoring-stops, restoring-more}
use Rattle.salvage.proofs.filling.restore_keys.Goals as goal

pub loop-i-init : goal.loop-i-init
loop-i-init c = restoring-start c.args.keys.now c.args.table.now c.args.k

pub key-requires : goal.key-requires
key-requires c = omega (arith, c.requires.table.1)

pub restore_record-requires : goal.restore_record-requires
restore_record-requires c =
    let told = c.unpack.ensures ∙ ap record_for c.key.ensures in (
      table_same c.args.table.now c.loop-i.table c.args.n c.loop-i.invariant.long c.requires.table.0,
      ap valid_of told ∙ c.requires.by_index c.loop-i.i c.loop-i-test.true,
    )

pub returns-in_err-restore_record : goal.returns-in_err-restore_record
returns-in_err-restore_record c =
    let told = c.unpack.ensures ∙ ap record_for c.key.ensures in
    let why = c.in_err-restore_record.field-0.0 in
    rw (handed-on c.from_residual.ensures.1)
    (restoring-stops c.args.keys.now c.args.table.now c.args.k c.loop-i.i c.loop-i.table c.loop-i.invariant c.loop-i-test.true _ c.restore_record.new.table
    (c.in_err-restore_record.ensures ∙ ap (λ (r : Record). restore_star r (With c.loop-i.table)) told) (number-some why))

pub loop-i-preserved : goal.loop-i-preserved
loop-i-preserved c =
    let told = c.unpack.ensures ∙ ap record_for c.key.ensures in
    restoring-more c.args.keys.now c.args.table.now c.args.k c.loop-i.i c.loop-i.table c.loop-i.invariant c.loop-i-test.true 0 c.restore_record.new.table
    (c.in_ok-restore_record.ensures ∙ ap (λ (r : Record). restore_star r (With c.loop-i.table)) told) refl (omega (arith, c.restore_record.auto))

pub returns : goal.returns
returns c =
    restoring-end c.args.keys.now c.args.table.now c.args.k c.loop-i.i c.loop-i.table c.loop-i.invariant (λ l. let z = c.loop-i-test.false in omega arith)
