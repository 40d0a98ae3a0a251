-- `salvage::mending::refill` meets its promise. Assumes nothing.
use Rattle.std.proofs.Common.{sym, ap, ◌∙◌, refl, subst, List, length}
use Rattle.lattice.specs.RefusalLaws.{number-some}
use Rattle.lattice.specs.Refusals.{number_told}
use Rattle.lattice.specs.declared.records.Record.{Record}
use Rattle.table.specs.Slots.{Table, cleared_of}
use Rattle.table.specs.Entries.{records_of}
use Rattle.table.specs.MapLaws.{clear-length, table_same}
use Rattle.writers.specs.Files.{sorted}
use Rattle.readers.specs.Readers.{With, restore_all}
use Rattle.readers.specs.FaultLaws.{handed-on}
use Rattle.salvage.specs.Salvage.{enter_all}
use Rattle.salvage.specs.KeyLaws.{keys-valid}
use Rattle.salvage.specs.FilledLaws.{refill-stops, refill-goes}
use Rattle.salvage.proofs.mending.refill.Goals as goal

pub enter_keys-requires : goal.enter_keys-requires
enter_keys-requires c =
    let t = c.args.table.now in (
      table_same t c.clear.new.t c.args.n (ap length c.clear.ensures ∙ clear-length t) (subst (Table t) (sym c.requires.0) c.requires.1.order.fits),
      c.requires.1.room,
    )

pub returns-in_err-enter_keys : goal.returns-in_err-enter_keys
returns-in_err-enter_keys c =
    rw (handed-on c.from_residual.ensures.1)
    (refill-stops (sorted (records_of c.args.table.now)) (cleared_of c.args.table.now) _ c.enter_keys.new.table
    (c.in_err-enter_keys.ensures ∙ (λ i. enter_all (c.requires.1.records i) (With (c.clear.ensures i)))) (number-some c.in_err-enter_keys.field-0.0))

pub restore_keys-requires : goal.restore_keys-requires
restore_keys-requires c =
    let t = c.args.table.now in
    let fits = table_same t c.clear.new.t c.args.n (ap length c.clear.ensures ∙ clear-length t) (subst (Table t) (sym c.requires.0) c.requires.1.order.fits) in
    record {
      table = (table_same c.clear.new.t c.enter_keys.new.table c.args.n c.enter_keys.auto.table fits, c.requires.1.room);
      by_index = keys-valid t c.args.scratch.now c.args.k c.requires.1;
    }

pub returns : goal.returns
returns c =
    let u = c.enter_keys.new.table in
    refill-goes (sorted (records_of c.args.table.now)) (cleared_of c.args.table.now) 0 u
    (c.in_ok-enter_keys.ensures ∙ (λ i. enter_all (c.requires.1.records i) (With (c.clear.ensures i)))) refl
    (number_told c.restore_keys.result) c.restore_keys.new.table
    (c.restore_keys.ensures ∙ ap (λ (l : List Record). restore_all l (With u)) c.requires.1.records)
