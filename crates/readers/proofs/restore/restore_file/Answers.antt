-- `readers::restore_file` meets its promise: scratch holds the table as the lines left it. Assumes nothing.
use Rattle.std.proofs.Common.{sym, ◌∙◌, ap, subst, List, ℕ, length, replicate}
use Rattle.laws.specs.Some.{some_of}
use Rattle.lattice.specs.Refusals.{number_told}
use Rattle.table.specs.Slots.{Table}
use Rattle.readers.specs.Readers.{With, restore_all}
use Rattle.readers.specs.Keeps.{record_keeps, Since, since-start}
use Rattle.readers.specs.RestoreSteps.{kept_told, Mends, file_records}
use Rattle.readers.proofs.restore.restore_file.Goals as goal

pub restore_all-kept-requires : goal.restore_all-kept-requires
restore_all-kept-requires c =
    let t = c.args.table.now in (
      subst (Table t) (sym c.requires.1.1) c.requires.1.0.fits,
      subst (λ (b : List ℕ). Since b t) (sym c.copy.ensures) (since-start t c.requires.1.0),
    )

pub returns : goal.returns
returns c =
    let t = c.args.table.now in
    let rs = file_records c.args.file.now in
    let r = c.restore_all-kept in
    record {
      mends = subst (λ (b : List ℕ). Mends b t (restore_all rs (With t)) (some_of (record_keeps b) rs) (number_told r.result) (kept_told r.result) r.new.table)
          c.copy.ensures r.ensures;
      scratch_after = c.clear.ensures ∙ ap (λ (k : ℕ). replicate k 255) (ap length c.copy.ensures ∙ sym c.requires.0);
    }
