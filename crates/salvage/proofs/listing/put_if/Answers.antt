-- `salvage::listing::put_if` meets its promise. Assumes nothing.
use Rattle.std.proofs.Common.{sym, ap, Bool}
use Rattle.salvage.specs.Salvage.{change_if}
use Rattle.salvage.specs.NoteLaws.{puts_none, puts-same}
use Rattle.salvage.proofs.listing.put_if.Goals as goal

pub returns-then-test : goal.returns-then-test
returns-then-test c = puts-same (ap (λ (b : Bool). change_if b c.args.line c.args.word.now) (sym c.if-test.true)) c.put_note.ensures

pub returns : goal.returns
returns c =
    puts-same (ap (λ (b : Bool). change_if b c.args.line c.args.word.now) (sym c.if-test.false))
    (puts_none c.args.out.now c.args.at c.args.room c.requires.0)
