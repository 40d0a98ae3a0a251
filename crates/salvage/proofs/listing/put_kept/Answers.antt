-- `salvage::listing::put_kept` meets its promise. Assumes nothing.
use Rattle.salvage.specs.NoteLaws.{puts-most, puts_then}
use Rattle.salvage.proofs.listing.put_kept.Goals as goal

pub put_if-requires : goal.put_if-requires
put_if-requires c = (puts-most c.put_if-past.ensures, c.requires.1)

pub returns : goal.returns
returns c = puts_then c.put_if-past.ensures c.put_if.ensures
