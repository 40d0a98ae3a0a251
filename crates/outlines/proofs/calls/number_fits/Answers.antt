-- `outlines::calls::number_fits` meets its promise. Assumes nothing.
use Rattle.outlines.specs.Outlines.{thousand}
use Rattle.outlines.specs.FitLaws.{fits-words}
use Rattle.outlines.proofs.calls.number_fits.Goals as goal

pub returns : goal.returns
unfolding thousand
returns c = fits-words c.args.x
