-- `outlines::calls::request_fits` meets its promise. Assumes nothing.
use mathlib.Core.Path.{ap}
use mathlib.Core.Bool.{Bool, ◌&&◌}
use lib.Dec.{leb}
use Rattle.outlines.specs.Outlines.{request_fits}
use Rattle.outlines.proofs.calls.request_fits.Goals as goal

pub returns : goal.returns
unfolding request_fits
returns c = let a = c.args in ap (λ (b : Bool). b && (leb a.passes 12 && leb a.level 12)) c.outline_fits.ensures
