-- `outlines::calls::outline_fits` meets its promise, by the outline's case. Assumes nothing.
use mathlib.Core.Path.{sym, ap, ◌∙◌}
use mathlib.Core.Bool.{◌&&◌}
use lib.Ieee.{lt}
use Rattle.outlines.specs.Outlines.{nought, outline_fits}
use Rattle.outlines.proofs.calls.outline_fits.Goals as goal

pub returns-in-Disc : goal.returns-in-Disc
unfolding outline_fits nought
returns-in-Disc c =
    (λ i.
    c.number_fits.ensures i && (c.number_fits-in-Disc.ensures i && (c.number_fits-in-Disc-2.ensures i && lt nought c.in-Disc.r)))
    ∙ sym (ap outline_fits c.in-Disc.is)

pub returns-in-Line : goal.returns-in-Line
unfolding outline_fits
returns-in-Line c =
    (λ i. c.number_fits-in-Line.ensures i && (c.number_fits-in-Line-2.ensures i && c.number_fits-in-Line-3.ensures i))
    ∙ sym (ap outline_fits c.in-Line.is)
