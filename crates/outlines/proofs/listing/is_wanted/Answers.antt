-- `outlines::listing::is_wanted` meets its promise, test by test. Assumes nothing.
use mathlib.Core.Path.{◌∙◌}
use Rattle.outlines.specs.ListLaws.{wanted-six, wanted-level, wanted-on}
use Rattle.outlines.proofs.listing.is_wanted.Goals as goal

pub returns-then-d-ne6 : goal.returns-then-d-ne6
returns-then-d-ne6 c = wanted-six c.args.o c.args.level c.args.v c.if-d-ne6.true

pub returns-then-level-n : goal.returns-then-level-n
returns-then-level-n c = wanted-level c.args.o c.args.level c.args.v c.if-d-ne6.false c.if-level-n.true

pub returns : goal.returns
returns c = c.crosses.ensures ∙ wanted-on c.args.o c.args.level c.args.v c.if-d-ne6.false c.if-level-n.false
