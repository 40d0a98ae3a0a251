-- `lattice::points::same_point` meets its promise. Assumes nothing.
use Rattle.std.proofs.Common.{◌∙◌}
use Rattle.lattice.specs.PointLaws.{same-derived}
use Rattle.lattice.proofs.points.same_point.Goals as goal

pub returns : goal.returns
returns c = c.eq.ensures ∙ same-derived c.args.p c.args.q
