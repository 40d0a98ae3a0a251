-- `lattice::stars::second_of` meets its promise. Assumes nothing.
use Rattle.std.proofs.Common.{sym, ◌∙◌}
use Rattle.lattice.specs.RecordLaws.{inner-small}
use Rattle.lattice.specs.PatternLaws.{second-near}
use Rattle.lattice.specs.StarLaws.{step-asked}
use Rattle.lattice.proofs.stars.second_of.Goals as goal

pub step-requires : goal.step-requires
step-requires c =
    let r = c.args.r in
    let i = c.requires.0 in
    step-asked r.at r.n _ (inner-small i) (second-near r i c.args.j c.requires.1 c.in-Some.p (sym c.second_opposite.ensures ∙ c.in-Some.is))
