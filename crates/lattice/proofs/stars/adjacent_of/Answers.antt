-- `lattice::stars::adjacent_of` meets its promise. Assumes nothing.
use Rattle.std.proofs.Common.{sym, subst}
use Rattle.lattice.specs.Bounds.{Near}
use Rattle.lattice.specs.RecordLaws.{inner-small}
use Rattle.lattice.specs.PatternLaws.{adjacent-near}
use Rattle.lattice.specs.StarLaws.{step-asked}
use Rattle.lattice.proofs.stars.adjacent_of.Goals as goal

pub step-requires : goal.step-requires
step-requires c =
    let r = c.args.r in
    let i = c.requires.0 in
    step-asked r.at r.n _ (inner-small i) (subst (Near r.n) (sym c.adjacent-p.ensures) (adjacent-near r i c.args.j c.requires.1))
