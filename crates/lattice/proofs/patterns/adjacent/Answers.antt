-- `lattice::patterns::adjacent` meets its promise. Assumes nothing.
use Rattle.std.proofs.Common.{sym, ap, subst, ◌∙◌, ◌/◌, ◌%◌}
use Rattle.lattice.specs.Patterns.{pattern_of}
use Rattle.lattice.specs.PatternLaws.{orient-split, hex-orient, adjacent-close}
use Rattle.lattice.specs.Points.{turns}
use Rattle.lattice.specs.Bounds.{Hex}
use Rattle.lattice.proofs.patterns.adjacent.Goals as goal

pub turned-requires : goal.turned-requires
turned-requires c =
    let r = c.requires in
    subst (Hex 10) (sym c.pattern.ensures) (hex-orient (c.args.k % 2) (adjacent-close c.args.d c.args.j r.0 r.1.0 r.1.1).hex)

pub returns : goal.returns
returns c =
    c.point.ensures
    ∙ c.turned.ensures
    ∙ ap (turns (c.args.k / 2)) c.pattern.ensures
    ∙ orient-split c.args.k (pattern_of c.args.d c.args.j).adjacent
