-- `lattice::ranks::moved` meets its promise. Assumes nothing.
use Rattle.std.proofs.Common.{sym, ap, subst, ◌∙◌}
use Rattle.lattice.specs.Stars.{step_of}
use Rattle.lattice.specs.StarLaws.{step-asked, step_given}
use Rattle.lattice.specs.Bounds.{Near}
use Rattle.lattice.specs.RankBounds.{move-first, move-near}
use Rattle.lattice.proofs.ranks.moved.Goals as goal

pub step-requires : goal.step-requires
step-requires c =
    let r = c.requires in
    let is = c.foremost-u.ensures ∙ move-first c.args.e in
    step-asked c.args.p c.args.i _ r.0 (subst (Near c.args.i) (sym is) (move-near c.args.e c.args.i.0 r.1.1.1 r.1.1.0))

pub returns : goal.returns
returns c =
    let r = c.requires in
    let is = c.foremost-u.ensures ∙ move-first c.args.e in
    let near = subst (Near c.args.i) (sym is) (move-near c.args.e c.args.i.0 r.1.1.1 r.1.1.0) in
    c.step.ensures ∙ step_given c.args.p c.args.i _ r.0 near ∙ ap (step_of c.args.p c.args.i) is
