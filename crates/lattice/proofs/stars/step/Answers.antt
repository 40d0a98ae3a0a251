-- `lattice::stars::step` meets its promise. Assumes nothing.
use Rattle.std.proofs.Common.{sym, subst, to_z-of_z}
use Rattle.lattice.specs.Bounds.{Small, near-small}
use Rattle.lattice.specs.Points.{pt}
use Rattle.lattice.proofs.stars.step.Goals as goal

pub sum-requires : goal.sum-requires
sum-requires c =
    let f = c.ranges in (
      subst Small (λ i. pt (sym (to_z-of_z f.a) i) (sym (to_z-of_z f.b) i) c.args.m.0) c.requires.0,
      subst Small (λ i. pt (sym (to_z-of_z f.x) i) (sym (to_z-of_z f.y) i) (sym c.scaled.ensures i)) (near-small c.args.n c.requires.1),
    )
