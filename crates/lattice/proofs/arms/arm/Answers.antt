-- `lattice::arms::arm` meets its promise. Assumes nothing.
use Rattle.std.proofs.Common.{sym, subst, ℕ, to_z, of_z, w32}
use Rattle.lattice.specs.Bounds.{Small, near-small}
use Rattle.lattice.specs.Points.{pt}
use Rattle.lattice.specs.StarLaws.{step-asked}
use Rattle.lattice.proofs.arms.arm.Goals as goal

pub brought-requires : goal.brought-requires
brought-requires c =
    let v = c.args.v in
    let p = c.args.p in
    let a = step-asked v.at v.n p c.requires.0 c.requires.1 in
    (a.0, subst (λ (m : ℕ). Small (pt (to_z w32 (of_z w32 p.a)) (to_z w32 (of_z w32 p.b)) m)) (sym c.scaled.ensures) (near-small v.n a.1))
