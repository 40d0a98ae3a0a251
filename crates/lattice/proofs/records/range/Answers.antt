-- `lattice::records::range` meets its promise: 251 times the power fits. Assumes nothing.
use Rattle.std.proofs.Common.{arith, ◌^◌, ◌≤◌, to_z-of_z, lit<}
use Rattle.std.proofs.Math.Nat.{pow-le-pow_right}
use Rattle.lattice.specs.Bounds.{pow-fits}
use Rattle.lattice.proofs.records.range.Goals as goal

pub overflow_mul-result : goal.overflow_mul-result
overflow_mul-result c =
    let m = c.args.m in
    let h : 3 ^ m ≤ 3 ^ 6 = pow-le-pow_right (lit< tt) c.requires in
    simp (c.power.ensures, to_z-of_z (pow-fits m (omega arith))) (record { fits = omega (arith, h) })
