-- `lattice::points::brought` meets its promise: small numbers times a power of 3 fit. Assumes nothing.
use Rattle.std.proofs.Common.{◌≡◌, arith, ℕ, ℤ, pos, nat_abs, to_z, of_z, w32, SFits, to_z-of_z, ◌*◌, ◌^◌, ◌≤◌, ◌<◌}
use Rattle.lattice.specs.Bounds.{small-wide, small-high, pow-fits, summable}
use Rattle.lattice.proofs.points.brought.Goals as goal

-- what `times` asks at a power of 3
asked : {x s : ℤ} {i : ℕ} → SFits w32 x → s ≡ pos (3 ^ i) → i ≤ 7 → nat_abs x * 3 ^ i ≤ summable
    → nat_abs (to_z w32 (of_z w32 x)) * nat_abs (to_z w32 (of_z w32 s)) < 2147483648
asked {i = i} fx e h b = simp (to_z-of_z fx, e, to_z-of_z (pow-fits i h)) (omega arith)

pub times-requires : goal.times-requires
times-requires c = asked c.ranges.a c.power-s.ensures (omega arith) (small-wide _ _ (omega arith) c.requires.0)

pub times-requires-2 : goal.times-requires-2
times-requires-2 c = asked c.ranges.b c.power-s.ensures (omega arith) (small-high _ _ (omega arith) c.requires.0)

pub times-requires-3 : goal.times-requires-3
times-requires-3 c = asked c.ranges.x c.power-t.ensures (omega arith) (small-wide _ _ (omega arith) c.requires.1)

pub times-requires-4 : goal.times-requires-4
times-requires-4 c = asked c.ranges.y c.power-t.ensures (omega arith) (small-high _ _ (omega arith) c.requires.1)
