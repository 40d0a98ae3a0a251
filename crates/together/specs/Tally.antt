-- What a grown table's slots tell of its counts, read once: `hexagons_in` its hexagons, by their centres · `ground_in` its vertices of depth 0, the base's ·
-- `pairs_in` its pairs of hexagons side by side. What these come to is in Tallied.
-- Assumes nothing.
use Rattle.std.specs.Prelude.{Bool, cond, ◌&&◌, List, ℕ, zero, suc, eqb, pos, negsuc, ◌+ℤ◌}
use Rattle.lattice.specs.Points.{pt, class_of}
use Rattle.lattice.specs.declared.points.Point.{Point}
use Rattle.lattice.specs.declared.records.Record.{Record}
use Rattle.table.specs.Slots.{slots_of, slot_at}
use Rattle.table.specs.Entries.{holds}
use Rattle.firsts.specs.Faces.{bit}
use Rattle.firsts.specs.Earlier.{sum_below, slot_sum}

-- what the records of a table give, slot by slot
abbrev pub tallied : (Record → ℕ) → List ℕ → ℕ
tallied f t = sum_below (λ k. slot_sum f (slot_at t k)) (slots_of t)

abbrev pub on_ground : Point → Bool
on_ground p = eqb p.m.0 0

-- "centres [a, b] .. a-b divisible by 3"
abbrev pub is_centre : Point → Bool
is_centre p = on_ground p && eqb (class_of p) 0

-- the centres of the hexagons side by side with that of p, at 30, 150 and 270 degrees: of the two of a pair, one has the other there
unfoldable pub beside_of : Point → ℕ → Point
beside_of p zero = pt (p.a +ℤ pos 1) (p.b +ℤ pos 1) 0
beside_of p (suc zero) = pt (p.a +ℤ negsuc 1) (p.b +ℤ pos 1) 0
beside_of p (suc (suc j)) = pt (p.a +ℤ pos 1) (p.b +ℤ negsuc 1) 0

-- how many of the three the table has
abbrev pub besides_at : List ℕ → Point → ℕ
besides_at t p = sum_below (λ j. bit (holds t (beside_of p j))) 3

unfoldable pub hexagons_in : List ℕ → ℕ
hexagons_in t = tallied (λ v. bit (is_centre v.at)) t

unfoldable pub ground_in : List ℕ → ℕ
ground_in t = tallied (λ v. bit (on_ground v.at)) t

unfoldable pub pairs_in : List ℕ → ℕ
pairs_in t = tallied (λ v. cond (is_centre v.at) (besides_at t v.at) 0) t
