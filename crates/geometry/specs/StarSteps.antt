-- A star by steps: place j of a star of degree d, orientation k and level n is the step in direction k + `turn_of d j` of level n + `down_of d j` (`star-step`).
-- One table over degree, place, orientation and the level's parity.
-- Assumes nothing.
use Rattle.std.specs.Prelude.{◌≡◌, [], ◌∷◌, cond, ℕ, zero, suc, ◌+◌, ◌*◌, ◌%◌, ◌/◌, ◌-◌, ◌≤◌, ◌<◌, eqb, ℤ, pos, get_or}
use Rattle.std.proofs.Common.{sym, ◌∙◌, ap, arith}
use Rattle.laws.specs.Rules.{Test, ◌≡?◌, ◌≤?◌, ◌≡ᶻ?◌, ◌&◌, ◌⇒◌, Means, run, upto, upto-at, rule2}
use Rattle.laws.specs.Parts.{up}
use Rattle.lattice.specs.Points.{pt, lift}
use Rattle.lattice.specs.Places.{wide, high}
use Rattle.lattice.specs.Patterns.{orient, three, four, five, six, rows_of, pattern_of, adjacent_of}
use Rattle.lattice.specs.PatternLaws.{orient-depth, adjacent-close}
use Rattle.lattice.specs.Stars.{scale_of, adjacent_at}
use Rattle.lattice.specs.Ranks.{move_of, level}
use Rattle.geometry.specs.GeometryLaws.{sum_same, scale-lift}
use Rattle.lattice.specs.declared.points.Point.{Point}
use Rattle.lattice.specs.declared.records.Record.{Record}

-- the directions of a star's adjacents, counted from its orientation, and how many levels down their steps are
unfoldable pub turn_of : ℕ → ℕ → ℕ
turn_of d j =
    get_or (cond (eqb d 3) (0 ∷ 4 ∷ 8 ∷ []) (cond (eqb d 4) (0 ∷ 4 ∷ 7 ∷ 9 ∷ []) (cond (eqb d 5) (0 ∷ 3 ∷ 5 ∷ 7 ∷ 9 ∷ []) (0 ∷ 2 ∷ 4 ∷ 6 ∷ 8 ∷ 10 ∷ [])))) j 0

unfoldable pub down_of : ℕ → ℕ → ℕ
down_of d j = get_or (cond (eqb d 4) (0 ∷ 0 ∷ 1 ∷ 1 ∷ []) (cond (eqb d 5) (0 ∷ 1 ∷ 1 ∷ 1 ∷ 1 ∷ []) [])) j 0

-- b is the level's parity; the places at depth 2, before the level scales them
abbrev row : ℕ → ℕ → ℕ → ℕ → Test
row b k d j =
    wide 2 (adjacent_of d k j) ≡ᶻ? wide (2 - b * down_of d j) (orient ((k + turn_of d j) % 12) (pt (pos 1) (pos 0) 0))
    & high 2 (adjacent_of d k j) ≡ᶻ? high (2 - b * down_of d j) (orient ((k + turn_of d j) % 12) (pt (pos 1) (pos 0) 0))
    & down_of d j ≤? 1

star-row : (b k d j : ℕ) → b < 2 → k < 12 → 3 ≤ d → d ≤ 6 → j < d → k % 2 ≡ b → Means (row b k d j)
unfolding orient pattern_of rows_of three four five six turn_of down_of
star-row b k d j hb hk l h hj e =
    let f : ℕ → ℕ → ℕ → ℕ → Test = λ b k d j. 3 ≤? d ⇒ suc j ≤? d ⇒ (k % 2) ≡? b ⇒ row b k d j in
    rule2 7 6 (f b k) (upto-at 12 (λ k. upto 7 (λ d. upto 6 (λ j. run (f b k d j))))
    (upto-at 2 (λ b. upto 12 (λ k. upto 7 (λ d. upto 6 (λ j. run (f b k d j))))) tt b hb) k hk)
    d (omega arith) j (omega arith) l hj e

pub star-step : (r : Record) (j : ℕ) → 3 ≤ r.d → r.d ≤ 6 → j < r.d → r.k < 12 → r.k % 2 ≡ r.n.0 % 2
    → adjacent_at r j ≡ move_of r.at ((r.k + turn_of r.d j) % 12) (r.n.0 + down_of r.d j)
star-step r j l h hj hk e =
    sum_same r.at (scale_of r.n x) (scale_of (level i) y) (2 + n / 2) (omega (arith, dx, cx)) (omega (arith, dy, bound))
    (record { across = scaled x.a x.m.0 y.a y.m.0 w.0; up = scaled x.b x.m.0 y.b y.m.0 w.1.0 })
  where
    n : ℕ
    n = r.n.0

    b : ℕ
    b = n % 2

    o : ℕ
    o = down_of r.d j

    i : ℕ
    i = n + o

    g : ℕ
    g = (r.k + turn_of r.d j) % 12

    x : Point
    x = adjacent_of r.d r.k j

    y : Point
    y = orient g (pt (pos 1) (pos 0) 0)

    w : Means (row b r.k r.d j)
    w = star-row b r.k r.d j (omega arith) hk l h hj e

    bound : o ≤ 1
    bound = w.1.1

    dx : x.m.0 ≡ (pattern_of r.d j).adjacent.m.0 + r.k % 2
    dx = orient-depth r.k (pattern_of r.d j).adjacent

    cx : (pattern_of r.d j).adjacent.m.0 ≤ 1
    cx = (adjacent-close r.d j l h hj).depth

    dy : y.m.0 ≡ 0 + g % 2
    dy = orient-depth g (pt (pos 1) (pos 0) 0)

    -- 2 + n/2 is 2 - (n mod 2) o + (n + o)/2
    depths : (n o : ℕ) → o ≤ 1 → 2 + n / 2 ≡ 2 - n % 2 * o + (n + o) / 2
    depths n zero h = let z : n % 2 * 0 ≡ 0 = omega arith in rw z (omega arith)
    depths n (suc zero) h = let z : n % 2 * 1 ≡ n % 2 = omega arith in rw z (omega arith)
    depths n (suc (suc o)) h = absurd (omega arith)

    -- the same place before scaling is the same after
    scaled : (p : ℤ) (m : ℕ) (q : ℤ) (m' : ℕ) → lift p m 2 ≡ lift q m' (2 - b * o) → lift p (m + n / 2) (2 + n / 2) ≡ lift q (m' + i / 2) (2 + n / 2)
    scaled p m q m' h = scale-lift p m (n / 2) 2 ∙ h ∙ sym (ap (λ (d : ℕ). lift q (m' + i / 2) d) (depths n o bound) ∙ scale-lift q m' (i / 2) (2 - b * o))
