-- Document 01, "Base", its first sentence: a list of centres judged.
-- `centre_at`, `is_listed` the centres of the list · `good_centre`, `bad_at`, `first_bad`, `unpaired` the list judged · `GoodList` a list with nothing to refuse.
-- Assumes nothing.
use Rattle.std.specs.Prelude.{◌≡◌, Bool, true, false, cond, ◌&&◌, not, ◌||◌, List, ℕ, zero, suc, ◌+◌, ◌*◌, ◌%◌, ◌/◌, ◌<◌, eqb, leb, ℤ, pos, nat_abs, length, get_or}
use Rattle.laws.specs.Rules.{among}
use Rattle.lattice.specs.Points.{pt, same_point, class_of}
use Rattle.lattice.specs.declared.points.Point.{Point}

-- "a list of centres [a, b]", lent as a, b, a, b, ..: its numbers, and how many centres they are
abbrev pub centre_at : List ℤ → ℕ → Point
centre_at cs i = pt (get_or cs (2 * i) (pos 0)) (get_or cs (2 * i + 1) (pos 0)) 0

abbrev pub centres_in : List ℤ → ℕ
centres_in cs = length cs / 2

-- "a, b in -250..250 and a-b divisible by 3"
abbrev pub good_centre : Point → Bool
good_centre p = leb (nat_abs p.a) 250 && (leb (nat_abs p.b) 250 && eqb (class_of p) 0)

-- the centre p is one of the first n of the list
unfoldable pub listed_in : List ℤ → ℕ → Point → Bool
listed_in cs n p = among n (λ i. same_point (centre_at cs i) p)

-- the hexagons of a list, by their centres
abbrev pub is_listed : List ℤ → Point → Bool
is_listed cs p = listed_in cs (centres_in cs) p

-- "a centre out of range, of the wrong remainder, or repeated"; "of two equal ones the later is bad"
abbrev pub bad_at : List ℤ → ℕ → Bool
bad_at cs i = not (good_centre (centre_at cs i)) || listed_in cs i (centre_at cs i)

-- the first bad one of the centres from i on, of which so many are left; none where it is past the last
unfoldable pub first_bad : List ℤ → ℕ → ℕ → ℕ
first_bad cs i zero = i
first_bad cs i (suc left) = cond (bad_at cs i) i (first_bad cs (i + 1) left)

abbrev pub bad_place : List ℤ → ℕ
bad_place cs = first_bad cs 0 (centres_in cs)

-- "base list empty, of odd length"
abbrev pub unpaired : List ℤ → Bool
unpaired cs = eqb (length cs) 0 || not (eqb (length cs % 2) 0)

-- a list with nothing to refuse: pairs, each centre good, none twice
pub record GoodList (cs : List ℤ) : Type 0 where
  pub paired : unpaired cs ≡ false
  pub good : (i : ℕ) → i < centres_in cs → good_centre (centre_at cs i) ≡ true
  pub once : (i : ℕ) → i < centres_in cs → listed_in cs i (centre_at cs i) ≡ false
