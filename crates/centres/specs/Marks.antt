-- The code's memory of which centres are listed: one mark for each centre that there can be.
-- `number_of` the place of a centre · `in_marks` the centres that are marked, `Marked` they are the first of the list.
-- Assumes nothing.
use Rattle.std.specs.Prelude.{◌≡◌, Bool, ◌&&◌, List, ℕ, ◌+◌, ◌*◌, ◌/◌, eqb, ℤ, pos, nat_abs, ◌+ℤ◌}
use Rattle.marks.specs.Marks.{marked_at}
use Rattle.lattice.specs.declared.points.Point.{Point}
use Rattle.centres.specs.Centres.{good_centre, listed_in}

-- 501 numbers a, and 167 numbers b beside each; eight places a byte
abbrev pub places : ℕ
places = 83667

abbrev pub mark_bytes : ℕ
mark_bytes = 10459

-- the place of a centre: b leaves on division by 3 what a leaves, so that its third tells it
unfoldable pub number_of : Point → ℕ
number_of p = nat_abs (p.a +ℤ pos 250) * 167 + nat_abs (p.b +ℤ pos 250) / 3

-- p is one of the centres that are marked
unfoldable pub in_marks : List ℕ → Point → Bool
in_marks m p = eqb p.m.0 0 && (good_centre p && marked_at m (number_of p))

-- the marks are the first i centres of the list
abbrev pub Marked : List ℕ → List ℤ → ℕ → Type 0
Marked m cs i = in_marks m ≡ listed_in cs i
