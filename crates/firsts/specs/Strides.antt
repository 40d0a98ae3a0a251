-- Strides: the ways from a vertex to an adjacent point, and from there to an opposite, each as one number: sixteen times the level, from 1 on, and the
-- direction. A star's strides at orientation 0 and level 0 stand in rows of six bits a place, 63 where there is none.
-- `adjacent_row`, `side_row`, `other_row` the rows: to an adjacent point, from it to the opposite, from the next one to it · `stride_of` a stride ·
-- `walk_of` a point on · `back_of` the way back · `opposite_by` the first or the second opposite · `Fit`, `FitIn`, `FitsBy` a corner of a star has these
-- strides · `Told`, `ToldOf` what that says of a face.
-- Assumes nothing.
use Rattle.std.specs.Prelude.{◌≡◌, Bool, true, false, cond, ◌&&◌, ◌||◌, List, ℕ, ◌+◌, ◌*◌, ◌-◌, ◌/◌, ◌%◌, ◌^◌, ◌<◌, eqb, ltb, Option, Some}
use Rattle.lattice.specs.Stars.{first_at, second_at}
use Rattle.lattice.specs.Ranks.{move_of}
use Rattle.lattice.specs.declared.points.Point.{Point}
use Rattle.lattice.specs.declared.records.Record.{Record}
use Rattle.table.specs.Slots.{slots_of, slot_at}
use Rattle.firsts.specs.Faces.{next_place, turned}
use Rattle.firsts.specs.Earlier.{near_in, face_in, face_on}
use Rattle.firsts.specs.declared.earlier.Placed.{Placed}
use Rattle.firsts.specs.declared.faces.Face.{Face}
use Rattle.firsts.specs.declared.fits.Fits.{Fits}

abbrev pub row_of : ℕ → ℕ → ℕ → ℕ → ℕ → ℕ
row_of d three four five six = cond (eqb d 3) three (cond (eqb d 4) four (cond (eqb d 5) five six))

abbrev pub adjacent_row : ℕ → ℕ
adjacent_row d = row_of d 99600 10908944 698243280 28325790864

abbrev pub side_row : ℕ → Bool → ℕ
side_row d second = cond second (row_of d 45507 16687043 1067874687 17622459666) (row_of d 67092 11511316 736857492 36165810531)

abbrev pub other_row : ℕ → Bool → ℕ
other_row d second = cond second (row_of d 37185 16678849 1067342079 28325790864) (row_of d 99600 6515024 417025185 44687571051)

-- place j of a row
abbrev pub part_of : ℕ → ℕ → ℕ
part_of row j = row / 2 ^ (6 * j) % 64

-- the same at orientation k and level n; 0 where there is none
abbrev pub stride_with : ℕ → ℕ → ℕ → ℕ
stride_with p k n = cond (eqb p 63) 0 (16 * (n + p / 16) + (k + p % 16) % 12)

unfoldable pub stride_of : ℕ → ℕ → ℕ → ℕ → ℕ
stride_of row j k n = stride_with (part_of row j) k n

-- from p by a stride that is one: 16 at least
abbrev pub walk_of : Point → ℕ → Point
walk_of p c = move_of p (c % 16) (c / 16 - 1)

abbrev pub back_of : ℕ → ℕ
back_of c = cond (ltb (c % 16) 6) (c + 6) (c - 6)

-- the first or the second opposite of a corner
abbrev pub opposite_by : Record → ℕ → Bool → Option Point
opposite_by v j second = cond second (second_at v j) (Some (first_at v j))

-- a corner of u has the strides x and y to its adjacent points and z from the first of them to an opposite; r is 2 where that is the first opposite
pub record FitAt (u : Record) (x y z r : ℕ) : Type 0 where
  pub place : ℕ
  pub below : place < u.d
  pub adjacent : stride_of (adjacent_row u.d) place u.k u.n.0 ≡ x
  pub next : stride_of (adjacent_row u.d) (next_place u.d place) u.k u.n.0 ≡ y
  pub second : Bool
  pub side : stride_of (side_row u.d second) place u.k u.n.0 ≡ z
  pub first : r ≡ 2 → second ≡ false

abbrev pub Fit : Record → ℕ → ℕ → ℕ → ℕ → Type 0
Fit u x y z r = 0 < r → FitAt u x y z r

-- the record in slot s has
pub record FitIn (t : List ℕ) (s x y z r : ℕ) : Type 0 where
  pub rec : Record
  pub below : s < slots_of t
  pub holds : slot_at t s ≡ Some rec
  pub fit : FitAt rec x y z r

-- the same where the point across is in the table
abbrev pub FitThere : List ℕ → ℕ → Bool → ℕ → ℕ → ℕ → ℕ → Type 0
FitThere t s there x y z r = 0 < r → (there ≡ true) × FitIn t s x y z r

-- the vertices in slots a, o and b, by the strides from a vertex to its adjacent points and from these to the opposite
pub record FitsBy (t : List ℕ) (a o b to_a to_b from_a from_b : ℕ) (r : Fits) : Type 0 where
  pub adjacent : FitThere t a (ltb b (slots_of t)) from_a (back_of to_a) (back_of from_b) r.adjacent
  pub opposite : FitThere t o true (back_of from_b) (back_of from_a) (back_of to_b) r.opposite
  pub next : FitThere t b (ltb a (slots_of t)) (back_of to_b) from_b to_a r.next

-- the vertex in slot s, the first of f, has the two sides of f there, in a face; where r is 2, it names f
pub record Told (t : List ℕ) (s : ℕ) (f : Face) (r : ℕ) : Type 0 where
  pub adjacent : 0 < r → near_in t (slots_of t) f.adjacent s ≡ true
  pub next : 0 < r → near_in t (slots_of t) f.next s ≡ true
  pub face : r ≡ 2 → face_in t (slots_of t) f s ≡ true

-- the same of its other three vertices, in slots a, o and b
pub record ToldOf (t : List ℕ) (f : Face) (a o b : ℕ) (r : Fits) : Type 0 where
  pub adjacent : Told t a (turned f) r.adjacent
  pub opposite : Told t o (turned (turned f)) r.opposite
  pub next : Told t b (turned (turned (turned f))) r.next

-- of those of the face of corner j of v
abbrev pub ToldRound : List ℕ → Record → ℕ → Placed → Placed → Placed → Fits → Type 0
ToldRound t v j a o b r = ToldOf t (face_on v j o.at) a.slot o.slot b.slot r

-- one of them stands before slot k and names the face
abbrev pub told_earlier : Fits → ℕ → ℕ → ℕ → ℕ → Bool
told_earlier r a o b k = (eqb r.adjacent 2 && ltb a k || eqb r.opposite 2 && ltb o k) || eqb r.next 2 && ltb b k
