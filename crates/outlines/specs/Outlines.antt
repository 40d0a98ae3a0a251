-- Document 02, ticket 9, "Refine round an outline": what the request answers and what it leaves, for every table, torn ones too. What the promise
-- cites: `refine_of`.
-- `position_of` where a point lies · `value_of` an outline's value there, `below_at` below zero · `crosses_at` an edge crosses, `wanted` a vertex of a pass's
-- list · `list_of` the list, in full-file order · `each_of` subdivides them all, `pass_of` or nothing · `passes_from` the passes · `number_fits`, `outline_fits`,
-- `request_fits` what 17 judges · `request_of` the request on a table whose length fits · `RefineAfter`, `refine_of` the call, with its scratch table.
-- Assumes nothing.
use Rattle.std.specs.Prelude.{Bool, true, false, ◌&&◌, ◌||◌, not, List, [], ◌∷◌, ℕ, zero, suc, ◌+◌, ◌*◌, ◌^◌, eqb, ltb, leb, ℤ, pos, ◌+ℤ◌, ◌*ℤ◌, Float}
use Rattle.std.specs.Float.{nan, inf, fin, binary64}
use Rattle.std.specs.Float.Ieee.{add, sub, mul, div, neg, lt, of_int, of_bits}
use Rattle.laws.specs.Choices.{unless}
use Rattle.laws.specs.Rules.{among}
use Rattle.lattice.specs.Stars.{adjacent_at}
use Rattle.lattice.specs.declared.points.Point.{Point}
use Rattle.lattice.specs.declared.records.Record.{Record}
use Rattle.table.specs.Entries.{look_up, records_of}
use Rattle.table.specs.Order.{in_order_of}
use Rattle.table.specs.Slots.{lengths_fit, cleared_of}
use Rattle.writers.specs.Files.{sorted, leave_out}
use Rattle.mesh.specs.Subdivide.{MeshAfter, mesh_after, subdivide_looked, Many, and_then, all_or}
use Rattle.outlines.specs.declared.values.Position.{Position}
use Rattle.outlines.specs.declared.values.Outline.{Outline}
use Rattle.outlines.specs.declared.values.Outline.TheVariants.{Disc, Line}

-- ---- "A vertex's position is a pair of f64"

-- 1.7320508075688772, by its bits
unfoldable pub root3 : Float
root3 = of_bits binary64 4610479282544200874

-- a whole number, exact where it is below 2^53
abbrev pub whole : ℤ → Float
whole z = of_int binary64 z

-- 2a+b
abbrev pub across_of : ℤ → ℤ → ℤ
across_of a b = pos 2 *ℤ a +ℤ b

-- 2 × 3^m
abbrev pub over_of : ℕ → ℕ
over_of m = 2 * 3 ^ m

-- "x is 2a+b divided by 2 × 3^m; y is b times 1.7320508075688772, then divided by 2 × 3^m"
abbrev pub position_of : Point → Position
position_of p =
    record {
      x = div binary64 (whole (across_of p.a p.b)) (whole (pos (over_of p.m.0)));
      y = div binary64 (mul binary64 (whole p.b) root3) (whole (pos (over_of p.m.0)));
    }

-- ---- "A disc's value is (dx×dx + dy×dy) - r×r with dx, dy the vertex minus the centre; a line's is (p×x + q×y) - s; each operation rounded once, in that
-- order."
abbrev pub disc_of : Float → Float → Float → Float
disc_of dx dy r = sub binary64 (add binary64 (mul binary64 dx dx) (mul binary64 dy dy)) (mul binary64 r r)

unfoldable pub value_of : Outline → Position → Float
value_of (Disc x y r) at = disc_of (sub binary64 at.x x) (sub binary64 at.y y) r
value_of (Line p q s) at = sub binary64 (add binary64 (mul binary64 p at.x) (mul binary64 q at.y)) s

-- 0.0
unfoldable pub nought : Float
nought = of_bits binary64 0

-- "below zero"
unfoldable pub below_at : Outline → Point → Bool
below_at o p = lt (value_of o (position_of p)) nought

-- ---- "An edge crosses when one end's value is below zero and the other's is not, the far end in the table or not."
abbrev pub unlike : Bool → Bool → Bool
unlike true y = not y
unlike false y = y

unfoldable pub crosses_at : Outline → Record → ℕ → Bool
crosses_at o v j = unlike (below_at o v.at) (below_at o (adjacent_at v j))

-- "the degree 6 vertices below a given level with a crossing edge"
unfoldable pub wanted : Outline → ℕ → Record → Bool
wanted o level v = eqb v.d 6 && (ltb v.n.0 level && among 6 (crosses_at o v))

abbrev pub unwanted : Outline → ℕ → Record → Bool
unwanted o level v = not (wanted o level v)

-- "One pass lists, in full-file order, .."
abbrev pub list_of : Outline → ℕ → List ℕ → List Record
list_of o level t = sorted (leave_out (unwanted o level) (records_of t))

-- ---- ".. and then subdivides them all": each as a subdivision at its point would, until one is refused
-- the subdivision of what stands at a point
abbrev pub step_at : List ℕ → Point → MeshAfter
step_at t p = subdivide_looked t (look_up t p)

unfoldable pub each_of : List ℕ → List Record → MeshAfter
each_of t [] = mesh_after 0 t
each_of t (v ∷ vs) = and_then (step_at t v.at) (λ u. each_of u vs)

-- "A refused pass is undone whole"
unfoldable pub pass_of : Outline → ℕ → List ℕ → MeshAfter
pass_of o level t = all_or t (each_of t (list_of o level t))

-- "passes before it stand, the answer says how many": from pass i on, of which so many are left
abbrev pub many : ℕ → ℕ → List ℕ → Many
many x i t = record { number = x; done = i; bytes = t }

unfoldable pub passes_from : Outline → ℕ → List ℕ → ℕ → ℕ → Many
passes_from o level t i zero = many 0 i t
passes_from o level t i (suc left) =
    let a = pass_of o level t in
    let rest = passes_from o level a.bytes (i + 1) left in
    unless (eqb a.number 0) (many a.number i a.bytes) rest

-- ---- "17 for an outline number that is not finite or is beyond 1,000 either way, a radius not above zero, or passes or level out of range"
-- 1000.0
unfoldable pub thousand : Float
thousand = of_bits binary64 4652007308841189376

-- "not finite": no number, or an infinity
unfoldable pub is_finite : Float → Bool
is_finite nan = false
is_finite (inf s) = false
is_finite (fin s m e) = true

-- "beyond 1,000 either way"
unfoldable pub beyond : Float → Bool
beyond x = lt thousand x || lt x (neg thousand)

-- a number that 17 lets pass
unfoldable pub number_fits : Float → Bool
number_fits x = is_finite x && not (beyond x)

unfoldable pub outline_fits : Outline → Bool
outline_fits (Disc x y r) = number_fits x && (number_fits y && (number_fits r && lt nought r))
outline_fits (Line p q s) = number_fits p && (number_fits q && number_fits s)

-- "the caller gives 0 to 12 passes and a level 0 to 12"
unfoldable pub request_fits : Outline → ℕ → ℕ → Bool
request_fits o passes level = outline_fits o && (leb passes 12 && leb level 12)

-- "Refusals: 1; 17 ..; then 7, 8 as the subdivisions, in list order, meet them."
unfoldable pub request_of : List ℕ → Outline → ℕ → ℕ → Many
request_of t o passes level =
    unless (in_order_of t) (many 1 0 t)
    (unless (request_fits o passes level) (many 17 0 t)
    (passes_from o level t 0 passes))

-- ---- "A scratch table is lent as for the readers." Lengths that don't fit leave both untouched; otherwise scratch ends all 255
pub record RefineAfter : Type 0 where
  pub number : ℕ
  pub done : ℕ
  pub table : List ℕ
  pub scratch : List ℕ

abbrev pub refine_after : ℕ → ℕ → List ℕ → List ℕ → RefineAfter
refine_after x i t s = record { number = x; done = i; table = t; scratch = s }

abbrev pub cleared : Many → List ℕ → RefineAfter
cleared m s = refine_after m.number m.done m.bytes (cleared_of s)

unfoldable pub refine_of : List ℕ → List ℕ → Outline → ℕ → ℕ → RefineAfter
refine_of t s o passes level = unless (lengths_fit t s) (refine_after 1 0 t s) (cleared (request_of t o passes level) s)
