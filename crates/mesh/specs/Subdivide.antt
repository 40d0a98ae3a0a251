-- Document 01, "Subdivision of v": when it is refused and what the table holds after. What the promises cite: `subdivide_of`, `subdivide_all_of`.
-- `adjacent_fits`, `new_fits`, `torn` the condition of 7 · `renewed_to`, `entered_to`, `subdivided` the table after · `MeshAfter` number and table ·
-- `and_then` one after the other, `all_or` all or nothing · `Many` number and table of a list.
-- Record by record the rules are the lattice's: Subdivision. Assumes nothing.
use Rattle.std.specs.Prelude.{Bool, true, false, cond, ◌&&◌, not, List, ℕ, zero, suc, ◌+◌, ◌*◌, eqb, ltb, ℤ, pos, nat_abs, get_or, Option, Some, None}
use Rattle.laws.specs.Rules.{upto}
use Rattle.laws.specs.Choices.{unless}
use Rattle.laws.specs.Triples.{triples_in, is_byte}
use Rattle.lattice.specs.Stars.{adjacent_at}
use Rattle.lattice.specs.Subdivision.{centre_of, new_of, back_of, update_of, accepts_of, born_of}
use Rattle.lattice.specs.Points.{normal_of}
use Rattle.table.specs.Entries.{look_up, enter_of, replace_of, holds}
use Rattle.table.specs.Order.{in_order_of}
use Rattle.table.specs.Slots.{free_slots}
use Rattle.lattice.specs.declared.records.Record.{Record}

-- "an adjacent is absent; or an internal adjacent has d 6, or a level other than n, or no rule above for its k'"
abbrev pub fits_at : Record → ℕ → Option Record → Bool
fits_at v j None = false
fits_at v j (Some u) = accepts_of (back_of v.k j) v.n.0 u

abbrev pub adjacent_fits : List ℕ → Record → ℕ → Bool
adjacent_fits t v j = fits_at v j (look_up t (adjacent_at v j))

-- "or a new point is already there"
abbrev pub new_fits : List ℕ → Record → ℕ → Bool
new_fits t v j = not (holds t (new_of v j).at)

-- "Torn, subdivision"
unfoldable pub torn : List ℕ → Record → Bool
torn t v = not (upto 6 (adjacent_fits t v) && upto 6 (new_fits t v))

-- ---- the table after
-- the old adjacent vertex at place j after its rule
abbrev pub renew_at : List ℕ → Record → ℕ → Option Record → List ℕ
renew_at t v j None = t
renew_at t v j (Some u) = replace_of t (update_of (back_of v.k j) u)

abbrev pub renew_of : List ℕ → Record → ℕ → List ℕ
renew_of t v j = renew_at t v j (look_up t (adjacent_at v j))

-- the first j old adjacent vertices
unfoldable pub renewed_to : List ℕ → Record → ℕ → List ℕ
renewed_to t v zero = t
renewed_to t v (suc j) = renew_of (renewed_to t v j) v j

-- "Six records enter, in the order of v's new star": the first j of those round c, which is v with its new star
unfoldable pub entered_to : List ℕ → Record → ℕ → List ℕ
entered_to t c zero = t
entered_to t c (suc j) = enter_of (entered_to t c j) (born_of c j)

-- v, its old adjacent vertices, its new ones; "All else is untouched."
unfoldable pub subdivided : List ℕ → Record → List ℕ
subdivided t v = entered_to (renewed_to (replace_of t (centre_of v)) v 6) (centre_of v) 6

-- ---- the call
pub record MeshAfter : Type 0 where
  pub number : ℕ
  pub bytes : List ℕ

abbrev pub mesh_after : ℕ → List ℕ → MeshAfter
mesh_after n t = record { number = n; bytes = t }

-- Document 02, ticket 7: "The order of checks for subdivision becomes 1, 3, 4, 5, 7, 8": from 4 on, of the record at the point
abbrev pub subdivide_vertex : List ℕ → Record → MeshAfter
subdivide_vertex t v =
    unless (eqb v.d 6) (mesh_after 4 t)
    (cond (eqb v.n.0 12) (mesh_after 5 t)
    (cond (torn t v) (mesh_after 7 t)
    (cond (ltb (free_slots t) 6) (mesh_after 8 t)
    (mesh_after 0 (subdivided t v)))))

abbrev pub subdivide_looked : List ℕ → Option Record → MeshAfter
subdivide_looked t None = mesh_after 3 t
subdivide_looked t (Some v) = subdivide_vertex t v

-- "Every point in a request is normalised before it is looked up"
unfoldable pub subdivide_of : List ℕ → ℤ → ℤ → ℕ → MeshAfter
subdivide_of t a b m = unless (in_order_of t) (mesh_after 1 t) (subdivide_looked t (look_up t (normal_of a b m)))

-- ---- one after the other
-- where the number is 0, on with the table; else that number, and the table as it is
unfoldable pub onwards : Bool → MeshAfter → (List ℕ → MeshAfter) → MeshAfter
onwards true o f = f o.bytes
onwards false o f = o

abbrev pub and_then : MeshAfter → (List ℕ → MeshAfter) → MeshAfter
and_then o f = onwards (eqb o.number 0) o f

-- all or nothing: refused, the table is t again
abbrev pub all_or : List ℕ → MeshAfter → MeshAfter
all_or t o = unless (eqb o.number 0) (mesh_after o.number t) o

-- ---- many at once, ours: one in-order test, then each point subdivided in turn as `subdivide` would
pub record Many : Type 0 where
  pub number : ℕ
  pub done : ℕ
  pub bytes : List ℕ

-- triple i, as `subdivide` answers it; 3 where its m is not in 0..255
unfoldable pub subdivide_triple : List ℕ → List ℤ → ℕ → MeshAfter
subdivide_triple t ps i =
    unless (is_byte (get_or ps (3 * i + 2) (pos 0))) (mesh_after 3 t)
    (subdivide_of t (get_or ps (3 * i) (pos 0)) (get_or ps (3 * i + 1) (pos 0)) (nat_abs (get_or ps (3 * i + 2) (pos 0))))

-- it stops at the first refusal and says how many were made; those before stand: from triple i on, of which so many are left
unfoldable pub subdivide_from : List ℕ → List ℤ → ℕ → ℕ → Many
subdivide_from t ps i zero = record { number = 0; done = i; bytes = t }
subdivide_from t ps i (suc left) =
    let o = subdivide_triple t ps i in
    unless (eqb o.number 0) (record { number = o.number; done = i; bytes = t })
    (subdivide_from o.bytes ps (i + 1) left)

unfoldable pub subdivide_all_of : List ℕ → List ℤ → Many
subdivide_all_of t ps = unless (in_order_of t) (record { number = 1; done = 0; bytes = t }) (subdivide_from t ps 0 (triples_in ps))
