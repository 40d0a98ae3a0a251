-- Document 02, ticket 4, "Refine here, whatever the degree": what the request answers and what it leaves, for every table, torn ones too. What the
-- promise cites: `bring_to_six`.
-- `places_of` the neighbours to subdivide · `near_of` one neighbour subdivided, `bring_of` a vertex brought to degree 6: they call each other and the
-- level falls · `bring_vertex`, `request_of` the request on a table whose length fits · `BringAfter`, `bring_to_six` the call, with its scratch table.
-- Assumes nothing.
use Rattle.std.specs.Prelude.{Bool, false, cond, ◌&&◌, not, List, [], ◌∷◌, ◌++◌, ℕ, zero, suc, ◌+◌, ◌-◌, ◌%◌, eqb, ℤ, Option, Some, None}
use Rattle.laws.specs.Choices.{unless}
use Rattle.lattice.specs.Points.{normal_of, turn60_of}
use Rattle.lattice.specs.Patterns.{pattern_of}
use Rattle.lattice.specs.Stars.{adjacent_at}
use Rattle.lattice.specs.declared.points.Point.{Point}
use Rattle.lattice.specs.declared.records.Record.{Record}
use Rattle.table.specs.Entries.{look_up}
use Rattle.table.specs.Order.{in_order_of}
use Rattle.table.specs.Search.{same_point}
use Rattle.table.specs.Slots.{lengths_fit, cleared_of}
use Rattle.mesh.specs.Subdivide.{MeshAfter, mesh_after, subdivide_vertex, and_then, all_or}

-- ---- "each neighbour across an edge that has no 60 degree angle at the vertex"
-- corner j of the star of degree d has 60 degrees: its second side is its first, turned by 60 degrees. (In all patterns two sides that are 60 degrees
-- apart are of one length.)
unfoldable pub sixty_at : ℕ → ℕ → Bool
sixty_at d j = same_point (turn60_of (pattern_of d j).adjacent) (pattern_of d ((j + 1) % d)).adjacent

-- "Corner j lies between adjacent j and the next, the last before the first": the edge to adjacent j is a side of corner j and of the one before
unfoldable pub no_sixty : ℕ → ℕ → Bool
no_sixty d j = not (sixty_at d j) && not (sixty_at d ((j + d - 1) % d))

-- the places of degree d below n that have none
unfoldable pub places_below : ℕ → ℕ → List ℕ
places_below d zero = []
places_below d (suc n) = places_below d n ++ cond (no_sixty d n) (n ∷ []) []

-- "in the order of the vertex's star"; a vertex of degree 6 has no such place
unfoldable pub places_of : ℕ → List ℕ
places_of d = places_below d d

-- ---- one after the other, to "the first met"
-- "neighbours in the order of the vertex's star at the start, each finished before the next"
unfoldable pub each_of : (List ℕ → Point → MeshAfter) → Record → List ℕ → List ℕ → MeshAfter
each_of near v t [] = mesh_after 0 t
each_of near v t (j ∷ js) = and_then (near t (adjacent_at v j)) (λ u. each_of near v u js)

-- ---- one neighbour, wanted at level n; `lower` brings a vertex a level lower to degree 6
-- "a neighbour not yet of degree 6 is itself brought to degree 6 before it is subdivided": as it stands then
abbrev pub raised_at : List ℕ → Option Record → MeshAfter
raised_at t None = mesh_after 7 t
raised_at t (Some u) = subdivide_vertex t u

-- "7 where a neighbour .. has degree 6 at another level than wanted, or a lower degree and isn't exactly one level lower, where a subdivision answers
-- 7 ..; 16 for a boundary neighbour; 8"
unfoldable pub near_vertex : (List ℕ → Record → MeshAfter) → ℕ → List ℕ → Record → MeshAfter
near_vertex lower n t u =
    cond (eqb u.d 0) (mesh_after 16 t)
    (cond (eqb u.d 6) (unless (eqb u.n.0 n) (mesh_after 7 t) (subdivide_vertex t u))
    (unless (eqb (u.n.0 + 1) n) (mesh_after 7 t)
    (and_then (lower t u) (λ s. raised_at s (look_up s u.at)))))

-- "7 where a neighbour is absent"
abbrev pub near_looked : (List ℕ → Record → MeshAfter) → ℕ → List ℕ → Option Record → MeshAfter
near_looked lower n t None = mesh_after 7 t
near_looked lower n t (Some u) = near_vertex lower n t u

abbrev pub near_with : (List ℕ → Record → MeshAfter) → ℕ → List ℕ → Point → MeshAfter
near_with lower n t p = near_looked lower n t (look_up t p)

-- ---- a vertex brought to degree 6, by what subdivides a neighbour
abbrev pub is_six : Option Record → Bool
is_six None = false
is_six (Some w) = eqb w.d 6

-- "or where the vertex ends below degree 6"
abbrev pub ends_at : List ℕ → Option Record → MeshAfter
ends_at t l = unless (is_six l) (mesh_after 7 t) (mesh_after 0 t)

abbrev pub brought_by : (List ℕ → Point → MeshAfter) → List ℕ → Record → MeshAfter
brought_by near t v = and_then (each_of near v t (places_of v.d)) (λ s. ends_at s (look_up s v.at))

-- no vertex is a level lower than 0
abbrev pub nothing_lower : List ℕ → Record → MeshAfter
nothing_lower t u = mesh_after 7 t

-- "it first subdivides, at the vertex's own level, each neighbour ..; and a neighbour not yet of degree 6 is itself brought to degree 6 .., one level
-- lower": v has level n
unfoldable pub bring_of : ℕ → List ℕ → Record → MeshAfter
bring_of zero t v = brought_by (near_with nothing_lower 0) t v
bring_of (suc i) t v = brought_by (near_with (λ s u. bring_of i s u) (suc i)) t v

-- what brings a neighbour of a vertex of level n to degree 6
unfoldable pub lower_of : ℕ → List ℕ → Record → MeshAfter
lower_of zero t u = mesh_after 7 t
lower_of (suc i) t u = bring_of i t u

-- the neighbour at p of a vertex of level n is subdivided at that level
abbrev pub near_of : ℕ → List ℕ → Point → MeshAfter
near_of n t p = near_with (lower_of n) n t p

-- ---- the request
-- "Refusals: .. 14, 5 for a vertex of degree below 6 at level 12, then the first met"; "At degree 6 the answer is 0, nothing done"; "All or nothing"
unfoldable pub bring_vertex : List ℕ → Record → MeshAfter
bring_vertex t v =
    cond (eqb v.d 0) (mesh_after 14 t)
    (cond (eqb v.d 6) (mesh_after 0 t)
    (cond (eqb v.n.0 12) (mesh_after 5 t)
    (all_or t (bring_of v.n.0 t v))))

abbrev pub bring_looked : List ℕ → Option Record → MeshAfter
bring_looked t None = mesh_after 3 t
bring_looked t (Some v) = bring_vertex t v

-- "Every point in a request is normalised before it is looked up"
unfoldable pub request_of : List ℕ → ℤ → ℤ → ℕ → MeshAfter
request_of t a b m = unless (in_order_of t) (mesh_after 1 t) (bring_looked t (look_up t (normal_of a b m)))

-- ---- the call
pub record BringAfter : Type 0 where
  pub number : ℕ
  pub table : List ℕ
  pub scratch : List ℕ

abbrev pub bring_after : ℕ → List ℕ → List ℕ → BringAfter
bring_after x t s = record { number = x; table = t; scratch = s }

-- "otherwise scratch ends all 255"
abbrev pub cleared : MeshAfter → List ℕ → BringAfter
cleared o s = bring_after o.number o.bytes (cleared_of s)

-- "a scratch table is lent as for the readers, on the same terms. Refusals: 1 (scratch length included)": "Lengths that don't fit are refused with
-- both untouched"
unfoldable pub bring_to_six : List ℕ → List ℕ → ℤ → ℤ → ℕ → BringAfter
bring_to_six t s a b m = unless (lengths_fit t s) (bring_after 1 t s) (cleared (request_of t a b m) s)
