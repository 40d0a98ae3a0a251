-- Document 02, ticket 4, "Refine here, whatever the degree", sentence by sentence: each statement under the words that it says, over the definition that
-- the promise of `bring` cites. They hold of every table and scratch, whatever is asked; those of a grown mesh say so.
-- The words themselves are `Goes` and `Meets` (`everywhere/specs/First`), over look-ups and document 01's subdivision alone: what is done turn by turn,
-- and what is met first. `At` the vertex is asked about; `Below` and it is neither on the boundary nor of degree 6 nor at level 12. `Run` a sequence of
-- accepted subdivisions, `Reaching` one that brings the vertex to degree 6, from the same records in whatever room (`everywhere/specs/Runs`).
-- Assumes nothing.
pub use Rattle.everywhere.specs.Runs.{Division, Run, Alike, Six, Reaching, risen}
pub use Rattle.everywhere.specs.First.{Task, neighbour, places, all_places, Accepts, Denies, Goes, Meets}
pub use Rattle.everywhere.specs.Filled.{Turns}
pub use Rattle.everywhere.specs.OnGrown.{near_most}
pub use Rattle.everywhere.specs.Everywhere.{At, Below, Answers}
use Rattle.std.specs.Prelude.{◌≡◌, ◌≢◌, ◌⊎◌, ℕ, ◌+◌, ◌*◌, ◌≤◌, ◌<◌, ℤ, length, Option, Some}
use Rattle.std.proofs.Common.{ap, subst, inl, inr, arith}
use mathlib.Core.List.{List, Memᴰ}
use Rattle.std.proofs.Math.Decide.{ℕ_discrete}
use Rattle.lattice.specs.Points.{normal_of}
use Rattle.lattice.specs.declared.records.Record.{Record}
use Rattle.table.specs.Slots.{free_slots}
use Rattle.table.specs.Order.{InOrder}
use Rattle.table.specs.Entries.{look_up}
use Rattle.mesh.specs.Grown.{Grown}
use Rattle.bring.specs.Bring.{places_of, BringAfter, bring_to_six}
use Rattle.everywhere.specs.Runs.{run-free}
use Rattle.everywhere.specs.Meeting as meeting
use Rattle.everywhere.specs.Filled as filled
use Rattle.everywhere.specs.Everywhere as call

module _ (t s : List ℕ) (a b : ℤ) (m : ℕ) where
  -- what stands at the point, and what the request answers and leaves
  abbrev there : Option Record
  there = look_up t (normal_of a b m)

  abbrev bring : BringAfter
  bring = bring_to_six t s a b m

  -- "Add a request that brings it to degree 6: it first subdivides, at the vertex's own level, each neighbour across an edge that has no 60 degree angle
  -- at the vertex; and a neighbour not yet of degree 6 is itself brought to degree 6 before it is subdivided, one level lower."
  pub bring-goes : (v : Record) → Below t s there v → bring.number ≡ 0 → Goes (all_places v) t bring.table
  bring-goes v w z = call.bring-goes t s a b m v w z

  -- degree 6, at its own level and one more
  pub bring-risen : (v : Record) → Below t s there v → bring.number ≡ 0 → look_up bring.table v.at ≡ Some (risen v.at v.n.0)
  bring-risen v w z = call.bring-risen t s a b m v w z

  -- "The subdivisions made are exactly those that every sequence reaching the goal must contain."
  pub bring-exactly : (v : Record) → there ≡ Some v → bring.number ≡ 0
      → (made : List Division) × Run t made bring.table
      × ((x : Division) → Memᴰ x made → (k : List Division) → Reaching t v.at k → Memᴰ x k)
      × ((x : Division) → ((k : List Division) → Reaching t v.at k → Memᴰ x k) → Memᴰ x made)
  bring-exactly v h z = let d = call.bring-done t s a b m v h z in (d.list, d.run, d.needed, d.exact)

  -- so none of them takes fewer slots
  pub bring-least : (v : Record) → there ≡ Some v → bring.number ≡ 0 → (k : List Division) → Reaching t v.at k
      → free_slots t ≤ free_slots bring.table + 6 * length k
  bring-least v h z k y =
      let d = call.bring-done t s a b m v h z in
      let f = run-free t bring.table d.list d.run in
      let l = d.least k y in
      omega arith

  -- "On a grown mesh, with slots enough and the vertex below level 12, the request succeeds unless the chain reaches a boundary vertex." However the mesh
  -- lies, so many slots are enough (near_most n is 2^(n+1) - 1); and so are those of any sequence that reaches the goal
  pub bring-enough : Grown t → (v : Record) → Below t s there v → 12 * near_most v.n.0 + 6 ≤ free_slots t
      → (bring.number ≡ 0) ⊎ ((bring.number ≡ 16) × Meets 16 (all_places v) t)
  bring-enough g v w room = go (ℕ_discrete bring.number 0)
    where
      first : Meets bring.number (all_places v) t → (bring.number ≡ 7) ⊎ ((bring.number ≡ 16) ⊎ (bring.number ≡ 8))
          → (bring.number ≡ 16) × Meets 16 (all_places v) t
      first k (inl e) = absurd (call.bring-never-7 t s a b m g e)
      first k (inr (inl e)) = (e, subst (λ (x : ℕ). Meets x (all_places v) t) e k)
      first k (inr (inr e)) = absurd (call.bring-room t s a b m g v w room e)

      go : Dec (bring.number ≡ 0) → (bring.number ≡ 0) ⊎ ((bring.number ≡ 16) × Meets 16 (all_places v) t)
      go (yes z) = inl z
      go (no n) = let k = call.bring-met t s a b m v w n in inr (first k (meeting.meets-number bring.number (all_places v) t k))

  pub bring-reaches : Grown t → (v : Record) → Below t s there v → (k : List Division) → Reaching t v.at k → 6 * length k ≤ free_slots t
      → bring.number ≡ 0
  bring-reaches g v w k y room = go (ℕ_discrete bring.number 0)
    where
      refused : bring.number ≢ 0 → (bring.number ≡ 7) ⊎ ((bring.number ≡ 16) ⊎ (bring.number ≡ 8)) → ⊥
      refused n (inl e) = call.bring-never-7 t s a b m g e
      refused n (inr (inl e)) = (call.bring-refuses t s a b m v w n).0 e k y
      refused n (inr (inr e)) = let f = (call.bring-refuses t s a b m v w n).1 e k y in omega arith

      go : Dec (bring.number ≡ 0) → bring.number ≡ 0
      go (yes z) = z
      go (no n) = absurd (refused n (meeting.meets-number bring.number (all_places v) t (call.bring-met t s a b m v w n)))

  pub bring-never-7 : Grown t → bring.number ≢ 7
  bring-never-7 g = call.bring-never-7 t s a b m g

  -- whatever the answer
  pub bring-grown : Grown t → Grown bring.table
  bring-grown g = call.bring-grown t s a b m g

  pub bring-order : InOrder t → InOrder bring.table
  bring-order o = call.bring-order t s a b m o

  -- "At degree 6 the answer is 0, nothing done. All or nothing; a scratch table is lent as for the readers, on the same terms. Refusals: 1 (scratch length
  -- included), 3, 14, 5 for a vertex of degree below 6 at level 12, then the first met, neighbours in the order of the vertex's star at the start, each
  -- finished before the next: 7 where ..; 16 for a boundary neighbour; 8." `Answers` has them line by line, with the table and scratch byte for byte
  pub bring-answers : Answers t s there bring
  bring-answers = call.bring-answers t s a b m

  pub answers-bring : (o : BringAfter) → Answers t s there o → bring ≡ o
  answers-bring o x = call.answers-bring t s a b m o x

  -- "All or nothing"
  pub bring-untouched : bring.number ≢ 0 → bring.table ≡ t
  bring-untouched n = go bring-answers
    where
      table : {o : BringAfter} → bring ≡ o → bring.table ≡ o.table
      table e = ap (λ (o : BringAfter). o.table) e

      number : {o : BringAfter} → bring ≡ o → bring.number ≡ o.number
      number e = ap (λ (o : BringAfter). o.number) e

      go : Answers t s there bring → bring.table ≡ t
      go (call.unfit f e) = table e
      go (call.unordered f o e) = table e
      go (call.missing f o l e) = table e
      go (call.boundary v w d e) = table e
      go (call.already v w d e) = table e
      go (call.top v w d x l e) = table e
      go (call.met v w x k e) = table e
      go (call.done v w r g e) = absurd (n (number e))

  -- 7, 16 and 8 and no other are met; 16: no sequence reaches the goal; 8: each that does needs more slots
  pub met-number : (x : ℕ) (v : Record) → Meets x (all_places v) t → (x ≡ 7) ⊎ ((x ≡ 16) ⊎ (x ≡ 8))
  met-number x v k = meeting.meets-number x (all_places v) t k

  pub bring-none : (v : Record) → Below t s there v → bring.number ≡ 16 → (k : List Division) → Reaching t v.at k → ⊥
  bring-none v w e = (call.bring-refuses t s a b m v w (λ z. omega arith)).0 e

  pub bring-short : (v : Record) → Below t s there v → bring.number ≡ 8 → (k : List Division) → Reaching t v.at k → free_slots t < 6 * length k
  bring-short v w e = (call.bring-refuses t s a b m v w (λ z. omega arith)).1 e

-- "or where the vertex ends below degree 6": it never does, on no table in order, once each neighbour in turn is finished
pub ends-six : (t : List ℕ) → InOrder t → (v : Record) → look_up t v.at ≡ Some v → v.d ≢ 0 → v.d ≢ 6 → v.n.0 < 12
    → (u : List ℕ) → Turns v (places_of v.d) t u → Six u v.at
ends-six t o v e z n low u x = filled.ends-six t o v e z n low u x
