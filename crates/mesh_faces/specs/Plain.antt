-- Tables all of whose corners are plain, as the survey tells: `plain-corner` each of them is · `plain-untorn` nothing is torn · `plain-hidden`, `plain-fresh`
-- a face is taken at the first of its vertices that have a star.
-- Assumes nothing.
use Rattle.std.specs.Prelude.{◌≡◌, Bool, cond, ◌&&◌, ◌||◌, List, [], ◌∷◌, Option, Some, None}
use Rattle.std.proofs.Math.Path.{refl, ap}
use Rattle.std.proofs.Common.{sym, ◌∙◌}
use Rattle.std.proofs.Math.Bool.{true, false, not, or-true}
use Prim.Native.Nat.{ℕ, zero, suc, ◌+◌, ◌≤◌, ◌<◌}
use native.Mathlib.Omega.{arith}
use Rattle.laws.specs.Each.{never, both_left, both_right, upto-each, each-upto}
use Rattle.laws.specs.Some.{some_of}
use Rattle.lattice.specs.Stars.{adjacent_at}
use Rattle.lattice.specs.declared.points.Point.{Point}
use Rattle.lattice.specs.declared.records.Record.{Record}
use Rattle.table.specs.Slots.{slots_of, slot_at}
use Rattle.table.specs.Entries.{holds, records_below}
use Rattle.queries.specs.Queries.{chosen_at, is_point}
use Rattle.firsts.specs.Faces.{next_place}
use Rattle.firsts.specs.Earlier.{slot_in, face_before, face_on, inner_in, inners_before, plain_with, plain_at, plain_slot, plain_of}
use Rattle.firsts.specs.CaseLaws.{inners-none, plain-holds}
use Rattle.firsts.specs.declared.faces.Face.{Face}
use Rattle.mesh_faces.specs.MeshFaces.{torn_at, torn_of}
use Rattle.mesh_faces.specs.Once.{fresh_at, fresh-face, whole_corner, torn-star, slot_torn, torn_in, torn-none, torn-more}

-- ---- one corner

module _ (t : List ℕ) (k : ℕ) (v : Record) (j : ℕ) (p : plain_at t k v j ≡ true) where
  pub plain-spot : (o : Point) × (chosen_at t v j ≡ Some o)
  unfolding plain_at
  plain-spot = go (chosen_at t v j) refl p
    where
      go : (s : Option Point) → chosen_at t v j ≡ s → plain_with t k v j s ≡ true → (o : Point) × (chosen_at t v j ≡ Some o)
      go (Some o) e h = (o, e)
      go None e h = absurd (never h)

  tested : (o : Point) → chosen_at t v j ≡ Some o
      → holds t (adjacent_at v j) && (not (inners_before t k (face_on v j o)) || face_before t k (face_on v j o)) ≡ true
  unfolding plain_at
  tested o e = ap (plain_with t k v j) (sym e) ∙ p

  plain-whole : whole_corner t v j ≡ true
  plain-whole =
      let s = plain-spot in
      λ i.
      both_left (holds t (adjacent_at v j)) (not (inners_before t k (face_on v j s.0)) || face_before t k (face_on v j s.0)) (tested s.0 s.1) i
      && ap is_point s.1 i

  pub plain-fresh : (o : Point) → chosen_at t v j ≡ Some o → (f : Face) → f ≡ face_on v j o → (b : Bool) → inners_before t k f ≡ b
      → cond b [] (f ∷ []) ≡ fresh_at t k v j
  plain-fresh o e f g b h = fresh-face t k v j o e f g b (go b h)
    where
      go : (b : Bool) → inners_before t k f ≡ b → face_before t k f ≡ b
      go false q = inners-none t k f q
      go true q =
          ap (λ (x : Bool). not x || face_before t k f) (sym q)
          ∙ ap (λ (x : Face). not (inners_before t k x) || face_before t k x) g
          ∙ both_right (holds t (adjacent_at v j)) (not (inners_before t k (face_on v j o)) || face_before t k (face_on v j o)) (tested o e)

  -- a vertex with a star stands earlier beside v
  pub plain-hidden : inner_in t k (slot_in t (adjacent_at v j)) || inner_in t k (slot_in t (adjacent_at v (next_place v.d j))) ≡ true → [] ≡ fresh_at t k v j
  plain-hidden h =
      let s = plain-spot in
      plain-fresh s.0 s.1 (face_on v j s.0) refl true
      (either (inner_in t k (slot_in t (adjacent_at v j))) (inner_in t k (slot_in t s.0)) (inner_in t k (slot_in t (adjacent_at v (next_place v.d j)))) h)
    where
      either : (x y z : Bool) → x || z ≡ true → x || (y || z) ≡ true
      either true y z e = refl
      either false y z e = ap (λ (w : Bool). y || w) e ∙ or-true y

-- ---- all corners

module _ (t : List ℕ) (p : plain_of t ≡ true) where
  slot-plain : (k : ℕ) → k < slots_of t → plain_slot t k ≡ true
  unfolding plain_of
  slot-plain k l = upto-each (plain_slot t) (slots_of t) k p l

  pub plain-corner : (k : ℕ) (v : Record) → k < slots_of t → slot_at t k ≡ Some v → (j : ℕ) → j < v.d → plain_at t k v j ≡ true
  plain-corner k v l e j h = upto-each (plain_at t k v) v.d j (plain-holds t k v e ∙ slot-plain k l) h

  slot_whole : (k : ℕ) → k < slots_of t → slot_torn t k ≡ false
  unfolding slot_torn
  slot_whole k l = go (slot_at t k) refl
    where
      go : (s : Option Record) → slot_at t k ≡ s → torn_in t s ≡ false
      go None e = refl
      go (Some v) e =
          torn-star t v ∙ ap not (each-upto (whole_corner t v) v.d (λ j h. plain-whole t k v j (plain-corner k v l e j h)))

  pub plain-untorn : torn_of t ≡ false
  unfolding torn_of
  plain-untorn = go (slots_of t) (omega arith)
    where
      go : (k : ℕ) → k ≤ slots_of t → some_of (torn_at t) (records_below t k) ≡ false
      go zero h = torn-none t
      go (suc k) h =
          let z : suc k ≡ k + 1 = omega arith in
          ap (λ (n : ℕ). some_of (torn_at t) (records_below t n)) z ∙ torn-more t k ∙ (λ i. go k (omega arith) i || slot_whole k (omega arith) i)
