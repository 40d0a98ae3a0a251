-- The faces, each once, as the code takes them: at the first vertex that has it, in the order of slots.
-- `fresh_at`, `fresh_star`, `fresh_slot`, `fresh_below` those of a corner, a vertex, a slot, of the first slots, `fresh-none`, `fresh-face` by cases ·
-- `fresh-all` they are the faces of the mesh · `whole_corner`, `torn-star`, `slot_torn`, `torn-none`, `torn-more`, `torn-found` a torn vertex ·
-- `Four` a face whose vertices all stand in the table, `corner-four`, `fresh-four`.
-- Assumes nothing.
use Rattle.std.specs.Prelude.{◌≡◌, Bool, true, false, not, ◌&&◌, ◌||◌, Option, Some, None}
use Rattle.std.proofs.Math.Path.{refl, sym, ap}
use Rattle.std.proofs.Common.{◌∙◌, subst, length-append}
use Rattle.std.proofs.Math.Bool.{cond, or-false, or-true}
use mathlib.Core.List.{List, [], ◌∷◌, ◌++◌, append_assoc, append-nil}
use Prim.Native.Nat.{ℕ, zero, suc, ◌+◌, ◌≤◌, ◌<◌}
use native.Mathlib.Omega.{arith}
use Rattle.std.proofs.Math.Decide.{dec_lt}
use Rattle.std.proofs.Math.ListN.{length}
use Rattle.laws.specs.Each.{never, both_left, upto-each, among_none}
use Rattle.laws.specs.Rules.{upto}
use Rattle.laws.specs.Some.{some_of, some-append, none-at}
use Rattle.lattice.specs.Stars.{adjacent_at, first_at, second_at}
use Rattle.lattice.specs.declared.points.Point.{Point}
use Rattle.lattice.specs.declared.records.Record.{Record}
use Rattle.table.specs.Slots.{slots_of, slot_at}
use Rattle.table.specs.Order.{InOrder}
use Rattle.table.specs.Entries.{holds, is_held, listed, records_below, records_of}
use Rattle.table.specs.MapLaws.{slot-looked, looked-records, records-none, records-more}
use Rattle.queries.specs.Queries.{adjacents_there, there, chosen_at, is_point, corners_there}
use Rattle.firsts.specs.Faces.{gather, each, next_place, face_with, faces_at, same_face}
use Rattle.firsts.specs.Earlier.{face_before, face_on}
use Rattle.firsts.specs.DifferentLaws.{some-gather}
use Rattle.firsts.specs.FaceLaws.{next-below, face-before, corner-apart}
use Rattle.firsts.specs.declared.faces.Face.{Face}
use Rattle.mesh_faces.specs.MeshFaces.{once_after, mesh_faces, torn_at, torn_of}
use Rattle.mesh_faces.specs.declared.fresh.Fresh.{Fresh}

abbrev pub fresh_of : Option Fresh → List Face
fresh_of (Some f) = f.face ∷ []
fresh_of None = []

-- the face of corner j of v, in slot k, if no earlier vertex has it
abbrev pub fresh_with : List ℕ → ℕ → Record → ℕ → Option Point → List Face
fresh_with t k v j (Some o) = cond (face_before t k (face_on v j o)) [] (face_on v j o ∷ [])
fresh_with t k v j None = []

unfoldable pub fresh_at : List ℕ → ℕ → Record → ℕ → List Face
fresh_at t k v j = fresh_with t k v j (chosen_at t v j)

-- by cases of the opposite that is chosen, and of whether an earlier vertex has the face
module _ (t : List ℕ) (k : ℕ) (v : Record) (j : ℕ) where
  pub fresh-none : chosen_at t v j ≡ None → [] ≡ fresh_at t k v j
  unfolding fresh_at
  fresh-none e = ap (fresh_with t k v j) (sym e)

  pub fresh-face : (o : Point) → chosen_at t v j ≡ Some o → (f : Face) → f ≡ face_on v j o → (b : Bool) → face_before t k f ≡ b
      → cond b [] (f ∷ []) ≡ fresh_at t k v j
  unfolding fresh_at
  fresh-face o e f g b h =
      ap (λ (x : Bool). cond x [] (f ∷ [])) (sym h) ∙ ap (λ (x : Face). cond (face_before t k x) [] (x ∷ [])) g ∙ ap (fresh_with t k v j) (sym e)

abbrev pub fresh_star : List ℕ → ℕ → Record → List Face
fresh_star t k v = gather v.d (fresh_at t k v)

abbrev pub fresh_in : List ℕ → ℕ → Option Record → List Face
fresh_in t k None = []
fresh_in t k (Some v) = fresh_star t k v

unfoldable pub fresh_slot : List ℕ → ℕ → List Face
fresh_slot t k = fresh_in t k (slot_at t k)

unfoldable pub fresh_below : List ℕ → ℕ → List Face
fresh_below t zero = []
fresh_below t (suc k) = fresh_below t k ++ fresh_slot t k

pub fresh-more : (t : List ℕ) (k : ℕ) → fresh_below t (k + 1) ≡ fresh_below t k ++ fresh_slot t k
unfolding fresh_below
fresh-more t k = let e : k + 1 ≡ suc k = omega arith in ap (fresh_below t) e

pub gather-more : {A : Type 0} (g : ℕ → List A) (j : ℕ) → gather (j + 1) g ≡ gather j g ++ g j
unfolding gather
gather-more g j = let e : j + 1 ≡ suc j = omega arith in ap (λ (k : ℕ). gather k g) e

pub fresh_start : (t : List ℕ) → fresh_below t 0 ≡ []
unfolding fresh_below
fresh_start t = refl

pub gather-start : {A : Type 0} (g : ℕ → List A) → gather 0 g ≡ []
unfolding gather
gather-start g = refl

-- a list that grows by g k at step k has room for that at any later step
pub grown-room : {A : Type 0} (h g : ℕ → List A) → ((n : ℕ) → h (n + 1) ≡ h n ++ g n) → (k n : ℕ) → k < n → length (h k) + length (g k) ≤ length (h n)
grown-room h g more k zero l = absurd (omega arith)
grown-room h g more k (suc n) l = go (dec_lt k n) (λ m. grown-room h g more k n m)
  where
    next : length (h (suc n)) ≡ length (h n) + length (g n)
    next = let z : suc n ≡ n + 1 = omega arith in ap (λ (i : ℕ). length (h i)) z ∙ ap length (more n) ∙ length-append (h n) (g n)

    go : Dec (k < n) → (k < n → length (h k) + length (g k) ≤ length (h n)) → length (h k) + length (g k) ≤ length (h (suc n))
    go (yes m) ih = omega (arith, ih m, next)
    go (no m) ih =
        let z : k ≡ n = omega arith in
        omega (arith, next, ap (λ (i : ℕ). length (h i)) z, ap (λ (i : ℕ). length (g i)) z)

-- by what the slot holds
pub fresh-free : (t : List ℕ) (k : ℕ) → slot_at t k ≡ None → fresh_slot t k ≡ []
unfolding fresh_slot
fresh-free t k e = ap (fresh_in t k) e

pub fresh_holds : (t : List ℕ) (k : ℕ) (v : Record) → slot_at t k ≡ Some v → fresh_slot t k ≡ fresh_star t k v
unfolding fresh_slot
fresh_holds t k v e = ap (fresh_in t k) e

-- ---- the different ones, part by part

module _ {A : Type 0} (same : A → A → Bool) where
  once-append : (seen xs ys : List A) → once_after same seen (xs ++ ys) ≡ once_after same seen xs ++ once_after same (seen ++ xs) ys
  unfolding once_after
  once-append seen [] ys = ap (λ (l : List A). once_after same l ys) (sym (append-nil seen))
  once-append seen (x ∷ xs) ys =
      let h = cond (some_of (same x) seen) [] (x ∷ []) in
      ap (λ (l : List A). h ++ l)
      (once-append (seen ++ x ∷ []) xs ys
      ∙ ap (λ (l : List A). once_after same (seen ++ x ∷ []) xs ++ once_after same l ys) (append_assoc seen (x ∷ []) xs))
      ∙ sym (append_assoc h (once_after same (seen ++ x ∷ []) xs) (once_after same (seen ++ x ∷ xs) ys))

  once-none : (seen : List A) → once_after same seen [] ≡ []
  unfolding once_after
  once-none seen = refl

  once-one : (seen : List A) (x : A) (b : Bool) → some_of (same x) seen ≡ b → once_after same seen (x ∷ []) ≡ cond b [] (x ∷ [])
  unfolding once_after
  once-one seen x b e = append-nil (cond (some_of (same x) seen) [] (x ∷ [])) ∙ ap (λ (c : Bool). cond c [] (x ∷ [])) e

  -- a star's places, of which place j adds c j
  once-star : (seen : List A) (g c : ℕ → List A) (d : ℕ) → ((j : ℕ) → j < d → once_after same (seen ++ gather j g) (g j) ≡ c j)
      → once_after same seen (gather d g) ≡ gather d c
  unfolding gather
  once-star seen g c zero h = once-none seen
  once-star seen g c (suc d) h =
      once-append seen (gather d g) (g d) ∙ (λ i. once-star seen g c d (λ j l. h j (omega arith)) i ++ h d (omega arith) i)

-- no place below n passes

each_none : (g : Record → List Face) → each g [] ≡ []
unfolding each
each_none g = refl

each-one : (g : Record → List Face) (v : Record) → each g (v ∷ []) ≡ g v
unfolding each
each-one g v = append-nil (g v)

each_append : (g : Record → List Face) (vs ws : List Record) → each g (vs ++ ws) ≡ each g vs ++ each g ws
unfolding each
each_append g [] ws = refl
each_append g (v ∷ vs) ws = ap (λ (l : List Face). g v ++ l) (each_append g vs ws) ∙ sym (append_assoc (g v) (each g vs) (each g ws))

module _ (t : List ℕ) (o : InOrder t) where
  abbrev before : ℕ → List Face
  before k = each (faces_at t) (records_below t k)

  abbrev place : Record → ℕ → List Face
  place v j = face_with v j (chosen_at t v j)

  star-once : (k : ℕ) (v : Record) → k < slots_of t → slot_at t k ≡ Some v → once_after same_face (before k) (faces_at t v) ≡ fresh_star t k v
  unfolding fresh_at
  star-once k v l here = once-star same_face (before k) (place v) (fresh_at t k v) v.d (λ j m. go j m (chosen_at t v j) refl)
    where
      seen : (j : ℕ) → j < v.d → (p : Point) → chosen_at t v j ≡ Some p
          → some_of (same_face (face_on v j p)) (before k ++ gather j (place v)) ≡ face_before t k (face_on v j p)
      seen j m p e =
          let f = face_on v j p in
          some-append (same_face f) (before k) (gather j (place v))
          ∙ (λ i.
          face-before t o k v l here f refl i
          || (some-gather (same_face f) j (place v) ∙ among_none (λ i. some_of (same_face f) (place v i)) j (λ i h. corner-apart t o k v l here i j h m p e)) i)
          ∙ or-false (face_before t k f)

      go : (j : ℕ) → j < v.d → (s : Option Point) → chosen_at t v j ≡ s → once_after same_face (before k ++ gather j (place v)) (face_with v j s) ≡ fresh_with t k v j s
      go j m None e = once-none same_face (before k ++ gather j (place v))
      go j m (Some p) e = once-one same_face (before k ++ gather j (place v)) (face_on v j p) (face_before t k (face_on v j p)) (seen j m p e)

  slots-once : (k : ℕ) → k ≤ slots_of t → once_after same_face [] (before k) ≡ fresh_below t k
  unfolding fresh_below fresh_slot
  slots-once zero h =
      ap (λ (rs : List Record). once_after same_face [] (each (faces_at t) rs)) (records-none t) ∙ ap (once_after same_face []) (each_none (faces_at t))
      ∙ once-none same_face []
  slots-once (suc k) h =
      ap (once_after same_face []) (more k) ∙ once-append same_face [] (before k) (each (faces_at t) (listed (slot_at t k)))
      ∙ (λ i. slots-once k (omega arith) i ++ one (slot_at t k) refl i)
    where
      more : (k : ℕ) → before (suc k) ≡ before k ++ each (faces_at t) (listed (slot_at t k))
      more k =
          let e : suc k ≡ k + 1 = omega arith in
          ap before e ∙ ap (each (faces_at t)) (records-more t k) ∙ each_append (faces_at t) (records_below t k) (listed (slot_at t k))

      one : (s : Option Record) → slot_at t k ≡ s → once_after same_face (before k) (each (faces_at t) (listed s)) ≡ fresh_in t k s
      one None e = ap (once_after same_face (before k)) (each_none (faces_at t)) ∙ once-none same_face (before k)
      one (Some v) e = ap (once_after same_face (before k)) (each-one (faces_at t) v) ∙ star-once k v (omega arith) e

  pub fresh-all : fresh_below t (slots_of t) ≡ mesh_faces t
  fresh-all = sym (slots-once (slots_of t) (omega arith))

-- ---- torn

-- place j of v has its adjacent point and its corner's opposite in the table
abbrev pub whole_corner : List ℕ → Record → ℕ → Bool
whole_corner t v j = holds t (adjacent_at v j) && is_point (chosen_at t v j)

upto-both : (f g : ℕ → Bool) (n : ℕ) → upto n f && upto n g ≡ upto n (λ j. f j && g j)
upto-both f g zero = refl
upto-both f g (suc n) = four (f n) (upto n f) (g n) (upto n g) ∙ ap (λ (b : Bool). (f n && g n) && b) (upto-both f g n)
  where
    four : (a b c d : Bool) → (a && b) && (c && d) ≡ (a && c) && (b && d)
    four true true c d = refl
    four true false true d = refl
    four true false false d = refl
    four false b c d = refl

pub torn-star : (t : List ℕ) (v : Record) → torn_at t v ≡ not (upto v.d (whole_corner t v))
unfolding adjacents_there corners_there
torn-star t v = ap not (upto-both (λ j. holds t (adjacent_at v j)) (λ j. is_point (chosen_at t v j)) v.d)

abbrev pub torn_in : List ℕ → Option Record → Bool
torn_in t None = false
torn_in t (Some v) = torn_at t v

unfoldable pub slot_torn : List ℕ → ℕ → Bool
slot_torn t i = torn_in t (slot_at t i)

-- no slot so far is torn
pub torn-none : (t : List ℕ) → some_of (torn_at t) (records_below t 0) ≡ false
torn-none t = ap (some_of (torn_at t)) (records-none t)

pub torn-more : (t : List ℕ) (i : ℕ) → some_of (torn_at t) (records_below t (i + 1)) ≡ some_of (torn_at t) (records_below t i) || slot_torn t i
unfolding slot_torn
torn-more t i =
    ap (some_of (torn_at t)) (records-more t i) ∙ some-append (torn_at t) (records_below t i) (listed (slot_at t i))
    ∙ ap (λ (b : Bool). some_of (torn_at t) (records_below t i) || b) (one (slot_at t i))
  where
    one : (s : Option Record) → some_of (torn_at t) (listed s) ≡ torn_in t s
    one None = refl
    one (Some v) = or-false (torn_at t v)

pub torn-found : (t : List ℕ) (i : ℕ) → i < slots_of t → slot_torn t i ≡ true → some_of (torn_at t) (records_of t) ≡ true
torn-found t i l e = go (slots_of t) l
  where
    go : (k : ℕ) → i < k → some_of (torn_at t) (records_below t k) ≡ true
    go zero h = absurd (omega arith)
    go (suc k) h = more (dec_lt i k) (λ m. go k m)
      where
        next : some_of (torn_at t) (records_below t (suc k)) ≡ some_of (torn_at t) (records_below t k) || slot_torn t k
        next = let z : suc k ≡ k + 1 = omega arith in ap (λ (n : ℕ). some_of (torn_at t) (records_below t n)) z ∙ torn-more t k

        more : Dec (i < k) → (i < k → some_of (torn_at t) (records_below t k) ≡ true) → some_of (torn_at t) (records_below t (suc k)) ≡ true
        more (yes m) ih = next ∙ ap (λ (b : Bool). b || slot_torn t k) (ih m)
        more (no m) ih =
            let z : k ≡ i = omega arith in
            next ∙ ap (λ (b : Bool). some_of (torn_at t) (records_below t k) || b) (ap (slot_torn t) z ∙ e) ∙ or-true (some_of (torn_at t) (records_below t k))

-- ---- a face whose vertices all stand in the table

pub record Four (t : List ℕ) (f : Face) : Type 0 where
  pub at : holds t f.at ≡ true
  pub adjacent : holds t f.adjacent ≡ true
  pub opposite : holds t f.opposite ≡ true
  pub next : holds t f.next ≡ true

chosen-there : (t : List ℕ) (v : Record) (j : ℕ) (p : Point) → chosen_at t v j ≡ Some p → holds t p ≡ true
unfolding chosen_at
chosen-there t v j p e = go (holds t (first_at v j)) refl (second_at v j) e
  where
    point : (q r : Point) → Some q ≡ Some r → q ≡ r
    point q r z = cc

    none : {X : Type 0} → None ≡ Some p → X
    none z = absurd (let q : ◌≡◌ {A = ℕ} 0 1 = cc in omega arith)

    second : (s : Option Point) → there t s ≡ Some p → holds t p ≡ true
    second None z = none z
    second (Some q) z = pick (holds t q) refl z
      where
        pick : (b : Bool) → holds t q ≡ b → cond b (Some q) None ≡ Some p → holds t p ≡ true
        pick true h z = ap (holds t) (sym (point q p z)) ∙ h
        pick false h z = none z

    go : (b : Bool) → holds t (first_at v j) ≡ b → (s : Option Point) → cond b (Some (first_at v j)) (there t s) ≡ Some p → holds t p ≡ true
    go true h s z = ap (holds t) (sym (point (first_at v j) p z)) ∙ h
    go false h s z = second s z

not-true : (b : Bool) → not b ≡ false → b ≡ true
not-true true h = refl
not-true false h = absurd (never (sym h))

module _ (t : List ℕ) (o : InOrder t) (untorn : torn_of t ≡ false) (k : ℕ) (v : Record) (l : k < slots_of t) (here : slot_at t k ≡ Some v) where
  looked : holds t v.at ≡ true
  looked = ap is_held (slot-looked t o k v l here)

  whole : upto v.d (whole_corner t v) ≡ true
  unfolding torn_of
  whole =
      not-true (upto v.d (whole_corner t v))
      (sym (torn-star t v) ∙ none-at (torn_at t) (records_of t) v untorn (looked-records t o v.at v (slot-looked t o k v l here)))

  adjacent-there : (j : ℕ) → j < v.d → holds t (adjacent_at v j) ≡ true
  adjacent-there j m = both_left (holds t (adjacent_at v j)) (is_point (chosen_at t v j)) (upto-each (whole_corner t v) v.d j whole m)

  pub corner-four : (j : ℕ) → j < v.d → (p : Point) → chosen_at t v j ≡ Some p → Four t (face_on v j p)
  corner-four j m p e = record {
    at = looked;
    adjacent = adjacent-there j m;
    opposite = chosen-there t v j p e;
    next = adjacent-there (next_place v.d j) (next-below v.d j m);
  }

  pub fresh-four : (j : ℕ) → j < v.d → (f : Face) → f ∷ [] ≡ fresh_at t k v j → Four t f
  unfolding fresh_at
  fresh-four j m f e = go (chosen_at t v j) refl e
    where
      empty : f ∷ [] ≡ [] → ⊥
      empty z = let y = ap length z in omega (arith, y)

      first : (g : Face) → f ∷ [] ≡ g ∷ [] → f ≡ g
      first g z = cc

      go : (s : Option Point) → chosen_at t v j ≡ s → f ∷ [] ≡ fresh_with t k v j s → Four t f
      go None c z = absurd (empty z)
      go (Some p) c z = pick (face_before t k (face_on v j p)) z
        where
          pick : (b : Bool) → f ∷ [] ≡ cond b [] (face_on v j p ∷ []) → Four t f
          pick true y = absurd (empty y)
          pick false y = subst (Four t) (sym (first (face_on v j p) y)) (corner-four j m p c)
