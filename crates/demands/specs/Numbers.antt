-- Demand 1, the numbers: "What is wrong is refused by document 01's numbers, on its conditions and no others." For each call its conditions, in the
-- order that 01 has them, subdivision's as 02 has it: the number is that of the first that holds, and 0 where none does.
-- `Rule`, `first_of` · `first-number`, `number-first` refused with a number exactly when its condition holds and none before it, `zero-none`,
-- `none-zero` 0 exactly where none does · `star-number`, `base-number`, `base-place`, `subdivide-number`, `neighbours-number`, `faces-number`,
-- `write-number` the calls, by their conditions (`star_rules` .. `write_rules`); `bring`'s stands in Bring, `refine`'s in Refine.
-- Assumes nothing.
use Rattle.std.specs.Prelude.{◌≡◌, refl, Bool, true, false, cond, ◌&&◌, not, ◌≢◌, ℕ, eqb, ltb, ℤ, length, drop, Option, Some, None}
use Rattle.std.proofs.Common.{sym, ◌∙◌, ap}
use mathlib.Core.List.{List, [], ◌∷◌, ◌++◌, Memᴰ}
use Rattle.lattice.specs.Points.{normal_of}
use Rattle.lattice.specs.Records.{valid_of}
use Rattle.lattice.specs.Stars.{star_of, given, refused}
use Rattle.lattice.specs.declared.records.Record.{Record}
use Rattle.lattice.specs.declared.stars.Answer.{Answer}
use Rattle.table.specs.Slots.{fits_length, free_slots, cleared_of}
use Rattle.table.specs.Order.{in_order_of}
use Rattle.table.specs.Entries.{look_up, is_held}
use Rattle.base.specs.Base.{Laid, Room, NoRoom, base_of, unpaired, bad_place, centres_in, laid_of, from_laid}
use Rattle.base.specs.Base as laid
use Rattle.mesh.specs.Subdivide.{subdivide_of, subdivide_looked, subdivided, torn}
use Rattle.mesh.specs.Subdivide as divided
use Rattle.queries.specs.Queries.{neighbours_of, faces_of, faces_given, query_looked, adjacents_there, corners_there}
use Rattle.writers.specs.Files.{write_of, put_of}
use Rattle.writers.specs.Files as written

-- a condition, and the number given back where it holds
pub record Rule : Type 0 where
  pub when : Bool
  pub number : ℕ

infix 80 ◌⇒◌
abbrev pub ◌⇒◌ : Bool → ℕ → Rule
b ⇒ n = record { when = b; number = n }

-- "Order: ..": the first that holds
abbrev pub first_of : List Rule → ℕ
first_of [] = 0
first_of (r ∷ rs) = cond r.when r.number (first_of rs)

-- none of them holds
abbrev pub none_holds : List Rule → Type 0
none_holds [] = Unit {0}
none_holds (r ∷ rs) = (r.when ≡ false) × none_holds rs

-- "refused with N exactly when": its condition holds and none before it does
pub first-number : (before : List Rule) (r : Rule) (rest : List Rule) → none_holds before → r.when ≡ true → first_of (before ++ r ∷ rest) ≡ r.number
first-number [] r rest n h = rw h refl
first-number (x ∷ before) r rest n h = rw n.0 (first-number before r rest n.1 h)

pub record First (rules : List Rule) (number : ℕ) : Type 0 where
  pub before : List Rule
  pub rule : Rule
  pub rest : List Rule
  pub among : rules ≡ before ++ rule ∷ rest
  pub none : none_holds before
  pub holds : rule.when ≡ true
  pub gives : rule.number ≡ number

pub number-first : (rules : List Rule) (n : ℕ) → first_of rules ≡ n → (n ≡ 0 → ⊥) → First rules n
number-first [] n e z = absurd (z (sym e))
number-first (r ∷ rs) n e z = go r.when refl e (λ k. number-first rs n k z)
  where
    go : (b : Bool) → r.when ≡ b → cond b r.number (first_of rs) ≡ n → (first_of rs ≡ n → First rs n) → First (r ∷ rs) n
    go true h e ih = record { before = []; rule = r; rest = rs; among = refl; none = tt; holds = h; gives = e }
    go false h e ih =
        let f = ih e in
        record {
          before = r ∷ f.before;
          rule = f.rule;
          rest = f.rest;
          among = ap (λ (xs : List Rule). r ∷ xs) f.among;
          none = (h, f.none);
          holds = f.holds;
          gives = f.gives;
        }

-- 0 exactly where none holds, of rules that give other numbers than 0 where they hold
pub zero-none : (rules : List Rule) → ((r : Rule) → Memᴰ r rules → r.when ≡ true → r.number ≢ 0) → first_of rules ≡ 0 → none_holds rules
zero-none [] h e = tt
zero-none (r ∷ rs) h e = go r.when refl e (λ k. zero-none rs (λ x m. h x (Memᴰ.tail m)) k)
  where
    go : (b : Bool) → r.when ≡ b → cond b r.number (first_of rs) ≡ 0 → (first_of rs ≡ 0 → none_holds rs) → none_holds (r ∷ rs)
    go true w e ih = absurd (h r (Memᴰ.head refl) w e)
    go false w e ih = (w, ih e)

pub none-zero : (rules : List Rule) → none_holds rules → first_of rules ≡ 0
none-zero [] n = refl
none-zero (r ∷ rs) n = rw n.0 (none-zero rs n.1)

-- a condition on the record that was looked for, where there is one
abbrev pub of_held : (Record → Bool) → Option Record → Bool
of_held f None = false
of_held f (Some v) = f v

-- ---- the calls
-- "a record that isn't valid gets 9, and a valid one of degree 0 gets 14"
abbrev pub star_rules : Record → List Rule
star_rules r = not (valid_of r) ⇒ 9 ∷ eqb r.d 0 ⇒ 14 ∷ []

pub star-number : (r : Record) → (star_of r).number ≡ first_of (star_rules r)
unfolding star_of
star-number r = go (valid_of r) (eqb r.d 0)
  where
    go : (v z : Bool) → (cond v (cond z (refused 14) (given r)) (refused 9)).number ≡ first_of (not v ⇒ 9 ∷ z ⇒ 14 ∷ [])
    go true true = refl
    go true false = refl
    go false z = refl

-- "Base 1, 2, 8."
abbrev pub no_room : Laid → Bool
no_room (Room u) = false
no_room NoRoom = true

abbrev pub base_rules : List ℕ → List ℤ → List Rule
base_rules t cs = not (fits_length (length t)) ⇒ 1 ∷ unpaired cs ⇒ 2 ∷ ltb (bad_place cs) (centres_in cs) ⇒ 2 ∷ no_room (laid_of t cs) ⇒ 8 ∷ []

pub base-number : (t : List ℕ) (cs : List ℤ) → (base_of t cs).number ≡ first_of (base_rules t cs)
unfolding base_of
base-number t cs = go (fits_length (length t)) (unpaired cs) (ltb (bad_place cs) (centres_in cs)) (laid_of t cs)
  where
    go : (f o b : Bool) (l : Laid)
        → (cond f (cond o (laid.base_after 2 0 (cleared_of t)) (cond b (laid.base_after 2 (bad_place cs) (cleared_of t)) (from_laid t l)))
        (laid.base_after 1 0 t)).number
        ≡ first_of (not f ⇒ 1 ∷ o ⇒ 2 ∷ b ⇒ 2 ∷ no_room l ⇒ 8 ∷ [])
    go false o b l = refl
    go true true b l = refl
    go true false true l = refl
    go true false false (Room u) = refl
    go true false false NoRoom = refl

-- "Base gives the 0-based place, counted in centres, of the first bad centre .., else 0; an empty or odd list gives place 0"
pub base-place : (t : List ℕ) (cs : List ℤ)
    → (base_of t cs).place ≡ cond (fits_length (length t) && (not (unpaired cs) && ltb (bad_place cs) (centres_in cs))) (bad_place cs) 0
unfolding base_of
base-place t cs = go (fits_length (length t)) (unpaired cs) (ltb (bad_place cs) (centres_in cs)) (laid_of t cs)
  where
    go : (f o b : Bool) (l : Laid)
        → (cond f (cond o (laid.base_after 2 0 (cleared_of t)) (cond b (laid.base_after 2 (bad_place cs) (cleared_of t)) (from_laid t l)))
        (laid.base_after 1 0 t)).place
        ≡ cond (f && (not o && b)) (bad_place cs) 0
    go false o b l = refl
    go true true b l = refl
    go true false true l = refl
    go true false false (Room u) = refl
    go true false false NoRoom = refl

-- Document 02, ticket 7: "The order of checks for subdivision becomes 1, 3, 4, 5, 7, 8", of what is looked up at the normalised point
abbrev pub subdivide_rules : List ℕ → Option Record → List Rule
subdivide_rules t l =
    not (in_order_of t) ⇒ 1
    ∷ not (is_held l) ⇒ 3
    ∷ of_held (λ v. not (eqb v.d 6)) l ⇒ 4
    ∷ of_held (λ v. eqb v.n.0 12) l ⇒ 5
    ∷ of_held (torn t) l ⇒ 7
    ∷ ltb (free_slots t) 6 ⇒ 8
    ∷ []

pub subdivide-number : (t : List ℕ) (a b : ℤ) (m : ℕ) → (subdivide_of t a b m).number ≡ first_of (subdivide_rules t (look_up t (normal_of a b m)))
unfolding subdivide_of
subdivide-number t a b m = go (in_order_of t) refl (look_up t (normal_of a b m))
  where
    at : (v : Record) (six last t7 few : Bool)
        → (cond six
        (cond last (divided.mesh_after 5 t)
        (cond t7 (divided.mesh_after 7 t)
        (cond few (divided.mesh_after 8 t) (divided.mesh_after 0 (subdivided t v)))))
        (divided.mesh_after 4 t)).number
        ≡ first_of (not six ⇒ 4 ∷ last ⇒ 5 ∷ t7 ⇒ 7 ∷ few ⇒ 8 ∷ [])
    at v false last t7 few = refl
    at v true true t7 few = refl
    at v true false true few = refl
    at v true false false true = refl
    at v true false false false = refl

    go : (o : Bool) → in_order_of t ≡ o → (l : Option Record) → (cond o (subdivide_looked t l) (divided.mesh_after 1 t)).number ≡ first_of (subdivide_rules t l)
    go false h l = rw h refl
    go true h None = rw h refl
    go true h (Some v) = rw h (at v (eqb v.d 6) (eqb v.n.0 12) (torn t v) (ltb (free_slots t) 6))

-- "Queries 1, 3, 14, 7."
abbrev pub query_rules : List ℕ → Option Record → (Record → Bool) → List Rule
query_rules t l torn = not (in_order_of t) ⇒ 1 ∷ not (is_held l) ⇒ 3 ∷ of_held (λ v. eqb v.d 0) l ⇒ 14 ∷ of_held torn l ⇒ 7 ∷ []

query-number : (t : List ℕ) (l : Option Record) (whole : Record → Bool) (answer : Record → Answer) → ((v : Record) → (answer v).number ≡ 0)
    → (cond (in_order_of t) (query_looked (λ v. cond (whole v) (answer v) (refused 7)) l) (refused 1)).number ≡ first_of (query_rules t l (λ v. not (whole v)))
query-number t l whole answer zero = go (in_order_of t) l
  where
    at : (v : Record) (z w : Bool) → (cond z (refused 14) (cond w (answer v) (refused 7))).number ≡ first_of (z ⇒ 14 ∷ not w ⇒ 7 ∷ [])
    at v true w = refl
    at v false true = zero v
    at v false false = refl

    go : (o : Bool) (l : Option Record) → (cond o (query_looked (λ v. cond (whole v) (answer v) (refused 7)) l) (refused 1)).number
        ≡ first_of (not o ⇒ 1 ∷ not (is_held l) ⇒ 3 ∷ of_held (λ v. eqb v.d 0) l ⇒ 14 ∷ of_held (λ v. not (whole v)) l ⇒ 7 ∷ [])
    go false l = refl
    go true None = refl
    go true (Some v) = at v (eqb v.d 0) (whole v)

-- "Torn, neighbours: an adjacent is absent."
pub neighbours-number : (t : List ℕ) (a b : ℤ) (m : ℕ)
    → (neighbours_of t a b m).number ≡ first_of (query_rules t (look_up t (normal_of a b m)) (λ v. not (adjacents_there t v)))
unfolding neighbours_of
neighbours-number t a b m = query-number t (look_up t (normal_of a b m)) (adjacents_there t) given (λ v. refl)

-- "Torn, faces: that, or a corner with no opposite in the table."
pub faces-number : (t : List ℕ) (a b : ℤ) (m : ℕ)
    → (faces_of t a b m).number ≡ first_of (query_rules t (look_up t (normal_of a b m)) (λ v. not (adjacents_there t v && corners_there t v)))
unfolding faces_of
faces-number t a b m = query-number t (look_up t (normal_of a b m)) (λ v. adjacents_there t v && corners_there t v) (faces_given t) (λ v. refl)

-- "Writers 1, 13."
abbrev pub write_rules : List ℕ → List ℕ → List ℕ → List Rule
write_rules file t out = not (in_order_of t) ⇒ 1 ∷ ltb (length out) (length file) ⇒ 13 ∷ []

pub write-number : (file t out : List ℕ) → (write_of file t out).number ≡ first_of (write_rules file t out)
unfolding write_of put_of
write-number file t out = go (in_order_of t) (ltb (length out) (length file))
  where
    go : (o s : Bool)
        → (cond o (cond s (written.output_after 13 0 out) (written.output_after 0 (length file) (file ++ drop (length file) out)))
        (written.output_after 1 0 out)).number
        ≡ first_of (not o ⇒ 1 ∷ s ⇒ 13 ∷ [])
    go false s = refl
    go true true = refl
    go true false = refl
