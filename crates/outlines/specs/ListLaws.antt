-- A pass's list, as the code makes it: slot by slot the keys of the vertices that are listed, then sorted.
-- `star-located`, `own-located` points that are near enough · `wanted-six`, `wanted-level`, `wanted-on` by cases · `point_key` a vertex's key, `wanted_at` what
-- is listed of a slot, `wanted-all` all slots are the list's records · `filled_next` one slot more · `ListedIn`, `listed_in` the keys sorted are the list's ·
-- `listed-stands`, `stands-listed`, `list-rises` which records the list has, and in which order.
-- Assumes nothing.
use Rattle.std.specs.Prelude.{◌≡◌, Bool, true, false, cond, ◌&&◌, not, List, [], ◌∷◌, ◌++◌, map, ℕ, zero, suc, ◌+◌, ◌*◌, ◌≤◌, ◌<◌, ltb, length, Option, Some, None}
use Rattle.std.proofs.Math.Path.{refl, sym}
use Rattle.std.proofs.Common.{◌∙◌, ap, subst, arith, length-append, ext_get_or}
use Rattle.std.proofs.lemmas.List.{map-append, length-map}
use mathlib.Core.List as L
use borrow.Author.Tests.{eq-eqb, ne_eqb, lt-ltb, le-ltb, not-false}
use Rattle.laws.specs.Choices.{of-true}
use Rattle.laws.specs.Rules.{among}
use Rattle.lattice.specs.Records.{valid_of}
use Rattle.lattice.specs.RecordLaws.{Inner, inner}
use Rattle.lattice.specs.Stars.{adjacent_at}
use Rattle.lattice.specs.declared.records.Record.{Record}
use Rattle.table.specs.Slots.{slots_of, slot_at}
use Rattle.table.specs.Order.{InOrder}
use Rattle.table.specs.Entries.{look_up, listed, records_below, records_of}
use Rattle.table.specs.MapLaws.{records-looked, looked-records, lookup-valid}
use Rattle.across.specs.OppositeLaws.{adjacent-bound, wide-bound, high-bound}
use Rattle.text.specs.LineOrder.{order_of, Close, close, order-earlier, order-back, point_of}
use Rattle.sorting.specs.Sorting.{key_width, sort_by, key_in, keys_in, Sorts}
use Rattle.sorting.specs.SortLaws.{sort-map, sort-mem, Rising}
use Rattle.sorting.specs.Tally.{nth}
use Rattle.sorting.specs.KeyLaws.{firsts-length, firsts_at}
use Rattle.writers.specs.Files.{before, leave_out}
use Rattle.writers.specs.FileLaws.{Before, left-rises, left-holds, holds-left}
use Rattle.writers.specs.Kept.{standing, Added}
use Rattle.writers.specs.KeptLaws.{standing-more, Filled, filled-same, filled_put}
use Rattle.outlines.specs.declared.values.Outline.{Outline}
use Rattle.outlines.specs.Outlines.{unlike, below_at, crosses_at, wanted, unwanted, list_of}
use Rattle.outlines.specs.PlaceLaws.{Located}
use mathlib.Core.List.Memᴰ
use Rattle.outlines.specs.PassLaws.{Points}

-- ---- points that are near enough
pub star-located : (v : Record) → Inner v → (j : ℕ) → j < v.d → Located (adjacent_at v j)
star-located v i j h =
    let b = adjacent-bound v i j h in
    record { wide = omega (arith, wide-bound (adjacent_at v j) b); high = omega (arith, high-bound (adjacent_at v j) b); depth = b.depth }

pub own-located : (v : Record) → valid_of v ≡ true → Located v.at
own-located v h = let c = close v h in record { wide = omega (arith, c.a); high = omega (arith, c.b); depth = omega (arith, c.m) }

pub six-inner : (v : Record) → valid_of v ≡ true → v.d ≡ 6 → Inner v
six-inner v h s = inner v (of-true h) (omega arith)

pub crosses-is : (o : Outline) (v : Record) (j : ℕ) → unlike (below_at o v.at) (below_at o (adjacent_at v j)) ≡ crosses_at o v j
unfolding crosses_at
crosses-is o v j = refl

-- ---- whether a vertex is listed, test by test
module _ (o : Outline) (level : ℕ) (v : Record) where
  pub wanted-six : (v.d ≡ 6 → ⊥) → false ≡ wanted o level v
  unfolding wanted
  wanted-six h = sym (ap (λ (b : Bool). b && (ltb v.n.0 level && among 6 (crosses_at o v))) (ne_eqb v.d 6 h))

  pub wanted-level : v.d ≡ 6 → level ≤ v.n.0 → false ≡ wanted o level v
  unfolding wanted
  wanted-level s h = sym (λ i. eq-eqb v.d 6 s i && (le-ltb v.n.0 level h i && among 6 (crosses_at o v)))

  pub wanted-on : v.d ≡ 6 → v.n.0 < level → among 6 (crosses_at o v) ≡ wanted o level v
  unfolding wanted
  wanted-on s h = sym (λ i. eq-eqb v.d 6 s i && (lt-ltb v.n.0 level h i && among 6 (crosses_at o v)))

-- ---- slot by slot
-- "in full-file order": by the order of its line
abbrev pub point_key : Record → ℕ
point_key r = order_of r.at

abbrev pub wanted_in : Outline → ℕ → Option Record → Option Record
wanted_in o level None = None
wanted_in o level (Some r) = cond (wanted o level r) (Some r) None

abbrev pub wanted_at : Outline → ℕ → List ℕ → ℕ → Option Record
wanted_at o level t i = wanted_in o level (slot_at t i)

leave-append : (f : Record → Bool) (xs ys : List Record) → leave_out f (xs ++ ys) ≡ leave_out f xs ++ leave_out f ys
unfolding leave_out
leave-append f [] ys = refl
leave-append f (x ∷ xs) ys = go (f x) (leave-append f xs ys)
  where
    go : (b : Bool) → leave_out f (xs ++ ys) ≡ leave_out f xs ++ leave_out f ys
        → cond b (leave_out f (xs ++ ys)) (x ∷ leave_out f (xs ++ ys)) ≡ cond b (leave_out f xs) (x ∷ leave_out f xs) ++ leave_out f ys
    go false e = ap (λ (l : List Record). x ∷ l) e
    go true e = e

listed-wanted : (o : Outline) (level : ℕ) (s : Option Record) → listed (wanted_in o level s) ≡ leave_out (unwanted o level) (listed s)
unfolding leave_out
listed-wanted o level None = refl
listed-wanted o level (Some r) = go (wanted o level r)
  where
    go : (b : Bool) → listed (cond b (Some r) None) ≡ cond (not b) [] (r ∷ [])
    go true = refl
    go false = refl

pub wanted-all : (o : Outline) (level : ℕ) (t : List ℕ) (n : ℕ) → standing (wanted_at o level t) n ≡ leave_out (unwanted o level) (records_below t n)
unfolding standing records_below
wanted-all o level t zero = unfold leave_out in refl
wanted-all o level t (suc n) =
    (λ i. wanted-all o level t n i ++ listed-wanted o level (slot_at t n) i) ∙ sym (leave-append (unwanted o level) (records_below t n) (listed (slot_at t n)))

-- a slot's key stored, or not
pub added_none : (o : Outline) (level : ℕ) (t : List ℕ) (i : ℕ) (s : List ℕ) (k : ℕ) → wanted_at o level t i ≡ None
    → Added s k (map point_key (listed (wanted_at o level t i))) s k
added_none o level t i s k e = subst (λ (x : Option Record). Added s k (map point_key (listed x)) s k) (sym e) (refl, refl)

pub in_held : (o : Outline) (level : ℕ) (t : List ℕ) (i : ℕ) (r : Record) → slot_at t i ≡ Some r → (b : Bool) → wanted o level r ≡ b
    → wanted_at o level t i ≡ cond b (Some r) None
in_held o level t i r e b h = ap (wanted_in o level) e ∙ ap (λ (x : Bool). cond x (Some r) None) h

-- one slot more, whatever its records' keys
pub filled_next : (g : Record → ℕ) (f : ℕ → Option Record) (i : ℕ) (o o₁ o₂ : List ℕ) (k k₂ : ℕ) → Filled o (map g (standing f i)) o₁ k
    → Added o₁ k (map g (listed (f i))) o₂ k₂ → Filled o (map g (standing f (i + 1))) o₂ k₂
filled_next g f i o o₁ o₂ k k₂ w a =
    subst (λ (ks : List ℕ). Filled o ks o₂ k₂) (sym (ap (map g) (standing-more f i) ∙ map-append g (standing f i) (listed (f i)))) (go (f i) a)
  where
    go : (s : Option Record) → Added o₁ k (map g (listed s)) o₂ k₂ → Filled o (map g (standing f i) ++ map g (listed s)) o₂ k₂
    go None b = filled-same o (map g (standing f i)) o₁ o₂ k k₂ w b
    go (Some r) b = subst (Filled o (map g (standing f i) ++ g r ∷ []) o₂) (sym b.1) (filled_put o (map g (standing f i)) o₁ o₂ k (g r) w b.0)

pub standing-nil : (g : Record → ℕ) (f : ℕ → Option Record) → map g (standing f 0) ≡ []
unfolding standing
standing-nil g f = refl

listed-most : (s : Option Record) → length (listed s) ≤ 1
listed-most None = omega arith
listed-most (Some r) = omega arith

-- there are no more keys than slots
pub standing-few : (f : ℕ → Option Record) (i : ℕ) → length (standing f i) ≤ i
unfolding standing
standing-few f zero = omega arith
standing-few f (suc i) = omega (arith, length-append (standing f i) (listed (f i)), standing-few f i, listed-most (f i))

-- ---- sorted
-- k keys in s' have the points of these records, in their order
pub record ListedIn (s : List ℕ) (vs : List Record) (s' : List ℕ) (k : ℕ) : Type 0 where
  pub count : k ≡ length vs
  pub points : Points s' 0 vs
  pub long : length s' ≡ length s
  pub few : key_width * k ≤ length s

points-of : (s : List ℕ) (i : ℕ) (vs : List Record) → ((j : ℕ) → j < length vs → key_in s (i + j) ≡ nth (map point_key vs) j)
    → ((r : Record) → L.Memᴰ r vs → Close r.at) → Points s i vs
points-of s i [] h c = tt
points-of s i (v ∷ vs) h c =
    let z : i ≡ i + 0 = omega arith in
    let first = ap (λ (x : ℕ). point_of (key_in s x)) z ∙ ap point_of (h 0 (omega arith)) ∙ order-back v.at (c v (Memᴰ.head refl)) in
    let later : (j : ℕ) → j < length vs → key_in s (i + 1 + j) ≡ nth (map point_key vs) j =
    λ j l. (let e : i + 1 + j ≡ i + suc j = omega arith in ap (key_in s) e ∙ h (suc j) (omega arith)) in
    (first, points-of s (i + 1) vs later (λ r m. c r (Memᴰ.tail m)))

module _ (o : Outline) (level : ℕ) (t : List ℕ) (i : InOrder t) where
  abbrev all : List Record
  all = leave_out (unwanted o level) (records_of t)

  -- "the degree 6 vertices below a given level with a crossing edge": those, and no others
  pub listed-stands : (r : Record) → L.Memᴰ r (list_of o level t) → (look_up t r.at ≡ Some r) × (wanted o level r ≡ true)
  listed-stands r m =
      let w = left-holds t i (unwanted o level) r m in
      (records-looked t i r w.0, not-false (wanted o level r) w.1)

  pub stands-listed : (r : Record) → look_up t r.at ≡ Some r → wanted o level r ≡ true → L.Memᴰ r (list_of o level t)
  stands-listed r h e = holds-left t i (unwanted o level) r (looked-records t i r.at r h) (ap not e)

  -- "in full-file order": each line stands before those after it
  pub list-rises : Rising Before (list_of o level t)
  list-rises = left-rises t i (unwanted o level)

  pub list_close : (r : Record) → L.Memᴰ r (list_of o level t) → Close r.at
  list_close r m = close r (lookup-valid t i r.at r (listed-stands r m).0)

  all-close : (r : Record) → L.Memᴰ r all → Close r.at
  all-close r m = list_close r (sort-mem before all r m)

  keys-sorted : sort_by ltb (map point_key all) ≡ map point_key (list_of o level t)
  keys-sorted = sym (sort-map before ltb point_key all (λ x y m n. order-earlier x.at y.at (all-close x m) (all-close y n)))

  pub listed_in : (s s₁ s₂ : List ℕ) (n k : ℕ) → n ≡ slots_of t → length s ≡ length t → Filled s (map point_key (standing (wanted_at o level t) n)) s₁ k
      → Sorts s₁ k s₂ → ListedIn s (list_of o level t) s₂ k
  listed_in s s₁ s₂ n k en len f w =
      let ks = map point_key (standing (wanted_at o level t) n) in
      let e : ks ≡ map point_key all = ap (map point_key) (ap (standing (wanted_at o level t)) en ∙ wanted-all o level t (slots_of t)) in
      let l₁ = firsts-length (key_in s₁) k in
      let found : keys_in s₁ k ≡ ks = ext_get_or 0 (keys_in s₁ k) ks (l₁ ∙ f.count)
      (λ j h. let b : j < k = omega arith in firsts_at (key_in s₁) k j b ∙ f.keys j (omega (arith, f.count))) in
      let all-keys : keys_in s₂ k ≡ map point_key (list_of o level t) = w.keys ∙ ap (sort_by ltb) (found ∙ e) ∙ keys-sorted in
      let count : k ≡ length (list_of o level t) =
      sym (firsts-length (key_in s₂) k) ∙ ap length all-keys ∙ length-map (list_of o level t) point_key in
      let most = standing-few (wanted_at o level t) n in
      let many = length-map (standing (wanted_at o level t) n) point_key in
      record {
        count = count;
        points = points-of s₂ 0 (list_of o level t)
            (λ j h.
            (let z : 0 + j ≡ j = omega arith in ap (key_in s₂) z) ∙ sym (firsts_at (key_in s₂) k j (omega (arith, count)))
            ∙ ap (λ (l : List ℕ). nth l j) all-keys)
            list_close;
        long = w.long ∙ f.long;
        few = omega (arith, f.count, most, many, len, i.fits.long, en);
      }
