-- Lines written from the last back, while the keys of those still to come stand sorted at the beginning of the bytes: over any line `g v` of a key v.
-- `texts-append`, `texts-map`, `texts-sort` lines one after the other, as long in any order · `texts-least`, `texts-most` each at least,
-- or at most, w bytes · `firsts-start`, `firsts_more`, `firsts-fewer` the lines of the first keys · `Left` k keys are left,
-- the lines of the others stand from `at` on: `left-start`, `left-top`, `left-place`, `left-room`, `left_step`, `left_end`.
-- Assumes nothing.
use Rattle.std.specs.Prelude.{◌≡◌, Bool, cond, take, drop}
use Rattle.std.proofs.Math.Path.{refl, sym, ap}
use Rattle.std.proofs.Common.{◌∙◌, mul-le-mul_right, drop-cons, take-suc, length-take-le}
use Rattle.std.proofs.Math.Bool.{true, false}
use mathlib.Core.List.{List, [], ◌∷◌, ◌++◌, map, append_assoc, append-nil, Memᴰ}
use Prim.Native.Nat.{ℕ, zero, suc, ◌+◌, ◌*◌, ◌≤◌, ◌<◌}
use native.Mathlib.Omega.{arith}
use Rattle.std.proofs.Math.Decide.{dec_lt}
use Rattle.std.proofs.Math.ListN.{length, length-append}
use Rattle.std.proofs.Math.Seq.{drop-length, take-length, length-sets}
use Rattle.laws.specs.Stores.{Wrote, drop-stored}
use Rattle.sorting.specs.Sorting.{insert_by, sort_by, key_in, firsts}
use Rattle.sorting.specs.Tally.{nth}
use Rattle.sorting.specs.Keys.{key-before}
use Rattle.viewer_lines.specs.ViewerLines.{texts}

module _ {A : Type 0} (g : A → List ℕ) where
  pub texts-append : (xs ys : List A) → texts g (xs ++ ys) ≡ texts g xs ++ texts g ys
  unfolding texts
  texts-append [] ys = refl
  texts-append (x ∷ xs) ys = ap (λ (l : List ℕ). g x ++ l) (texts-append xs ys) ∙ sym (append_assoc (g x) (texts g xs) (texts g ys))

  pub texts-none : texts g [] ≡ []
  unfolding texts
  texts-none = refl

  pub texts-one : (x : A) → texts g (x ∷ []) ≡ g x
  unfolding texts
  texts-one x = append-nil (g x)

  pub texts-cons : (x : A) (xs : List A) → texts g (x ∷ xs) ≡ g x ++ texts g xs
  unfolding texts
  texts-cons x xs = refl

  pub texts-long : (xs ys : List A) → length (texts g (xs ++ ys)) ≡ length (texts g xs) + length (texts g ys)
  texts-long xs ys = ap length (texts-append xs ys) ∙ length-append (texts g xs) (texts g ys)

  -- as long in any order
  insert-long : (lt : A → A → Bool) (x : A) (ys : List A) → length (texts g (insert_by lt x ys)) ≡ length (g x) + length (texts g ys)
  unfolding texts insert_by
  insert-long lt x [] = length-append (g x) []
  insert-long lt x (y ∷ ys) = go (lt x y) (insert-long lt x ys)
    where
      go : (b : Bool) → length (texts g (insert_by lt x ys)) ≡ length (g x) + length (texts g ys)
          → length (texts g (cond b (x ∷ y ∷ ys) (y ∷ insert_by lt x ys))) ≡ length (g x) + length (g y ++ texts g ys)
      go true e = length-append (g x) (g y ++ texts g ys)
      go false e =
          let a = length-append (g y) (texts g (insert_by lt x ys)) in
          let b = length-append (g y) (texts g ys) in
          omega arith

  pub texts-sort : (lt : A → A → Bool) (xs : List A) → length (texts g (sort_by lt xs)) ≡ length (texts g xs)
  unfolding texts sort_by
  texts-sort lt [] = refl
  texts-sort lt (x ∷ xs) =
      let a = insert-long lt x (sort_by lt xs) in
      let b = texts-sort lt xs in
      let c = length-append (g x) (texts g xs) in
      omega arith

  -- each at least w bytes
  pub texts-least : (w : ℕ) (xs : List A) → ((x : A) → w ≤ length (g x)) → w * length xs ≤ length (texts g xs)
  unfolding texts
  texts-least w [] h = omega arith
  texts-least w (x ∷ xs) h =
      let a = texts-least w xs h in
      let b = h x in
      let c = length-append (g x) (texts g xs) in
      omega arith

  -- each at most w bytes
  pub texts-most : (w : ℕ) (xs : List A) → ((x : A) → Memᴰ x xs → length (g x) ≤ w) → length (texts g xs) ≤ w * length xs
  unfolding texts
  texts-most w [] h = omega arith
  texts-most w (x ∷ xs) h =
      let a = texts-most w xs (λ y m. h y (Memᴰ.tail m)) in
      let b = h x (Memᴰ.head refl) in
      let c = length-append (g x) (texts g xs) in
      omega arith

-- the lines of the first keys
module _ (g : ℕ → List ℕ) (f : ℕ → ℕ) where
  pub firsts-start : 0 ≡ length (texts g (firsts f 0))
  unfolding texts firsts
  firsts-start = refl

  pub firsts_more : (i : ℕ) → length (texts g (firsts f (i + 1))) ≡ length (texts g (firsts f i)) + length (g (f i))
  unfolding firsts
  firsts_more i =
      let z : i + 1 ≡ suc i = omega arith in
      ap (λ (n : ℕ). length (texts g (firsts f n))) z ∙ texts-long g (firsts f i) (f i ∷ [])
      ∙ ap (λ (l : List ℕ). length (texts g (firsts f i)) + length l) (texts-one g (f i))

  pub firsts-fewer : (i k : ℕ) → i ≤ k → length (texts g (firsts f i)) ≤ length (texts g (firsts f k))
  firsts-fewer i zero h = let e : i ≡ 0 = omega arith in omega (arith, ap (λ (n : ℕ). length (texts g (firsts f n))) e)
  firsts-fewer i (suc k) h = go (dec_lt k i) (λ l. firsts-fewer i k l)
    where
      go : Dec (k < i) → (i ≤ k → length (texts g (firsts f i)) ≤ length (texts g (firsts f k)))
          → length (texts g (firsts f i)) ≤ length (texts g (firsts f (suc k)))
      go (yes l) ih = let e : i ≡ suc k = omega arith in omega (arith, ap (λ (n : ℕ). length (texts g (firsts f n))) e)
      go (no l) ih =
          let a = ih (omega arith) in
          let b = firsts_more k in
          let z : k + 1 ≡ suc k = omega arith in
          omega (arith, a, b, ap (λ (n : ℕ). length (texts g (firsts f n))) z)

pub texts-map : {A B : Type 0} (g : B → List ℕ) (f : A → B) (xs : List A) → texts g (map f xs) ≡ texts (λ x. g (f x)) xs
unfolding texts
texts-map g f [] = refl
texts-map g f (x ∷ xs) = ap (λ (l : List ℕ). g (f x) ++ l) (texts-map g f xs)

-- ---- lines on their way

module _ (g : ℕ → List ℕ) (from : ℕ) where
  -- of the keys K the first k are left; the lines of the others stand at `at`, and the bytes `rest` past them; all lines begin at `from`
  pub record Left (K rest o : List ℕ) (k at : ℕ) : Type 0 where
    pub count : k ≤ length K
    pub place : at ≡ from + length (texts g (take k K))
    pub done : drop at o ≡ texts g (drop k K) ++ rest
    pub room : at ≤ length o
    pub keys : (i : ℕ) → i < k → key_in o i ≡ nth K i

  pub left-start : (K o : List ℕ) (k end : ℕ) → k ≡ length K → end ≡ from + length (texts g K) → end ≤ length o → ((i : ℕ) → i < k → key_in o i ≡ nth K i)
      → Left K (drop end o) o k end
  left-start K o k end e p r keys =
      let a : take k K ≡ K = ap (λ (n : ℕ). take n K) e ∙ take-length K in
      let b : drop k K ≡ [] = ap (λ (n : ℕ). drop n K) e ∙ drop-length K in
      record {
        count = omega arith;
        place = p ∙ ap (λ (l : List ℕ). from + length (texts g l)) (sym a);
        done = ap (λ (l : List ℕ). l ++ drop end o) (sym (ap (texts g) b ∙ texts-none g));
        room = r;
        keys = keys;
      }

  -- the keys left end before the lines
  pub left-room : (w : ℕ) → ((v : ℕ) → w ≤ length (g v)) → (K rest o : List ℕ) (k at : ℕ) → Left K rest o k at → from + w * k ≤ at
  left-room w h K rest o k at l =
      let a = texts-least g w (take k K) h in
      let b = ap (λ (n : ℕ). w * n) (length-take-le k K l.count) in
      omega (arith, l.place)

  module _ (w : ℕ) (wide : (v : ℕ) → w ≤ length (g v)) (eight : 8 ≤ w) (K rest o : List ℕ) (k at : ℕ) (l : Left K rest o (k + 1) at) where
    -- the next key is the last of those left
    pub left-top : key_in o k ≡ nth K k
    left-top = l.keys k (omega arith)

    abbrev top : List ℕ
    top = g (nth K k)

    split : texts g (take (k + 1) K) ≡ texts g (take k K) ++ top
    split =
        let e : k + 1 ≡ suc k = omega arith in
        ap (λ (n : ℕ). texts g (take n K)) e ∙ ap (texts g) (take-suc K k 0 (omega (arith, l.count)))
        ∙ texts-append g (take k K) (nth K k ∷ []) ∙ ap (λ (x : List ℕ). texts g (take k K) ++ x) (texts-one g (nth K k))

    -- its line ends at `at`
    pub left-place : at ≡ from + length (texts g (take k K)) + length top
    left-place = omega (arith, l.place, ap length split, length-append (texts g (take k K)) top)

    behind : texts g (drop k K) ≡ top ++ texts g (drop (k + 1) K)
    behind =
        let e : suc k ≡ k + 1 = omega arith in
        ap (texts g) (drop-cons K k 0 (omega (arith, l.count))) ∙ texts-cons g (nth K k) (drop (suc k) K)
        ∙ ap (λ (n : ℕ). top ++ texts g (drop n K)) e

    keys-end : w * k ≤ length (texts g (take k K))
    keys-end =
        let a = texts-least g w (take k K) wide in
        let b = ap (λ (n : ℕ). w * n) (length-take-le k K (omega (arith, l.count))) in
        omega arith

    eight-more : 8 * k ≤ w * k
    eight-more = mul-le-mul_right k eight

    pub left_step : (o' : List ℕ) (at' past : ℕ) → at ≡ at' + length top → Wrote o at' top o' past → Left K rest o' k at'
    left_step o' at' past e w =
        let c = l.count in
        let s = left-place in
        let f = keys-end in
        let n = eight-more in
        let room = l.room in
        record {
          count = omega arith;
          place = omega arith;
          done =
              ap (drop at') w.bytes ∙ drop-stored o at' top (omega arith)
              ∙ ap (λ (n : ℕ). top ++ drop n o) (sym e) ∙ ap (λ (x : List ℕ). top ++ x) l.done
              ∙ sym (append_assoc top (texts g (drop (k + 1) K)) rest) ∙ ap (λ (x : List ℕ). x ++ rest) (sym behind);
          room = let x : length o' ≡ length o = ap length w.bytes ∙ length-sets o at' top in omega arith;
          keys = λ i h. ap (λ (x : List ℕ). key_in x i) w.bytes ∙ key-before top o at' i (omega arith) ∙ l.keys i (omega arith);
        }

  pub left_end : (K rest o : List ℕ) (at : ℕ) → Left K rest o 0 at → drop from o ≡ texts g K ++ rest
  left_end K rest o at l =
      let z : at ≡ from = l.place ∙ (let a = ap length (texts-none g) in omega arith) in
      ap (λ (n : ℕ). drop n o) (sym z) ∙ l.done
