-- Lines written from the last back, while the keys of those still to come stand sorted at the output's beginning.
-- `Left` k keys are left, the lines of the others stand from `at` on: `left-start`, `Last`, `left-last` the last of those left, `left-room`, `left_step`,
-- `left_end`.
-- Assumes nothing.
use Rattle.std.specs.Prelude.{◌≡◌, refl, ℕ, zero, suc, ◌+◌, ◌*◌, ◌≤◌, take, get_or}
use Rattle.std.proofs.Math.Path.{sym, ap}
use Rattle.std.proofs.Common.{◌∙◌, subst, arith, length-append, take_at}
use mathlib.Core.List.Memᴰ
use mathlib.Core.List.{List, [], ◌∷◌, ◌++◌, map, map-append, append_assoc, append-nil, Memᴰ}
use Rattle.std.proofs.Math.ListN.{length, drop}
use Rattle.std.proofs.lemmas.List.{length-map, get_or_at}
use Rattle.std.proofs.Math.Seq.{length-sets}
use Rattle.laws.specs.Stores.{Wrote, drop-stored}
use Rattle.sorting.specs.Sorting.{key_width, key_in, keys_in}
use Rattle.sorting.specs.Keys.{key-before}
use Rattle.sorting.specs.KeyLaws.{firsts-length, firsts_same}
use Rattle.findings.specs.Findings.{stands_text, texts}
use Rattle.findings.specs.EntryLaws.{InList}
use Rattle.findings.specs.KeepLaws.{texts-one}
use Rattle.findings.specs.Ranks.{key_of}
use Rattle.findings.specs.Laying.{Ready}
use Rattle.findings.specs.LayLaws.{keys-one, texts-least}
use Rattle.findings.specs.declared.line.Finding.{Finding}

-- a list that has an element has a last one
last_of : {A : Type 0} (xs : List A) (n : ℕ) → length xs ≡ n + 1 → (ys : List A) × (y : A) × (xs ≡ ys ++ y ∷ [])
last_of [] n e = absurd (omega arith)
last_of (x ∷ []) n e = ([], x, refl)
last_of (x ∷ z ∷ xs) zero e = absurd (omega arith)
last_of (x ∷ z ∷ xs) (suc n) e =
    let (ys, y, q) = last_of (z ∷ xs) n (omega arith) in
    (x ∷ ys, y, ap (λ (l : List _). x ∷ l) q)

-- two lists that are one but for their last elements
one-front : (xs ys : List ℕ) (x y n : ℕ) → length xs ≡ n → length ys ≡ n → xs ++ x ∷ [] ≡ ys ++ y ∷ [] → xs ≡ ys
one-front xs ys x y n a b e = sym (take_at xs (x ∷ []) n a) ∙ ap (take n) e ∙ take_at ys (y ∷ []) n b

one_last : (xs ys : List ℕ) (x y n : ℕ) → length xs ≡ n → length ys ≡ n → xs ++ x ∷ [] ≡ ys ++ y ∷ [] → x ≡ y
one_last xs ys x y n a b e = sym (get_or_at xs x [] 0 n a) ∙ ap (λ (l : List ℕ). get_or l n 0) e ∙ get_or_at ys y [] 0 n b

-- the findings fs stand in their order: the first k have their keys left, the lines of the others stand at `at`, and the bytes `rest` past them
pub record Left (l : List ℕ) (fs : List Finding) (rest o : List ℕ) (k at : ℕ) : Type 0 where
  pub front : List Finding
  pub back : List Finding
  pub all : front ++ back ≡ fs
  pub keys : keys_in o k ≡ map (key_of l) front
  pub place : at ≡ length (texts (stands_text l) front)
  pub done : drop at o ≡ texts (stands_text l) back ++ rest
  pub room : at ≤ length o

pub left-start : (l : List ℕ) (fs : List Finding) (o : List ℕ) (k total : ℕ) → Ready l fs o k total → Left l fs (drop total o) o k total
unfolding texts
left-start l fs o k total r =
    record { front = fs; back = []; all = append-nil fs; keys = r.keys; place = r.long; done = refl; room = r.room }

module _ (l : List ℕ) (fs : List Finding) (good : (f : Finding) → Memᴰ f fs → InList l f) (rest o : List ℕ) where
  -- the keys left end before the lines
  pub left-room : (k at : ℕ) → Left l fs rest o k at → key_width * k ≤ at
  left-room k at w =
      let a = texts-least l w.front in
      let b : k ≡ length w.front = sym (firsts-length (key_in o) k) ∙ ap length w.keys ∙ length-map w.front (key_of l) in
      omega (arith, w.place)

  -- the last of those left: its key is key k, and its line ends at `at`
  pub record Last (k at : ℕ) : Type 0 where
    pub first : List Finding
    pub last : Finding
    pub back : List Finding
    pub all : first ++ last ∷ back ≡ fs
    pub in_list : InList l last
    pub key : key_in o k ≡ key_of l last
    pub keys : keys_in o k ≡ map (key_of l) first
    pub place : at ≡ length (texts (stands_text l) first) + length (stands_text l last)
    pub done : drop at o ≡ texts (stands_text l) back ++ rest
    pub room : at ≤ length o

  pub left-last : (k at : ℕ) → Left l fs rest o (k + 1) at → Last k at
  left-last k at w = go (last_of w.front k count)
    where
      count : length w.front ≡ k + 1
      count = sym (length-map w.front (key_of l)) ∙ ap length (sym w.keys) ∙ firsts-length (key_in o) (k + 1)

      go : (xs : List Finding) × (f : Finding) × (w.front ≡ xs ++ f ∷ []) → Last k at
      go (xs, f, e) =
          let n : length (map (key_of l) xs) ≡ k = omega (arith, length-map xs (key_of l), count, ap length e, length-append xs (f ∷ [])) in
          let m = firsts-length (key_in o) k in
          let q : keys_in o k ++ key_in o k ∷ [] ≡ map (key_of l) xs ++ key_of l f ∷ [] =
          sym (keys-one o k) ∙ w.keys ∙ ap (map (key_of l)) e ∙ map-append (key_of l) xs (f ∷ []) in
          let a : xs ++ f ∷ w.back ≡ fs = sym (append_assoc xs (f ∷ []) w.back) ∙ ap (λ (x : List Finding). x ++ w.back) (sym e) ∙ w.all in
          record {
            first = xs;
            last = f;
            back = w.back;
            all = a;
            in_list = good f (subst (Memᴰ f) a (Memᴰ.append_right xs (Memᴰ.head refl)));
            key = one_last (keys_in o k) (map (key_of l) xs) (key_in o k) (key_of l f) k m n q;
            keys = one-front (keys_in o k) (map (key_of l) xs) (key_in o k) (key_of l f) k m n q;
            place =
                w.place ∙ ap (λ (x : List Finding). length (texts (stands_text l) x)) e ∙ ap length (texts-one (stands_text l) xs f)
                ∙ length-append (texts (stands_text l) xs) (stands_text l f);
            done = w.done;
            room = w.room;
          }

module _ (l : List ℕ) (fs : List Finding) (good : (f : Finding) → Memᴰ f fs → InList l f) (rest o : List ℕ) (k at : ℕ)
    (w : Last l fs good rest o k at) where
  pub left_step : (o' : List ℕ) (at' : ℕ) → Wrote o at' (stands_text l w.last) o' at → Left l fs rest o' k at'
  unfolding texts
  left_step o' at' u =
      let f = w.last in
      let xs = stands_text l f in
      let p = w.place in
      let r = w.room in
      let c : length w.first ≡ k = sym (length-map w.first (key_of l)) ∙ ap length (sym w.keys) ∙ firsts-length (key_in o) k in
      let least = texts-least l w.first in
      let e : at ≡ at' + length xs = u.past in
      record {
        front = w.first;
        back = f ∷ w.back;
        all = w.all;
        keys =
            firsts_same (key_in o') (key_in o) k (λ i h. ap (λ (x : List ℕ). key_in x i) u.bytes ∙ key-before xs o at' i (omega arith))
            ∙ w.keys;
        place = omega arith;
        done =
            ap (drop at') u.bytes ∙ drop-stored o at' xs (omega arith) ∙ ap (λ (n : ℕ). xs ++ drop n o) (sym e)
            ∙ ap (λ (x : List ℕ). xs ++ x) w.done ∙ sym (append_assoc xs (texts (stands_text l) w.back) rest);
        room = let z : length o' ≡ length o = ap length u.bytes ∙ length-sets o at' xs in omega arith;
      }

pub left_end : (l : List ℕ) (fs : List Finding) (rest o : List ℕ) (at : ℕ) → Left l fs rest o 0 at → o ≡ texts (stands_text l) fs ++ rest
unfolding texts
left_end l fs rest o at w = go w.front w.all w.place count
  where
    count : length w.front ≡ 0
    count = sym (length-map w.front (key_of l)) ∙ ap length (sym w.keys) ∙ firsts-length (key_in o) 0

    go : (xs : List Finding) → xs ++ w.back ≡ fs → at ≡ length (texts (stands_text l) xs) → length xs ≡ 0 → o ≡ texts (stands_text l) fs ++ rest
    go [] e p n = ap (λ (i : ℕ). drop i o) (sym p) ∙ w.done ∙ ap (λ (x : List Finding). texts (stands_text l) x ++ rest) e
    go (x ∷ xs) e p n = absurd (omega arith)
