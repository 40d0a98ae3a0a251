-- Keys stored one after the other from key s on: `Stored` the keys before them and the bytes past them stay, `stored-none`, `stored_one`, `stored-then`.
-- Assumes nothing.
use Rattle.std.specs.Prelude.{◌≡◌, refl, List, [], ◌∷◌, ◌++◌, ℕ, ◌+◌, ◌*◌, ◌-◌, ◌≤◌, ◌<◌, length, drop}
use Rattle.std.proofs.Common.{sym, ap, ◌∙◌, arith, length-append, get_or-append-add}
use Rattle.std.proofs.Math.Decide.{dec_lt}
use Rattle.std.proofs.Math.ListN.{get_or-append}
use Rattle.sorting.specs.Sorting.{key_width, key_in}
use Rattle.sorting.specs.Tally.{nth}
use Rattle.sorting.specs.Keys.{Put}

pub record Stored (o : List ℕ) (s : ℕ) (ks o' : List ℕ) : Type 0 where
  pub keys : (j : ℕ) → j < length ks → key_in o' (s + j) ≡ nth ks j
  pub before : (j : ℕ) → j < s → key_in o' j ≡ key_in o j
  pub long : length o' ≡ length o
  pub past : (n : ℕ) → key_width * (s + length ks) ≤ n → drop n o' ≡ drop n o

pub stored-none : (o : List ℕ) (s : ℕ) → Stored o s [] o
stored-none o s = record { keys = λ j l. absurd (omega arith); before = λ j l. refl; long = refl; past = λ n h. refl }

pub stored_one : (o : List ℕ) (s v : ℕ) (o' : List ℕ) → Put o s v o' → Stored o s (v ∷ []) o'
stored_one o s v o' p = record {
  keys = λ j l. let z : j ≡ 0 = omega arith in let e : s + j ≡ s = omega arith in ap (key_in o') e ∙ p.here ∙ ap (nth (v ∷ [])) (sym z);
  before = λ j l. p.others j (λ e. omega arith);
  long = p.long;
  past = λ n h. p.past n (omega arith);
}

pub stored-then : (o o₁ o₂ : List ℕ) (s : ℕ) (ks ls : List ℕ) → Stored o s ks o₁ → Stored o₁ (s + length ks) ls o₂ → Stored o s (ks ++ ls) o₂
stored-then o o₁ o₂ s ks ls a b = record {
  keys = λ j l. go j (omega (arith, length-append ks ls)) (dec_lt j (length ks));
  before = λ j l. b.before j (omega arith) ∙ a.before j l;
  long = b.long ∙ a.long;
  past = λ n h. b.past n (omega (arith, length-append ks ls)) ∙ a.past n (omega (arith, length-append ks ls));
}
  where
    go : (j : ℕ) → j < length ks + length ls → Dec (j < length ks) → key_in o₂ (s + j) ≡ nth (ks ++ ls) j
    go j h (yes l) = b.before (s + j) (omega arith) ∙ a.keys j l ∙ sym (get_or-append ks ls 0 j l)
    go j h (no l) =
        let m : j ≡ length ks + (j - length ks) = omega arith in
        let e : s + j ≡ s + length ks + (j - length ks) = omega arith in
        ap (key_in o₂) e ∙ b.keys (j - length ks) (omega arith) ∙ sym (get_or-append-add ks ls (j - length ks) 0) ∙ ap (nth (ks ++ ls)) (sym m)
