-- A list put together line by line. `Puts` some bytes put at a position, within a room · `puts_none`, `puts_then` one after the other · `change-long`.
-- Assumes nothing.
use Rattle.std.specs.Prelude.{◌≡◌, refl, List, [], ◌∷◌, ◌++◌, ℕ, ◌+◌, ◌≤◌, ◌<◌, length, set}
use Rattle.std.proofs.Common.{sym, ap, ◌∙◌, subst, append_assoc, arith, length-append}
use Rattle.std.proofs.Math.Decide.{dec_lt}
use Rattle.std.proofs.lemmas.List.Edits.{sets}
use Rattle.std.proofs.Math.Seq.{length-sets}
use Rattle.laws.specs.Sets.{sets-append}
use Rattle.laws.specs.Stores.{Wrote}
use Rattle.text.specs.Decimal.{digits, ended, tab, feed}
use Rattle.text.specs.Back.{wrote-before}
use Rattle.salvage.specs.Salvage.{change}

-- where something ends, up to the room; past it, the room and one
pub record Capped (room x r : ℕ) : Type 0 where
  pub within : x ≤ room → r ≡ x
  pub beyond : room < x → r ≡ room + 1

-- xs were put into o at `at`, which left o': they are stored where they end within the room, and the room lies within o
pub record Puts (o : List ℕ) (at room : ℕ) (xs o' : List ℕ) (r : ℕ) : Type 0 where
  pub past : Capped room (at + length xs) r
  pub long : length o' ≡ length o
  pub bytes : at + length xs ≤ room → room ≤ length o → o' ≡ sets o at xs

pub puts-most : {o xs o' : List ℕ} {at room r : ℕ} → Puts o at room xs o' r → r ≤ room + 1
puts-most {o} {xs} {o'} {at} {room} {r} p = go (dec_lt room (at + length xs))
  where
    go : Dec (room < at + length xs) → r ≤ room + 1
    go (yes h) = omega (arith, p.past.beyond h)
    go (no h) = omega (arith, p.past.within (omega arith))

pub puts_none : (o : List ℕ) (at room : ℕ) → at ≤ room + 1 → Puts o at room [] o at
puts_none o at room h = record {
  past = record { within = λ k. omega arith; beyond = λ k. omega arith };
  long = refl;
  bytes = λ k m. refl;
}

pub puts_then : {o xs o₁ ys o₂ : List ℕ} {at room p q : ℕ} → Puts o at room xs o₁ p → Puts o₁ p room ys o₂ q → Puts o at room (xs ++ ys) o₂ q
puts_then {o} {xs} {o₁} {ys} {o₂} {at} {room} {p} {q} a b =
    let l = length-append xs ys in
    record {
      past = record { within = λ h. within h; beyond = λ h. beyond h (dec_lt room (at + length xs)) };
      long = b.long ∙ a.long;
      bytes = λ h m.
          (let e : p ≡ at + length xs = a.past.within (omega arith) in
          b.bytes (omega arith) (omega (arith, a.long))
          ∙ (λ i. sets (a.bytes (omega (arith, length-append xs ys)) m i) (e i) ys) ∙ sets-append xs ys o at);
    }
  where
    within : at + length (xs ++ ys) ≤ room → q ≡ at + length (xs ++ ys)
    within h =
        let l = length-append xs ys in
        let e : p ≡ at + length xs = a.past.within (omega arith) in
        let f = b.past.within (omega arith) in
        omega arith

    beyond : room < at + length (xs ++ ys) → Dec (room < at + length xs) → q ≡ room + 1
    beyond h (yes k) = let e = a.past.beyond k in b.past.beyond (omega arith)
    beyond h (no k) =
        let l = length-append xs ys in
        let e : p ≡ at + length xs = a.past.within (omega arith) in
        b.past.beyond (omega arith)

pub change-long : (line : ℕ) (word : List ℕ) → length (change line word) ≡ length (digits line) + length word + 2
unfolding change
change-long line word =
    omega (arith, length-append (ended (digits line) tab) (ended word feed), length-append (digits line) (tab ∷ []), length-append word (feed ∷ []))

-- ---- a change's line

module _ (o : List ℕ) (at room line : ℕ) (word : List ℕ) where
  pub note-over : room < at → at ≤ room + 1 → Puts o at room (change line word) o at
  note-over h k = record {
    past = record { within = λ m. absurd (omega arith); beyond = λ m. omega arith };
    long = refl;
    bytes = λ m n. absurd (omega arith);
  }

  pub note-past : room < at + length (change line word) → Puts o at room (change line word) o (room + 1)
  note-past h = record {
    past = record { within = λ m. absurd (omega arith); beyond = λ m. refl };
    long = refl;
    bytes = λ m n. absurd (omega arith);
  }

  pub note-measured : (r : ℕ) → r ≡ at + length (change line word) → r ≤ room → (room ≤ length o → ⊥) → Puts o at room (change line word) o r
  note-measured r e h k = record {
    past = record { within = λ m. e; beyond = λ m. absurd (omega arith) };
    long = refl;
    bytes = λ m n. absurd (k n);
  }

  pub note-written : (r : ℕ) → r ≡ at + length (change line word) → r ≤ room → (o' : List ℕ) (from : ℕ) → Wrote o from (change line word) o' r
      → Puts o at room (change line word) o' r
  note-written r e h o' from w =
      let f : from ≡ at = omega (arith, w.past) in
      record {
        past = record { within = λ m. e; beyond = λ m. absurd (omega arith) };
        long = ap length w.bytes ∙ length-sets o from (change line word);
        bytes = λ m n. w.bytes ∙ ap (λ (k : ℕ). sets o k (change line word)) f;
      }

-- written from its end back: the line feed, the word, the tab, the number
pub note-stored : (o : List ℕ) (line : ℕ) (word : List ℕ) (end from stop at past : ℕ) (o₂ o₄ : List ℕ) → from + length word + 1 ≡ end → stop + 1 ≡ from
    → Wrote (set o (from + length word) feed) from word o₂ past → Wrote (set o₂ stop tab) at (digits line) o₄ stop
    → Wrote o at (change line word) o₄ end
unfolding change
note-stored o line word end from stop at past o₂ o₄ e f w d =
    let a : Wrote o (from + length word) (feed ∷ []) (set o (from + length word) feed) end = record { bytes = refl; past = omega arith } in
    let b : Wrote (set o (from + length word) feed) from word o₂ (from + length word) = record { bytes = w.bytes; past = refl } in
    let c : Wrote o₂ stop (tab ∷ []) (set o₂ stop tab) from = record { bytes = refl; past = omega arith } in
    let all = wrote-before (wrote-before (wrote-before a b) c) d in
    record {
      bytes = all.bytes ∙ ap (sets o at) (sym (append_assoc (digits line) (tab ∷ []) (word ++ feed ∷ [])));
      past = all.past ∙ ap (λ (x : List ℕ). at + length x) (sym (append_assoc (digits line) (tab ∷ []) (word ++ feed ∷ [])));
    }

-- ---- where a test passes
pub puts-same : {o xs ys o' : List ℕ} {at room r : ℕ} → xs ≡ ys → Puts o at room xs o' r → Puts o at room ys o' r
puts-same {o} {xs} {ys} {o'} {at} {room} {r} e p = subst (λ (x : List ℕ). Puts o at room x o' r) e p
