-- The call by cases. `written_told`, `changed_told` what it tells · `both_of` both outputs · `judged-held` a mended table holds every line's record ·
-- `call-unfit`, `call-refused`, `call-written` what the call answers, by what was judged.
-- Assumes nothing.
use Rattle.std.specs.Prelude.{◌≡◌, ◌&&◌, eqb, length, replicate, drop, Result, Ok, Err}
use Rattle.std.proofs.Math.Path.{refl, sym, ap}
use Rattle.std.proofs.Common.{◌∙◌, arith}
use Rattle.std.proofs.Math.Bool.{Bool, true, false, cond}
use mathlib.Core.List.{List, ◌++◌}
use Prim.Native.Nat.{ℕ, ◌+◌, ◌≤◌, ◌<◌}
use Rattle.std.proofs.Math.Decide.{dec_lt}
use borrow.Author.Tests.{le-leb, lt-leb, le-ltb, eqb-true}
use Rattle.laws.specs.Each.{both_right}
use Rattle.laws.specs.Stores.{drop-stored}
use Rattle.lattice.specs.declared.refusals.Refusal.{Refusal}
use Rattle.table.specs.Slots.{Table, fits_length, lengths_fit, slots_of, cleared_of}
use Rattle.table.specs.Order.{InOrder}
use Rattle.table.specs.MapLaws.{clear-length}
use Rattle.writers.specs.Files.{full_file, OutputAfter, output_after, put_of}
use Rattle.grown.specs.Grown.{is_grown}
use Rattle.readers.specs.Readers.{Restored, With, Stopped}
use Rattle.salvage_lines.specs.OldLines.{salvaged, kept, clashes}
use Rattle.salvage.specs.Salvage.{sorted_lines, filled, changes, SalvageAfter, salvage_after, refusal, over, room_for, write_both}
use Rattle.salvage.specs.Salvage.{closing, salvage_of}
use Rattle.salvage_lines.specs.ClashLaws.{none-agree}
use Rattle.salvage.specs.MendLaws.{mended-rises, mended-valid, mem-mended}
use Rattle.salvage.specs.KeyLaws.{judged_of}
use Rattle.salvage.specs.FilledLaws.{mends, mends-order, mends-slots}
use Rattle.salvage.specs.JudgeLaws.{judged_file, records-valid}
use Rattle.salvage.specs.ListLaws.{AllHeld}
use Rattle.salvage.specs.NoteLaws.{Capped, Puts}
use Rattle.salvage.specs.declared.calls.Salvaged.{Salvaged}

-- the bytes of both outputs, as they are told
abbrev pub written_told : Result Salvaged Refusal → ℕ
written_told (Ok done) = done.written
written_told (Err why) = 0

abbrev pub changed_told : Result Salvaged Refusal → ℕ
changed_told (Ok done) = done.changed
changed_told (Err why) = 0

-- the number, the bytes written, and both outputs after
pub record Both : Type 0 where
  pub number : ℕ
  pub written : ℕ
  pub changed : ℕ
  pub out : List ℕ
  pub list : List ℕ

abbrev pub both : ℕ → ℕ → ℕ → List ℕ → List ℕ → Both
both number written changed o l = record { number = number; written = written; changed = changed; out = o; list = l }

-- "13 for either output; no output on refusal"
unfoldable pub both_of : List ℕ → List ℕ → List ℕ → List ℕ → Both
both_of u f o l =
    cond (room_for (full_file u) o && room_for (changes (salvaged f) u) l)
    (both 0 (length (full_file u)) (length (changes (salvaged f) u)) (over (full_file u) o) (over (changes (salvaged f) u) l)) (both 13 0 0 o l)

-- ---- a mended table

with-not : {A : Type 0} (k : ℕ) (u : List ℕ) → Stopped k ≡ With u → A
with-not k u e = absurd (let z : ◌≡◌ {A = ℕ} 0 1 = cc in omega arith)

-- what was judged good was filled
judged-filled : (t f u : List ℕ) → judged_file t f ≡ With u → (clashes (kept (salvaged f)) ≡ false)
    × (filled (sorted_lines (salvaged f)) (cleared_of t) ≡ With u) × (is_grown u ≡ true)
unfolding judged_file
judged-filled t f u = go (clashes (kept (salvaged f))) refl (filled (sorted_lines (salvaged f)) (cleared_of t)) refl
  where
    with-is : (a : List ℕ) → With a ≡ With u → a ≡ u
    with-is a e = cc

    judge : (a : List ℕ) (g : Bool) → is_grown a ≡ g → cond g (With a) (Stopped 11) ≡ With u → (With a ≡ With u) × (is_grown u ≡ true)
    judge a false e h = with-not 11 u h
    judge a true e h = (h, sym (ap is_grown (with-is a h)) ∙ e)

    go : (b : Bool) → clashes (kept (salvaged f)) ≡ b → (x : Restored) → filled (sorted_lines (salvaged f)) (cleared_of t) ≡ x
        → cond b (Stopped 20) (judged_of x) ≡ With u
        → (clashes (kept (salvaged f)) ≡ false) × (filled (sorted_lines (salvaged f)) (cleared_of t) ≡ With u) × (is_grown u ≡ true)
    go true e x h k = with-not 20 u k
    go false e (Stopped j) h k = with-not j u k
    go false e (With a) h k = let w = judge a (is_grown a) refl k in (e, h ∙ w.0, w.1)

-- it is in order, and holds every line's record
pub judged-held : (t f u : List ℕ) (n : ℕ) → Table t n → judged_file t f ≡ With u → InOrder u × (n ≡ slots_of u) × AllHeld u f
judged-held t f u n w e =
    let (c, h, g) = judged-filled t f u e in
    let a = none-agree (kept (salvaged f)) c in
    let v = records-valid f in
    let m = mends t n w (sorted_lines (salvaged f)) (mended-rises (kept (salvaged f)) a v) (mended-valid (kept (salvaged f)) a v) u h in
    (mends-order m, sym (mends-slots m), λ r k. m.restores.adds.keeps r.at r (m.lined.held r (mem-mended (kept (salvaged f)) a v r k)))

-- ---- the answers

-- by what was judged
abbrev pub answer_of : List ℕ → List ℕ → List ℕ → List ℕ → List ℕ → Restored → SalvageAfter
answer_of t s f o l (Stopped number) = refusal number t s o l
answer_of t s f o l (With u) = write_both t s o l u (full_file u) (changes (salvaged f) u)

module _ (t s f o l : List ℕ) where
  pub call-unfit : lengths_fit t s ≡ false → salvage_after 1 0 0 t s o l ≡ salvage_of t s f o l
  unfolding salvage_of
  call-unfit e = ap (λ (b : Bool). cond b (cond (clashes (kept (salvaged f))) (refusal 20 t s o l)
      (closing t s o l (salvaged f) (filled (sorted_lines (salvaged f)) (cleared_of t)))) (salvage_after 1 0 0 t s o l)) (sym e)

  pub call-judged : lengths_fit t s ≡ true → answer_of t s f o l (judged_file t f) ≡ salvage_of t s f o l
  unfolding salvage_of judged_file
  call-judged fit =
      go (clashes (kept (salvaged f))) (filled (sorted_lines (salvaged f)) (cleared_of t))
      ∙ ap (λ (b : Bool). cond b (cond (clashes (kept (salvaged f))) (refusal 20 t s o l)
      (closing t s o l (salvaged f) (filled (sorted_lines (salvaged f)) (cleared_of t)))) (salvage_after 1 0 0 t s o l)) (sym fit)
    where
      grown : (u : List ℕ) (g : Bool)
          → answer_of t s f o l (cond g (With u) (Stopped 11)) ≡ cond g (write_both t s o l u (full_file u) (changes (salvaged f) u)) (refusal 11 t s o l)
      grown u true = refl
      grown u false = refl

      go : (b : Bool) (x : Restored) → answer_of t s f o l (cond b (Stopped 20) (judged_of x)) ≡ cond b (refusal 20 t s o l) (closing t s o l (salvaged f) x)
      go true x = refl
      go false (Stopped k) = refl
      go false (With u) = grown u (is_grown u)

  pub call-refused : lengths_fit t s ≡ true → (number : ℕ) → judged_file t f ≡ Stopped number → refusal number t s o l ≡ salvage_of t s f o l
  call-refused fit number e = ap (answer_of t s f o l) (sym e) ∙ call-judged fit

  -- both are written, or there is no room
  pub call-written : lengths_fit t s ≡ true → (u : List ℕ) → judged_file t f ≡ With u → (r : Both) → r ≡ both_of u f o l → (r.number ≡ 0)
      → salvage_after r.number r.written r.changed u (cleared_of s) r.out r.list ≡ salvage_of t s f o l
  unfolding both_of
  call-written fit u e r h z =
      ap (λ (x : Both). salvage_after x.number x.written x.changed u (cleared_of s) x.out x.list) h
      ∙ go (room_for (full_file u) o && room_for (changes (salvaged f) u) l) (sym (ap (λ (x : Both). x.number) h) ∙ z)
      ∙ ap (answer_of t s f o l) (sym e) ∙ call-judged fit
    where
      file : List ℕ
      file = full_file u

      list : List ℕ
      list = changes (salvaged f) u

      pair : Bool → Both
      pair b = cond b (both 0 (length (full_file u)) (length (changes (salvaged f) u)) (over (full_file u) o) (over (changes (salvaged f) u) l)) (both 13 0 0 o l)

      go : (b : Bool) → (pair b).number ≡ 0 → salvage_after (pair b).number (pair b).written (pair b).changed u (cleared_of s) (pair b).out (pair b).list
          ≡ cond b (salvage_after 0 (length (full_file u)) (length (changes (salvaged f) u)) u (cleared_of s) (over (full_file u) o)
          (over (changes (salvaged f) u) l)) (refusal 13 t s o l)
      go true z = refl
      go false z = absurd (omega arith)

  pub call-short : lengths_fit t s ≡ true → (u : List ℕ) → judged_file t f ≡ With u → (r : Both) → r ≡ both_of u f o l → (r.number ≡ 0 → ⊥)
      → salvage_after r.number 0 0 (cleared_of t) (cleared_of s) r.out r.list ≡ salvage_of t s f o l
  unfolding both_of
  call-short fit u e r h z =
      ap (λ (x : Both). salvage_after x.number 0 0 (cleared_of t) (cleared_of s) x.out x.list) h
      ∙ go (room_for (full_file u) o && room_for (changes (salvaged f) u) l) (λ y. z (ap (λ (x : Both). x.number) h ∙ y))
      ∙ ap (answer_of t s f o l) (sym e) ∙ call-judged fit
    where
      pair : Bool → Both
      pair b = cond b (both 0 (length (full_file u)) (length (changes (salvaged f) u)) (over (full_file u) o) (over (changes (salvaged f) u) l)) (both 13 0 0 o l)

      go : (b : Bool) → ((pair b).number ≡ 0 → ⊥) → salvage_after (pair b).number 0 0 (cleared_of t) (cleared_of s) (pair b).out (pair b).list
          ≡ cond b (salvage_after 0 (length (full_file u)) (length (changes (salvaged f) u)) u (cleared_of s) (over (full_file u) o)
          (over (changes (salvaged f) u) l)) (refusal 13 t s o l)
      go true z = absurd (z refl)
      go false z = refl

-- ---- both outputs

module _ (u f o l : List ℕ) where
  pub both-short : length o < length (full_file u) → both 13 0 0 o l ≡ both_of u f o l
  unfolding both_of
  both-short h = rw (lt-leb (length (full_file u)) (length o) h)

  pub both-list : length (full_file u) ≤ length o → length l < length (changes (salvaged f) u) → both 13 0 0 o l ≡ both_of u f o l
  unfolding both_of
  both-list h k = rw (le-leb (length (full_file u)) (length o) h, lt-leb (length (changes (salvaged f) u)) (length l) k)

  pub both-done : length (full_file u) ≤ length o → length (changes (salvaged f) u) ≤ length l → (w c : ℕ) (o' l' : List ℕ) → w ≡ length (full_file u)
      → c ≡ length (changes (salvaged f) u) → o' ≡ over (full_file u) o → l' ≡ over (changes (salvaged f) u) l → both 0 w c o' l' ≡ both_of u f o l
  unfolding both_of
  both-done h k w c o' l' ew ec eo el =
      (λ i. both 0 (ew i) (ec i) (eo i) (el i))
      ∙ sym (rw (le-leb (length (full_file u)) (length o) h, le-leb (length (changes (salvaged f) u)) (length l) k))

-- a list that has room, put
pub puts-over : (l xs l' : List ℕ) (r : ℕ) → Puts l 0 (length l) xs l' r → length xs ≤ length l → l' ≡ over xs l
puts-over l xs l' r p h =
    let e : 0 + length xs ≡ length xs = omega arith in
    p.bytes (omega arith) (omega arith) ∙ drop-stored l 0 xs (omega arith) ∙ ap (λ (n : ℕ). xs ++ drop n l) e

-- a file that has room, written
pub put-told : (file o : List ℕ) → length file ≤ length o → (a b : ℕ) (o' : List ℕ) → output_after a b o' ≡ put_of file o
    → (b ≡ length file) × (o' ≡ over file o) × (a ≡ 0)
unfolding put_of
put-told file o h a b o' e =
    let k : output_after a b o' ≡ output_after 0 (length file) (file ++ drop (length file) o)
    = e ∙ ap (λ (x : Bool). cond x (output_after 13 0 o) (output_after 0 (length file) (file ++ drop (length file) o))) (le-ltb (length o) (length file) h) in
    (ap (λ (x : OutputAfter). x.bytes) k, ap (λ (x : OutputAfter). x.out) k, ap (λ (x : OutputAfter). x.number) k)

-- past the room
pub capped-past : (room x r : ℕ) → Capped room x r → room < r → room < x
capped-past room x r c h = go (dec_lt room x)
  where
    go : Dec (room < x) → room < x
    go (yes l) = l
    go (no l) = let e = c.within (omega arith) in omega arith

pub capped-within : (room x r : ℕ) → Capped room x r → r ≤ room → x ≤ room
capped-within room x r c h = go (dec_lt room x)
  where
    go : Dec (room < x) → x ≤ room
    go (yes l) = let e = c.beyond l in absurd (omega arith)
    go (no l) = omega arith

-- judged in the cleared table, as in the lent one
pub judged-cleared : (t u f : List ℕ) → u ≡ cleared_of t → judged_file u f ≡ judged_file t f
unfolding judged_file
judged-cleared t u f e =
    let l : length u ≡ length t = ap length e ∙ clear-length t in
    ap (λ (n : ℕ). cond (clashes (kept (salvaged f))) (Stopped 20) (judged_of (filled (sorted_lines (salvaged f)) (replicate n 255)))) l

-- lent tables that fit have one length
pub lengths-same : (t s : List ℕ) → lengths_fit t s ≡ true → length s ≡ length t
lengths-same t s e = eqb-true (length s) (length t) (both_right (fits_length (length t)) (eqb (length s) (length t)) e)

-- two tables of one length are cleared alike
pub cleared-alike : (t u : List ℕ) → length u ≡ length t → cleared_of u ≡ cleared_of t
cleared-alike t u e = ap (λ (n : ℕ). replicate n 255) e
