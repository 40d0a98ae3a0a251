-- A record put in place of another of its point, and the first put back: every byte is as it was. For whoever undoes a change that replaced records.
-- `Bytes` all are below 256, as lent bytes are · `put-again` the record that a slot holds, written there again, changes nothing · `put-put` of two
-- writes of a slot the last counts · `replace-back` · `put-bytes`, `replace-bytes` a table of bytes stays one.
-- Assumes nothing.
use Rattle.std.specs.Prelude.{◌≡◌, Bool, true, false, cond, List, Some, None}
use Rattle.std.proofs.Math.Path.{refl, sym, ap}
use Rattle.std.proofs.Common.{◌∙◌, subst, ext_get_or, to_z, of_z}
use Prim.Native.Nat.{ℕ, zero, suc, ◌+◌, ◌-◌, ◌*◌, ◌/◌, ◌%◌, ◌≤◌, ◌<◌}
use native.Mathlib.Omega.{arith}
use Rattle.std.proofs.Math.Decide.{dec_lt, ℕ_discrete}
use Rattle.std.proofs.Math.ListN.{length, get_or}
use Rattle.std.proofs.lemmas.List.Edits.{sets}
use Rattle.std.proofs.Math.Seq.{length-sets}
use Rattle.std.specs.Int.{w32}
use Rattle.std.proofs.Math.Facts.{of_z-to_z}
use Rattle.laws.specs.Words.{word_at}
use Rattle.laws.specs.Sets.{get_d-sets-below, get_d-sets-above, get_d-sets-in}
use Rattle.laws.specs.Choices.{of-true}
use Rattle.lattice.specs.Records.{valid_of}
use Rattle.lattice.specs.RecordLaws.{inner, valid-turn, valid-level}
use Rattle.lattice.specs.declared.records.Record.{Record}
use Rattle.table.specs.Slots.{slot_width, slots_of, free_at, record_at, slot_at, record_bytes, put_slot}
use Rattle.table.specs.Ranges.{valid-inside, inside-fits}
use Rattle.table.specs.Search.{find_of}
use Rattle.table.specs.Order.{InOrder}
use Rattle.table.specs.Entries.{look_up, replace_of}
use Rattle.table.specs.MapLaws.{find-held, put-replace, replace-find, at_room}
use Rattle.table.specs.declared.probe.Found.TheVariants as found

-- every byte is below 256
abbrev pub Bytes : List ℕ → Type 0
Bytes t = (x : ℕ) → get_or t x 0 < 256

-- the four digits of a word
module _ (a b c d : ℕ) (ha : a < 256) (hb : b < 256) (hc : c < 256) (hd : d < 256) where
  abbrev w : ℕ
  w = a + 256 * b + 65536 * c + 16777216 * d

  digit0 : w % 256 ≡ a
  digit0 = omega arith

  digit1 : w / 256 % 256 ≡ b
  digit1 =
      let e : w / 256 ≡ b + 256 * c + 65536 * d = omega arith in
      let f : (b + 256 * c + 65536 * d) % 256 ≡ b = omega arith in
      ap (λ (x : ℕ). x % 256) e ∙ f

  digit2 : w / 65536 % 256 ≡ c
  digit2 =
      let e : w / 65536 ≡ c + 256 * d = omega arith in
      let f : (c + 256 * d) % 256 ≡ c = omega arith in
      ap (λ (x : ℕ). x % 256) e ∙ f

  digit3 : w / 16777216 % 256 ≡ d
  digit3 =
      let e : w / 16777216 ≡ d = omega arith in
      let f : d % 256 ≡ d = omega arith in
      ap (λ (x : ℕ). x % 256) e ∙ f

module _ (t : List ℕ) (p : ℕ) (small : Bytes t) where
  word_fits : word_at t p < 4294967296
  unfolding word_at
  word_fits = omega (arith, small p, small (p + 1), small (p + 2), small (p + 3))

  word_kept : of_z w32 (to_z w32 (word_at t p)) ≡ word_at t p
  word_kept = of_z-to_z {w = w32} {n = word_at t p} (record { fits = word_fits })

  byte0 : of_z w32 (to_z w32 (word_at t p)) % 256 ≡ get_or t p 0
  unfolding word_at
  byte0 =
      ap (λ (x : ℕ). x % 256) word_kept
      ∙ digit0 (get_or t p 0) (get_or t (p + 1) 0) (get_or t (p + 2) 0) (get_or t (p + 3) 0) (small p) (small (p + 1)) (small (p + 2)) (small (p + 3))

  byte1 : of_z w32 (to_z w32 (word_at t p)) / 256 % 256 ≡ get_or t (p + 1) 0
  unfolding word_at
  byte1 =
      ap (λ (x : ℕ). x / 256 % 256) word_kept
      ∙ digit1 (get_or t p 0) (get_or t (p + 1) 0) (get_or t (p + 2) 0) (get_or t (p + 3) 0) (small p) (small (p + 1)) (small (p + 2)) (small (p + 3))

  byte2 : of_z w32 (to_z w32 (word_at t p)) / 65536 % 256 ≡ get_or t (p + 2) 0
  unfolding word_at
  byte2 =
      ap (λ (x : ℕ). x / 65536 % 256) word_kept
      ∙ digit2 (get_or t p 0) (get_or t (p + 1) 0) (get_or t (p + 2) 0) (get_or t (p + 3) 0) (small p) (small (p + 1)) (small (p + 2)) (small (p + 3))

  byte3 : of_z w32 (to_z w32 (word_at t p)) / 16777216 % 256 ≡ get_or t (p + 3) 0
  unfolding word_at
  byte3 =
      ap (λ (x : ℕ). x / 16777216 % 256) word_kept
      ∙ digit3 (get_or t p 0) (get_or t (p + 1) 0) (get_or t (p + 2) 0) (get_or t (p + 3) 0) (small p) (small (p + 1)) (small (p + 2)) (small (p + 3))

  at : (x y : ℕ) → x ≡ y → get_or t x 0 ≡ get_or t y 0
  at x y e = ap (λ (k : ℕ). get_or t k 0) e

-- the bytes of the record read are the bytes that are there
record-byte : (t : List ℕ) (p c : ℕ) → Bytes t → c < 12 → get_or (record_bytes (record_at t p)) c 0 ≡ get_or t (p + c) 0
unfolding record_bytes record_at
record-byte t p zero b h = byte0 t p b ∙ at t p b p (p + 0) (omega arith)
record-byte t p (suc zero) b h = byte1 t p b
record-byte t p (suc (suc zero)) b h = byte2 t p b
record-byte t p (suc (suc (suc zero))) b h = byte3 t p b
record-byte t p (suc (suc (suc (suc zero)))) b h = byte0 t (p + 4) b
record-byte t p (suc (suc (suc (suc (suc zero))))) b h = byte1 t (p + 4) b ∙ at t p b (p + 4 + 1) (p + 5) (omega arith)
record-byte t p (suc (suc (suc (suc (suc (suc zero)))))) b h = byte2 t (p + 4) b ∙ at t p b (p + 4 + 2) (p + 6) (omega arith)
record-byte t p (suc (suc (suc (suc (suc (suc (suc zero))))))) b h = byte3 t (p + 4) b ∙ at t p b (p + 4 + 3) (p + 7) (omega arith)
record-byte t p (suc (suc (suc (suc (suc (suc (suc (suc zero)))))))) b h = refl
record-byte t p (suc (suc (suc (suc (suc (suc (suc (suc (suc zero))))))))) b h = refl
record-byte t p (suc (suc (suc (suc (suc (suc (suc (suc (suc (suc zero)))))))))) b h = refl
record-byte t p (suc (suc (suc (suc (suc (suc (suc (suc (suc (suc (suc zero))))))))))) b h = refl
record-byte t p (suc (suc (suc (suc (suc (suc (suc (suc (suc (suc (suc (suc c)))))))))))) b h = absurd (omega arith)

slot-record : (t : List ℕ) (i : ℕ) (r : Record) → slot_at t i ≡ Some r → record_at t (slot_width * i) ≡ r
unfolding slot_at
slot-record t i r e = go (free_at t (slot_width * i)) refl
  where
    go : (b : Bool) → free_at t (slot_width * i) ≡ b → record_at t (slot_width * i) ≡ r
    go true x =
        let y : None ≡ Some r = sym (ap (λ (b : Bool). cond b None (Some (record_at t (slot_width * i)))) x) ∙ e in
        absurd (let z : ◌≡◌ {A = ℕ} 0 1 = cc in omega arith)
    go false x =
        let y : Some (record_at t (slot_width * i)) ≡ Some r = sym (ap (λ (b : Bool). cond b None (Some (record_at t (slot_width * i)))) x) ∙ e in
        cc

-- twelve bytes stored at p: below, in, above
module _ (t vs : List ℕ) (p : ℕ) (w : length vs ≡ 12) (room : p + 12 ≤ length t) where
  stored : (u : List ℕ) → length u ≡ length t → ((x : ℕ) → x < p → get_or u x 0 ≡ get_or t x 0) → ((x : ℕ) → p + 12 ≤ x → get_or u x 0 ≡ get_or t x 0)
      → ((c : ℕ) → c < 12 → get_or u (p + c) 0 ≡ get_or vs c 0) → sets t p vs ≡ u
  stored u len lo hi mid = ext_get_or 0 (sets t p vs) u (length-sets t p vs ∙ sym len) (λ x l. go x (dec_lt x p) (dec_lt x (p + 12)))
    where
      go : (x : ℕ) → Dec (x < p) → Dec (x < p + 12) → get_or (sets t p vs) x 0 ≡ get_or u x 0
      go x (yes l) d = get_d-sets-below vs t p x l ∙ sym (lo x l)
      go x (no l) (yes m) =
          let e : p + (x - p) ≡ x = omega arith in
          let h : x - p < length vs = omega arith in
          let h' : x - p < 12 = omega arith in
          let k : p + length vs ≤ length t = omega arith in
          ap (λ (y : ℕ). get_or (sets t p vs) y 0) (sym e) ∙ get_d-sets-in vs t p (x - p) h k ∙ sym (mid (x - p) h') ∙ ap (λ (y : ℕ). get_or u y 0) e
      go x (no l) (no m) = get_d-sets-above vs t p x (omega arith) ∙ sym (hi x (omega arith))

bytes-twelve : (r : Record) → length (record_bytes r) ≡ 12
unfolding record_bytes
bytes-twelve r = refl

module _ (t : List ℕ) (i : ℕ) (r : Record) (room : slot_width * i + slot_width ≤ length t) where
  pub put-again : slot_at t i ≡ Some r → Bytes t → put_slot t i r ≡ t
  unfolding put_slot
  put-again e b =
      stored t (record_bytes r) (slot_width * i) (bytes-twelve r) room t refl (λ x l. refl) (λ x l. refl)
      (λ c l. sym (ap (λ (q : Record). get_or (record_bytes q) c 0) (sym (slot-record t i r e)) ∙ record-byte t (slot_width * i) c b l))

  pub put-put : (q : Record) → put_slot (put_slot t i q) i r ≡ put_slot t i r
  unfolding put_slot
  put-put q =
      let p = slot_width * i in
      let xs = record_bytes q in
      let ys = record_bytes r in
      let wx : length xs ≡ 12 = bytes-twelve q in
      let wy : length ys ≡ 12 = bytes-twelve r in
      let k : p + 12 ≤ length (sets t p xs) = rw (length-sets t p xs) room in
      stored (sets t p xs) ys p wy k (sets t p ys) (length-sets t p ys ∙ sym (length-sets t p xs))
      (λ x l. get_d-sets-below ys t p x l ∙ sym (get_d-sets-below xs t p x l))
      (λ x l. get_d-sets-above ys t p x (omega arith) ∙ sym (get_d-sets-above xs t p x (omega arith)))
      (λ c l. get_d-sets-in ys t p c (omega arith) (omega arith))

pub replace-back : (t : List ℕ) → InOrder t → Bytes t → (r q : Record) → look_up t r.at ≡ Some r → q.at ≡ r.at → valid_of q ≡ true
    → replace_of (replace_of t q) r ≡ t
replace-back t o b r q h same ok =
    let f = find-held t o.fits r.at r h in
    let i = f.0 in
    let room = at_room t (slots_of t) o.fits r.at i f.1 in
    let e : put_slot t i q ≡ replace_of t q = put-replace t q i (ap (find_of t) same ∙ f.1) in
    let g : find_of (put_slot t i q) r.at ≡ found.At i = ap (λ (u : List ℕ). find_of u r.at) e ∙ replace-find t o q ok r.at ∙ f.1 in
    ap (λ (u : List ℕ). replace_of u r) (sym e) ∙ sym (put-replace (put_slot t i q) r i g) ∙ put-put t i r room q ∙ put-again t i r room f.2 b

-- ---- bytes stay bytes

-- the bytes of a valid record
module _ (r : Record) (ok : valid_of r ≡ true) where
  degree-small : r.d < 256
  degree-small = go (ℕ_discrete r.d 0)
    where
      go : Dec (r.d ≡ 0) → r.d < 256
      go (yes e) = omega arith
      go (no e) = omega (arith, (inner r (of-true ok) e).top)

  record-small : (c : ℕ) → get_or (record_bytes r) c 0 < 256
  unfolding record_bytes
  record-small zero = omega arith
  record-small (suc zero) = omega arith
  record-small (suc (suc zero)) = omega arith
  record-small (suc (suc (suc zero))) = omega arith
  record-small (suc (suc (suc (suc zero)))) = omega arith
  record-small (suc (suc (suc (suc (suc zero))))) = omega arith
  record-small (suc (suc (suc (suc (suc (suc zero)))))) = omega arith
  record-small (suc (suc (suc (suc (suc (suc (suc zero))))))) = omega arith
  record-small (suc (suc (suc (suc (suc (suc (suc (suc zero)))))))) = omega (arith, (inside-fits r.at (valid-inside r ok)).depth)
  record-small (suc (suc (suc (suc (suc (suc (suc (suc (suc zero))))))))) = degree-small
  record-small (suc (suc (suc (suc (suc (suc (suc (suc (suc (suc zero)))))))))) = omega (arith, valid-turn r (of-true ok))
  record-small (suc (suc (suc (suc (suc (suc (suc (suc (suc (suc (suc zero))))))))))) = omega (arith, valid-level r (of-true ok))
  record-small (suc (suc (suc (suc (suc (suc (suc (suc (suc (suc (suc (suc c)))))))))))) = omega arith

  pub put-bytes : (t : List ℕ) (i : ℕ) → slot_width * i + slot_width ≤ length t → Bytes t → Bytes (put_slot t i r)
  unfolding put_slot
  put-bytes t i room b x = go (dec_lt x p) (dec_lt x (p + 12))
    where
      p : ℕ
      p = slot_width * i

      go : Dec (x < p) → Dec (x < p + 12) → get_or (sets t p (record_bytes r)) x 0 < 256
      go (yes l) d = rw (get_d-sets-below (record_bytes r) t p x l) (b x)
      go (no l) (yes m) =
          let w = bytes-twelve r in
          let e : p + (x - p) ≡ x = omega arith in
          let h : x - p < length (record_bytes r) = omega arith in
          let k : p + length (record_bytes r) ≤ length t = omega arith in
          subst (λ (y : ℕ). get_or (sets t p (record_bytes r)) y 0 < 256) e (rw (get_d-sets-in (record_bytes r) t p (x - p) h k) (record-small (x - p)))
      go (no l) (no m) = let w = bytes-twelve r in let h : p + length (record_bytes r) ≤ x = omega arith in rw (get_d-sets-above (record_bytes r) t p x h) (b x)

  pub replace-bytes : (t : List ℕ) → InOrder t → (q : Record) → look_up t r.at ≡ Some q → Bytes t → Bytes (replace_of t r)
  replace-bytes t o q h b =
      let f = find-held t o.fits r.at q h in
      subst Bytes (put-replace t r f.0 f.1) (put-bytes t f.0 (at_room t (slots_of t) o.fits r.at f.0 f.1) b)
