-- The bytes of a slot freed: `freed-put` a free slot written and freed has its bytes again · `freed-length` · `free-next` one byte more, for the loop.
-- Assumes nothing.
use Rattle.std.specs.Prelude.{◌≡◌, refl, Bool, true, false, cond, List, [], ◌∷◌, ℕ, ◌+◌, ◌-◌, ◌*◌, ◌≤◌, ◌<◌, eqb, length, get_or, set, Some, None}
use Rattle.std.proofs.Common.{sym, ap, ◌∙◌, arith, eqb-true, ext_get_or}
use Rattle.std.proofs.Math.Decide.{dec_lt}
use Rattle.std.proofs.lemmas.List.{length-replicate, replicate-append-replicate}
use Rattle.std.proofs.Math.ListN.{get_or-replicate}
use Rattle.std.proofs.lemmas.List.Edits.{sets}
use Rattle.std.proofs.Math.Seq.{length-sets}
use Rattle.laws.specs.Sets.{sets-append, get_d-sets-below, get_d-sets-above, get_d-sets-in}
use Rattle.laws.specs.Each.{upto-each}
use Rattle.lattice.specs.declared.records.Record.{Record}
use Rattle.table.specs.Slots.{slot_width, free_at, record_at, slot_at, record_bytes, put_slot}
use Rattle.table.specs.SlotLaws.{put-length}
use Rattle.undoing.specs.Undo.{ones, freed}

-- ---- a slot freed
ones-long : length (ones slot_width) ≡ slot_width
ones-long = length-replicate {A = ℕ} slot_width 255

pub freed-length : (t : List ℕ) (i : ℕ) → length (freed t i) ≡ length t
unfolding freed
freed-length t i = length-sets t (slot_width * i) (ones slot_width)

module _ (t : List ℕ) (i : ℕ) (room : slot_width * i + slot_width ≤ length t) where
  freed-byte : (c : ℕ) → c < slot_width → ◌≡◌ {A = ℕ} (get_or (freed t i) (slot_width * i + c) 0) 255
  unfolding freed
  freed-byte c l =
      let w = ones-long in
      get_d-sets-in (ones slot_width) t (slot_width * i) c (omega arith) (omega arith) ∙ get_or-replicate slot_width c 255 0 l

-- ---- a free slot written and freed
free-byte : (t : List ℕ) (i c : ℕ) → slot_at t i ≡ None → c < slot_width → ◌≡◌ {A = ℕ} (get_or t (slot_width * i + c) 0) 255
unfolding slot_at free_at
free-byte t i c e l = go (free_at t (slot_width * i)) refl
  where
    go : (b : Bool) → free_at t (slot_width * i) ≡ b → ◌≡◌ {A = ℕ} (get_or t (slot_width * i + c) 0) 255
    go true x = eqb-true (get_or t (slot_width * i + c) 0) 255 (upto-each (λ k. eqb (get_or t (slot_width * i + k) 0) 255) slot_width c x l)
    go false x =
        let y : Some (record_at t (slot_width * i)) ≡ None = sym (ap (λ (b : Bool). cond b None (Some (record_at t (slot_width * i)))) x) ∙ e in
        absurd (let z : ◌≡◌ {A = ℕ} 0 1 = cc in omega arith)

freed-below : (t : List ℕ) (i x : ℕ) → x < slot_width * i → get_or (freed t i) x 0 ≡ get_or t x 0
unfolding freed
freed-below t i x l = get_d-sets-below (ones slot_width) t (slot_width * i) x l

freed-above : (t : List ℕ) (i x : ℕ) → slot_width * i + slot_width ≤ x → get_or (freed t i) x 0 ≡ get_or t x 0
unfolding freed
freed-above t i x l = get_d-sets-above (ones slot_width) t (slot_width * i) x (let w = ones-long in omega arith)

put-below : (t : List ℕ) (i : ℕ) (r : Record) (x : ℕ) → x < slot_width * i → get_or (put_slot t i r) x 0 ≡ get_or t x 0
unfolding put_slot
put-below t i r x l = get_d-sets-below (record_bytes r) t (slot_width * i) x l

put-above : (t : List ℕ) (i : ℕ) (r : Record) (x : ℕ) → slot_width * i + slot_width ≤ x → get_or (put_slot t i r) x 0 ≡ get_or t x 0
unfolding put_slot record_bytes
put-above t i r x l = get_d-sets-above (record_bytes r) t (slot_width * i) x (omega arith)

pub freed-put : (t : List ℕ) (i : ℕ) (r : Record) → slot_width * i + slot_width ≤ length t → slot_at t i ≡ None → freed (put_slot t i r) i ≡ t
freed-put t i r room e =
    ext_get_or 0 (freed (put_slot t i r) i) t (freed-length (put_slot t i r) i ∙ put-length t i r)
    (λ x l. go x (dec_lt x (slot_width * i)) (dec_lt x (slot_width * i + slot_width)))
  where
    go : (x : ℕ) → Dec (x < slot_width * i) → Dec (x < slot_width * i + slot_width) → get_or (freed (put_slot t i r) i) x 0 ≡ get_or t x 0
    go x (yes l) d = freed-below (put_slot t i r) i x l ∙ put-below t i r x l
    go x (no l) (yes m) =
        let c : (c : ℕ) × (x ≡ slot_width * i + c) × (c < slot_width) = (x - slot_width * i, omega arith, omega arith) in
        ap (λ (k : ℕ). get_or (freed (put_slot t i r) i) k 0) c.1 ∙ freed-byte (put_slot t i r) i (rw (put-length t i r) room) c.0 c.2
        ∙ sym (free-byte t i c.0 e c.2) ∙ ap (λ (k : ℕ). get_or t k 0) (sym c.1)
    go x (no l) (no m) = freed-above (put_slot t i r) i x (omega arith) ∙ put-above t i r x (omega arith)

-- ---- the loop, byte by byte
pub free-next : (t : List ℕ) (p c : ℕ) → set (sets t p (ones c)) (p + c) 255 ≡ sets t p (ones (c + 1))
free-next t p c =
    let e : p + length (ones c) ≡ p + c = ap (λ (k : ℕ). p + k) (length-replicate c 255) in
    ap (λ (k : ℕ). sets (sets t p (ones c)) k (255 ∷ [])) (sym e) ∙ sets-append (ones c) (255 ∷ []) t p ∙ ap (sets t p) (replicate-append-replicate c 1 255)
