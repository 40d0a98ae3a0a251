-- A subdivision undone at once leaves every byte as it was: `subdivide-undo`. For every table in order, grown or not.
-- Write by write: what entered last leaves first, and leaves every byte as it was (`enter-unenter`): its slot was free, so it is on no record's way; each
-- record replaced is told by what replaced it (`earlier-update`), and put back (`replace-back`).
-- `subdivided-bytes` a table of bytes stays one · `unentered-more`, `restored-more` .. as the loops go · `earlier_slot`, `restore-at` a vertex by its slot ·
-- `former-inner`, `undone-is`, `replaced-at`.
-- Assumes nothing.
use Rattle.std.specs.Prelude.{◌≡◌, true, ℕ, zero, suc, ◌+◌, ◌*◌, ◌-◌, ◌%◌, ◌≤◌, ◌<◌, length, Option, Some, None}
use Rattle.std.proofs.Math.Path.{refl, ap}
use Rattle.std.proofs.Common.{sym, ◌∙◌, subst}
use mathlib.Core.List.{List}
use native.Mathlib.Omega.{arith}
use Rattle.laws.specs.Choices.{is_true, of-true}
use Rattle.lattice.specs.Stars.{adjacent_at}
use Rattle.lattice.specs.Records.{valid_of}
use Rattle.lattice.specs.RecordLaws.{Inner, inner}
use Rattle.lattice.specs.Subdivision.{centre_of, new_of, back_of, update_of}
use Rattle.lattice.specs.declared.points.Point.{Point}
use Rattle.lattice.specs.declared.records.Record.{Record}
use Rattle.geometry.specs.SubdivisionLaws.{update-valid, update-at}
use Rattle.table.specs.Slots.{slot_width, Table, slots_in, slots_of, slot_at, put_slot, free_slots}
use Rattle.table.specs.SlotLaws.{put_same}
use Rattle.table.specs.Ranges.{valid-inside, inside-fits}
use Rattle.table.specs.Search.{find_of}
use Rattle.table.specs.Order.{InOrder}
use Rattle.table.specs.Entries.{look_up, replace_at, replace_of, enter_of}
use Rattle.table.specs.MapLaws.{lookup-point, lookup-valid, find-free, find-held, at-free, at_held, put-enter, put-replace}
use Rattle.table.specs.MapLaws.{enter-order, enter-finds, enter-length, replace-table, table_same}
use Rattle.table.specs.declared.probe.Found.{Found}
use Rattle.table.specs.declared.probe.Found.TheVariants as found
use Rattle.mesh.specs.Subdivide.{renew_at, renewed_to, entered_to, subdivided}
use Rattle.mesh.specs.SubdivideLaws.{Intact, renewed, entered, old, renewal, centre-good, new-good, vertex-valid}
use Rattle.undoing.specs.FreeLaws.{freed-put, freed-length}
use Rattle.undoing.specs.AgainLaws.{Bytes, replace-back, replace-bytes, put-bytes}
use Rattle.undoing.specs.Earlier.{former_of, earlier_of}
use Rattle.undoing.specs.EarlierLaws.{former-centre, earlier-update, earlier-at}
use Rattle.undoing.specs.Undo.{freed, unenter_at, unenter_of, unentered_to, restore_at, restore_of, restored_to, undone}

-- ---- a record entered and, at once, taken out again: its slot was free, so every byte is as it was
pub enter-unenter : (t : List ℕ) → InOrder t → (r : Record) → valid_of r ≡ true → look_up t r.at ≡ None → 0 < free_slots t
    → unenter_of (enter_of t r) r.at ≡ t
enter-unenter t o r ok h f =
    let x = find-free t o.fits r.at h f in
    let i = x.0 in
    let put : put_slot t i r ≡ enter_of t r = put-enter t r i x.1 in
    let free = (at-free t o.fits r.at i x.1).free in
    let space : slot_width * i + slot_width ≤ length t = omega (arith, x.2, o.fits.long) in
    let order : InOrder (enter_of t r) = enter-order t o r ok in
    let there : slot_at (enter_of t r) i ≡ Some r = ap (λ (u : List ℕ). slot_at u i) (sym put) ∙ put_same t i r space (inside-fits r.at (valid-inside r ok)) in
    let long : slots_of (enter_of t r) ≡ slots_of t = ap slots_in (enter-length t r) in
    let y = find-held (enter_of t r) order.fits r.at r (enter-finds t o r ok h f) in
    let z = at_held (enter_of t r) order.fits r.at y.0 y.1 in
    let same : y.0 ≡ i = order.once y.0 i r r z.below (omega (arith, x.2, long)) y.2 there refl in
    ap (unenter_at (enter_of t r)) (y.1 ∙ ap found.At same) ∙ ap (λ (u : List ℕ). freed u i) (sym put) ∙ freed-put t i r space free

module _ (t : List ℕ) (v : Record) (w : Intact t v) where
  abbrev o : InOrder t
  o = w.ready.order

  abbrev c : Record
  c = centre_of v

  abbrev t₁ : List ℕ
  t₁ = replace_of t (centre_of v)

  abbrev t₂ : List ℕ
  t₂ = renewed_to t₁ v 6

  -- ---- the six leave
  enter-next : (j : ℕ) → entered_to t₂ c (suc j) ≡ enter_of (entered_to t₂ c j) (new_of v j)
  unfolding entered_to
  enter-next j = refl

  enter-none : entered_to t₂ c 0 ≡ t₂
  unfolding entered_to
  enter-none = refl

  unenter-next : (u : List ℕ) (j : ℕ) → unentered_to u c (suc j) ≡ unentered_to (unenter_of u (adjacent_at c j)) c j
  unfolding unentered_to
  unenter-next u j = refl

  unenter-none : (u : List ℕ) → unentered_to u c 0 ≡ u
  unfolding unentered_to
  unenter-none u = refl

  left : (j : ℕ) → j ≤ 6 → unentered_to (entered_to t₂ c j) c j ≡ t₂
  left zero l = unenter-none (entered_to t₂ c 0) ∙ enter-none
  left (suc j) l =
      let h : j < 6 = omega arith in
      let e = entered t v w j (omega arith) in
      let n : j ≤ j = omega arith in
      let some : 0 < free_slots (entered_to t₂ c j) = omega (arith, e.free, w.room) in
      ap (λ (u : List ℕ). unentered_to u c (suc j)) (enter-next j) ∙ unenter-next (enter_of (entered_to t₂ c j) (new_of v j)) j
      ∙ ap (λ (u : List ℕ). unentered_to u c j) (enter-unenter (entered_to t₂ c j) e.order (new_of v j) (new-good t v w j h) (e.later j n h) some)
      ∙ left j (omega arith)

  -- ---- the old adjacent vertices
  old-valid : (j : ℕ) (h : j < 6) → valid_of (old t v w j h).0 ≡ true
  old-valid j h = lookup-valid t o (adjacent_at v j) (old t v w j h).0 (old t v w j h).1

  old-point : (j : ℕ) (h : j < 6) → (old t v w j h).0.at ≡ adjacent_at v j
  old-point j h = lookup-point t o (adjacent_at v j) (old t v w j h).0 (old t v w j h).1

  renewal-valid : (j : ℕ) (h : j < 6) → valid_of (renewal t v w j h) ≡ true
  renewal-valid j h =
      is_true (valid_of (renewal t v w j h))
      (update-valid (back_of v.k j) v.n.0 (old t v w j h).0 w.ready.below (of-true (old-valid j h)) (of-true (old t v w j h).2))

  renewal-at : (j : ℕ) (h : j < 6) → (renewal t v w j h).at ≡ (old t v w j h).0.at
  renewal-at j h = update-at (back_of v.k j) (old t v w j h).0

  -- before its turn it is as it was
  before : (j : ℕ) (h : j < 6) → look_up (renewed_to t₁ v j) (old t v w j h).0.at ≡ Some (old t v w j h).0
  before j h = let n : j ≤ j = omega arith in ap (look_up (renewed_to t₁ v j)) (old-point j h) ∙ (renewed t v w j (omega arith)).later j n h ∙ (old t v w j h).1

  renew-put : (j : ℕ) (h : j < 6) → renewed_to t₁ v (suc j) ≡ replace_of (renewed_to t₁ v j) (renewal t v w j h)
  unfolding renewed_to
  renew-put j h = let n : j ≤ j = omega arith in ap (renew_at (renewed_to t₁ v j) v j) ((renewed t v w j (omega arith)).later j n h ∙ (old t v w j h).1)

  renew-none : renewed_to t₁ v 0 ≡ t₁
  unfolding renewed_to
  renew-none = refl

  restore-next : (u : List ℕ) (j : ℕ) (r : Record) → look_up u (adjacent_at v j) ≡ Some r
      → restored_to u v (suc j) ≡ restored_to (replace_of u (earlier_of (back_of v.k j) r)) v j
  unfolding restored_to
  restore-next u j r e = ap (λ (x : Option Record). restored_to (restore_at u v j x) v j) e

  restore-none : (u : List ℕ) → restored_to u v 0 ≡ u
  unfolding restored_to
  restore-none u = refl

  module _ (b : Bytes t) where
    first-bytes : Bytes t₁
    first-bytes = replace-bytes c (centre-good t v w) t o v w.ready.held b

    renewed-bytes : (j : ℕ) → j ≤ 6 → Bytes (renewed_to t₁ v j)
    renewed-bytes zero l = subst Bytes (sym renew-none) first-bytes
    renewed-bytes (suc j) l =
        let h : j < 6 = omega arith in
        subst Bytes (sym (renew-put j h))
        (replace-bytes (renewal t v w j h) (renewal-valid j h) (renewed_to t₁ v j) (renewed t v w j (omega arith)).order (old t v w j h).0
        (ap (look_up (renewed_to t₁ v j)) (renewal-at j h) ∙ before j h) (renewed-bytes j (omega arith)))

    -- it stays a table of bytes
    entered-bytes : (j : ℕ) → j ≤ 6 → Bytes (entered_to t₂ c j)
    entered-bytes zero l = subst Bytes (sym enter-none) (renewed-bytes 6 (omega arith))
    entered-bytes (suc j) l =
        let h : j < 6 = omega arith in
        let u = entered_to t₂ c j in
        let e = entered t v w j (omega arith) in
        let n : j ≤ j = omega arith in
        let some : 0 < free_slots u = omega (arith, e.free, w.room) in
        let x = find-free u e.order.fits (new_of v j).at (e.later j n h) some in
        let space : slot_width * x.0 + slot_width ≤ length u = omega (arith, x.2, e.order.fits.long) in
        subst Bytes (put-enter u (new_of v j) x.0 x.1 ∙ sym (enter-next j))
        (put-bytes (new_of v j) (new-good t v w j h) u x.0 space (entered-bytes j (omega arith)))

    pub subdivided-bytes : Bytes (subdivided t v)
    unfolding subdivided
    subdivided-bytes = entered-bytes 6 (omega arith)

    restored : (j : ℕ) → j ≤ 6 → restored_to (renewed_to t₁ v j) v j ≡ t₁
    restored zero l = restore-none (renewed_to t₁ v 0) ∙ renew-none
    restored (suc j) l =
        let h : j < 6 = omega arith in
        let k' = back_of v.k j in
        let u = (old t v w j h).0 in
        let r = renewed t v w j (omega arith) in
        let small : k' < 12 = omega arith in
        let done : look_up (renewed_to t₁ v (suc j)) (adjacent_at v j) ≡ Some (update_of k' u) =
        (renewed t v w (suc j) l).done j (omega arith) u (old t v w j h).1 in
        let back : earlier_of k' (update_of k' u) ≡ u = earlier-update k' v.n.0 u small (of-true (old-valid j h)) (of-true (old t v w j h).2) in
        restore-next (renewed_to t₁ v (suc j)) j (update_of k' u) done
        ∙ ap (λ (x : Record). restored_to (replace_of (renewed_to t₁ v (suc j)) x) v j) back
        ∙ ap (λ (x : List ℕ). restored_to (replace_of x u) v j) (renew-put j h)
        ∙ ap (λ (x : List ℕ). restored_to x v j)
        (replace-back (renewed_to t₁ v j) r.order (renewed-bytes j (omega arith)) u (renewal t v w j h) (before j h) (renewal-at j h) (renewal-valid j h))
        ∙ restored j (omega arith)

    turn : v.k < 2
    turn = let x = (inner v (of-true (vertex-valid t v w)) (λ e. omega (arith, w.ready.six))).turn in rw w.ready.six at x

    -- every byte, in every table in order
    pub subdivide-undo : undone (subdivided t v) (centre_of v) ≡ t
    unfolding undone subdivided
    subdivide-undo =
        let e : former_of c ≡ v = former-centre v turn in
        let six : 6 ≤ 6 = omega arith in
        ap (λ (x : Record). replace_of (restored_to (unentered_to (entered_to t₂ c 6) c 6) x 6) x) e
        ∙ ap (λ (x : List ℕ). replace_of (restored_to x v 6) v) (left 6 six)
        ∙ ap (λ (x : List ℕ). replace_of x v) (restored 6 six)
        ∙ replace-back t o b v c w.ready.held refl (centre-good t v w)

-- ---- as the code goes
pub unentered-more : (t : List ℕ) (c : Record) (j : ℕ) → 0 < j → unentered_to (unenter_of t (adjacent_at c (j - 1))) c (j - 1) ≡ unentered_to t c j
unfolding unentered_to
unentered-more t c zero h = absurd (omega arith)
unentered-more t c (suc j) h = let e : suc j - 1 ≡ j = omega arith in ap (λ (i : ℕ). unentered_to (unenter_of t (adjacent_at c i)) c i) e

pub unentered-none : (t : List ℕ) (c : Record) (j : ℕ) → j ≡ 0 → t ≡ unentered_to t c j
unfolding unentered_to
unentered-none t c j e = rw e

pub unenter-table : (t : List ℕ) (p : Point) (n : ℕ) → Table t n → Table (unenter_of t p) n
unenter-table t p n w = go (find_of t p)
  where
    go : (x : Found) → Table (unenter_at t x) n
    go (found.At i) = table_same t (freed t i) n (freed-length t i) w
    go (found.Free i) = w
    go found.Full = w

pub restored-more : (t : List ℕ) (v : Record) (j : ℕ) → 0 < j → restored_to (restore_of t v (j - 1)) v (j - 1) ≡ restored_to t v j
unfolding restored_to
restored-more t v zero h = absurd (omega arith)
restored-more t v (suc j) h = let e : suc j - 1 ≡ j = omega arith in ap (λ (i : ℕ). restored_to (restore_of t v i) v i) e

pub restored-none : (t : List ℕ) (v : Record) (j : ℕ) → j ≡ 0 → t ≡ restored_to t v j
unfolding restored_to
restored-none t v j e = rw e

pub restore-table : (t : List ℕ) (v : Record) (j n : ℕ) → Table t n → Table (restore_of t v j) n
restore-table t v j n w = go (look_up t (adjacent_at v j))
  where
    go : (l : Option Record) → Table (restore_at t v j l) n
    go None = w
    go (Some r) = replace-table t (earlier_of (back_of v.k j) r) n w

-- by the slot where its search ended
abbrev pub earlier_held : List ℕ → ℕ → ℕ → Option Record → List ℕ
earlier_held t i k' None = t
earlier_held t i k' (Some w) = put_slot t i (earlier_of k' w)

abbrev pub earlier_slot : List ℕ → ℕ → ℕ → List ℕ
earlier_slot t i k' = earlier_held t i k' (slot_at t i)

module _ (t : List ℕ) (w : Table t (slots_of t)) (v : Record) (j : ℕ) where
  pub restore-at : (i : ℕ) → find_of t (adjacent_at v j) ≡ found.At i → earlier_slot t i (back_of v.k j) ≡ restore_of t v j
  restore-at i e =
      let x = at_held t w (adjacent_at v j) i e in
      let k' = back_of v.k j in
      ap (earlier_held t i k') x.holds
      ∙ put-replace t (earlier_of k' x.rec) i (ap (find_of t) (earlier-at k' x.rec ∙ x.point) ∙ e)
      ∙ ap (restore_at t v j) (sym x.looked)

  pub restore-absent : look_up t (adjacent_at v j) ≡ None → t ≡ restore_of t v j
  restore-absent e = ap (restore_at t v j) (sym e)

-- v before, as the code asks it
pub former-inner : (c : Record) → Inner c → c.d ≡ 6 → 0 < c.n.0 → Inner (former_of c)
former-inner c i six up =
    let p = i.parity in
    let l = i.level in
    record {
      normal = i.normal;
      depth = i.depth;
      wide = i.wide;
      high = i.high;
      low = i.low;
      top = i.top;
      turn = rw six (omega arith);
      level = omega arith;
      parity = other c.k c.n.0 up p;
    }
  where
    other : (k n : ℕ) → 0 < n → k % 2 ≡ n % 2 → (k + 1) % 2 % 2 ≡ (n - 1) % 2
    other k n l h = omega arith

pub undone-is : (t : List ℕ) (c : Record) → replace_of (restored_to (unentered_to t c 6) (former_of c) 6) (former_of c) ≡ undone t c
unfolding undone
undone-is t c = refl

pub replaced-at : (t : List ℕ) (r : Record) (x : Found) → find_of t r.at ≡ x → replace_at t r x ≡ replace_of t r
unfolding replace_of
replaced-at t r x e = ap (replace_at t r) (sym e)
