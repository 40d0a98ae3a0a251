-- What a subdivision does to a table in order: it stays in order, and each point's record is known.
-- The argument goes write by write. v's record is replaced; then each old adjacent vertex's, in turn: they are different points, and none is v, since
-- v's own degree has no rule; so each is still as it was when its turn comes, and its rule makes a valid record. Then the new ones enter: they were
-- absent, they are different points, and six slots were free.
-- `Ready` a vertex that may be subdivided · `Intact` one whose subdivision is not torn and has room · `subdivided-order`, `subdivided-free` ·
-- `subdivided-centre`, `subdivided-new`, `subdivided-old`, `subdivided-rest` the records after · `renewed`, `entered` the same after some of the
-- writes.
-- Assumes nothing.
use Rattle.std.specs.Prelude.{◌≡◌, true, false, ◌&&◌, List, ℕ, suc, ◌+◌, ◌≤◌, ◌<◌, zero, eqb, T, Option, Some, None}
use Rattle.std.proofs.Math.Path.{refl, ap}
use Rattle.std.proofs.Common.{sym, ◌∙◌, subst}
use native.Mathlib.Omega.{arith}
use Rattle.std.proofs.Math.Decide.{ℕ_discrete}
use Rattle.laws.specs.Each.{not-both, and-false}
use Rattle.lattice.specs.Stars.{adjacent_at}
use Rattle.lattice.specs.Subdivision.{centre_of, new_of, back_of, update_of, accepts_of}
use Rattle.geometry.specs.GeometryLaws.{star-distinct}
use Rattle.lattice.specs.Records.{valid_of}
use Rattle.geometry.specs.SubdivisionLaws.{Sited, sited, centre-valid, update-valid, new-valid, update-at}
use Rattle.table.specs.Entries.{look_up, replace_of, enter_of}
use Rattle.table.specs.MapLaws.{lookup-point, lookup-valid, replace-order, replace-finds, replace-keeps, replace-free, enter-order, enter-finds}
use Rattle.table.specs.MapLaws.{enter-keeps, enter-free, replace-find}
use Rattle.table.specs.Search.{find_of}
use Rattle.table.specs.Order.{InOrder}
use Rattle.table.specs.Slots.{free_slots}
use Rattle.lattice.specs.declared.points.Point.{Point}
use Rattle.lattice.specs.declared.records.Record.{Record}
use Rattle.laws.specs.Choices.{is_true, of-true}
use Rattle.mesh.specs.Subdivide.{fits_at, adjacent_fits, renew_at, renewed_to, entered_to, subdivided}

pub record Ready (t : List ℕ) (v : Record) : Type 0 where
  pub order : InOrder t
  pub held : look_up t v.at ≡ Some v
  pub six : v.d ≡ 6
  pub below : v.n.0 < 12

pub record Intact (t : List ℕ) (v : Record) : Type 0 where
  pub ready : Ready t v
  pub fits : (j : ℕ) → j < 6 → adjacent_fits t v j ≡ true
  pub fresh : (j : ℕ) → j < 6 → look_up t (new_of v j).at ≡ None
  pub room : 6 ≤ free_slots t

-- ---- records
-- no rule takes a vertex of degree 6 on
six-torn : (k' n : ℕ) (u : Record) → u.d ≡ 6 → accepts_of k' n u ≡ true → ⊥
unfolding accepts_of
six-torn k' n u six h = let z : eqb u.n.0 n && false ≡ true = rw six at h in not-both z (and-false (eqb u.n.0 n))

-- ---- what is looked up at an old place that fits
held_same : {a b : Record} → Some a ≡ Some b → a ≡ b
held_same {a} {b} e = cc

held_fits : (v : Record) (j : ℕ) (l : Option Record) → fits_at v j l ≡ true → (u : Record) × (l ≡ Some u) × (accepts_of (back_of v.k j) v.n.0 u ≡ true)
held_fits v j None h = absurd (not-both h refl)
held_fits v j (Some u) h = (u, refl, h)

module _ (t : List ℕ) (v : Record) (w : Intact t v) where
  abbrev o : InOrder t
  o = w.ready.order

  pub vertex-valid : valid_of v ≡ true
  vertex-valid = lookup-valid t o v.at v w.ready.held

  sound : T (valid_of v)
  sound = of-true vertex-valid

  -- the old adjacent vertex at place j
  pub old : (j : ℕ) → j < 6 → (u : Record) × (look_up t (adjacent_at v j) ≡ Some u) × (accepts_of (back_of v.k j) v.n.0 u ≡ true)
  old j h = held_fits v j (look_up t (adjacent_at v j)) (w.fits j h)

  old-point : (j : ℕ) (h : j < 6) → (old j h).0.at ≡ adjacent_at v j
  old-point j h = lookup-point t o (adjacent_at v j) (old j h).0 (old j h).1

  old-valid : (j : ℕ) (h : j < 6) → valid_of (old j h).0 ≡ true
  old-valid j h = lookup-valid t o (adjacent_at v j) (old j h).0 (old j h).1

  -- and what becomes of it
  abbrev pub renewal : (j : ℕ) → j < 6 → Record
  renewal j h = update_of (back_of v.k j) (old j h).0

  renewal-at : (j : ℕ) (h : j < 6) → (renewal j h).at ≡ adjacent_at v j
  renewal-at j h = update-at (back_of v.k j) (old j h).0 ∙ old-point j h

  renewal-valid : (j : ℕ) (h : j < 6) → valid_of (renewal j h) ≡ true
  renewal-valid j h =
      is_true (valid_of (renewal j h)) (update-valid (back_of v.k j) v.n.0 (old j h).0 w.ready.below (of-true (old-valid j h)) (of-true (old j h).2))

  pub centre-good : valid_of (centre_of v) ≡ true
  centre-good = is_true (valid_of (centre_of v)) (centre-valid v sound w.ready.six w.ready.below)

  old-sited : (j : ℕ) → j < 6 → Sited (adjacent_at v j)
  old-sited j h = subst Sited (old-point j h) (sited (old j h).0 (of-true (old-valid j h)))

  pub new-good : (j : ℕ) → j < 6 → valid_of (new_of v j) ≡ true
  new-good j h = is_true (valid_of (new_of v j)) (new-valid v sound w.ready.six w.ready.below j h old-sited)

  -- ---- different points
  adjacent-centre : (j : ℕ) → j < 6 → adjacent_at v j ≡ v.at → ⊥
  adjacent-centre j h e =
      let (u, l, a) = old j h in
      let x : u ≡ v = held_same (sym l ∙ ap (look_up t) e ∙ w.ready.held) in
      six-torn (back_of v.k j) v.n.0 v w.ready.six (subst (λ (r : Record). accepts_of (back_of v.k j) v.n.0 r ≡ true) x a)

  adjacent-apart : (i j : ℕ) → i < 6 → j < 6 → (i ≡ j → ⊥) → adjacent_at v i ≡ adjacent_at v j → ⊥
  adjacent-apart i j hi hj n e =
      let s = w.ready.six in
      n (star-distinct v i j (omega arith) (omega arith) (omega arith) (omega arith) e)

  new_apart : (i j : ℕ) → i < 6 → j < 6 → (i ≡ j → ⊥) → (new_of v i).at ≡ (new_of v j).at → ⊥
  new_apart i j hi hj n e =
      let s = w.ready.six in
      n (star-distinct (centre_of v) i j (omega arith) (omega arith) (omega arith) (omega arith) e)

  -- ---- v's record replaced
  abbrev pub t₁ : List ℕ
  t₁ = replace_of t (centre_of v)

  pub centred-order : InOrder t₁
  centred-order = replace-order t o (centre_of v) centre-good

  -- ---- the old adjacent vertices, the first j
  pub record Renewed (j : ℕ) : Type 0 where
    pub order : InOrder (renewed_to t₁ v j)
    pub later : (i : ℕ) → j ≤ i → i < 6 → look_up (renewed_to t₁ v j) (adjacent_at v i) ≡ look_up t (adjacent_at v i)
    pub done : (i : ℕ) → i < j → (u : Record) → look_up t (adjacent_at v i) ≡ Some u
        → look_up (renewed_to t₁ v j) (adjacent_at v i) ≡ Some (update_of (back_of v.k i) u)
    pub rest : (p : Point) → ((i : ℕ) → i < j → p ≡ adjacent_at v i → ⊥) → look_up (renewed_to t₁ v j) p ≡ look_up t₁ p
    pub free : free_slots (renewed_to t₁ v j) ≡ free_slots t
    pub find : (p : Point) → find_of (renewed_to t₁ v j) p ≡ find_of t p

  -- one more: it is the record put in place
  renew-put : (j : ℕ) (h : j < 6) → Renewed j → renewed_to t₁ v (suc j) ≡ replace_of (renewed_to t₁ v j) (renewal j h)
  unfolding renewed_to
  renew-put j h r = let n : j ≤ j = omega arith in ap (renew_at (renewed_to t₁ v j) v j) (r.later j n h ∙ (old j h).1)

  renew-none : renewed_to t₁ v 0 ≡ t₁
  unfolding renewed_to
  renew-none = refl

  start : Renewed 0
  start =
      record {
        order = subst InOrder (sym renew-none) centred-order;
        later =
            λ i l h. ap (λ (u : List ℕ). look_up u (adjacent_at v i)) renew-none
            ∙ replace-keeps t o (centre_of v) centre-good (adjacent_at v i) (adjacent-centre i h);
        done = λ i l u q. absurd (omega arith);
        rest = λ p f. ap (λ (u : List ℕ). look_up u p) renew-none;
        free = ap free_slots renew-none ∙ replace-free t o (centre_of v) centre-good;
        find = λ p. ap (λ (u : List ℕ). find_of u p) renew-none ∙ replace-find t o (centre_of v) centre-good p;
      }

  more : (j : ℕ) → j < 6 → Renewed j → Renewed (suc j)
  more j h r =
      let u = renewed_to t₁ v j in
      let x = renewal j h in
      let g = renewal-valid j h in
      let e = renew-put j h r in
      let n : j ≤ j = omega arith in
      let was : look_up u x.at ≡ Some (old j h).0 = ap (look_up u) (renewal-at j h) ∙ r.later j n h ∙ (old j h).1 in
      let kept : (p : Point) → (p ≡ adjacent_at v j → ⊥) → look_up (renewed_to t₁ v (suc j)) p ≡ look_up u p =
      λ p f. ap (λ (s : List ℕ). look_up s p) e ∙ replace-keeps u r.order x g p (λ q. f (q ∙ renewal-at j h)) in
      record {
        order = subst InOrder (sym e) (replace-order u r.order x g);
        later = λ i l k. kept (adjacent_at v i) (adjacent-apart i j k h (omega arith)) ∙ r.later i (omega arith) k;
        done = λ i l y q. finished i l y q (ℕ_discrete i j) kept;
        rest = λ p f. kept p (f j (omega arith)) ∙ r.rest p (λ i l. f i (omega arith));
        free = ap free_slots e ∙ replace-free u r.order x g ∙ r.free;
        find = λ p. ap (λ (s : List ℕ). find_of s p) e ∙ replace-find u r.order x g p ∙ r.find p;
      }
    where
      this : (y : Record) → look_up t (adjacent_at v j) ≡ Some y → look_up (renewed_to t₁ v (suc j)) (adjacent_at v j) ≡ Some (update_of (back_of v.k j) y)
      this y q =
          let u = renewed_to t₁ v j in
          let x = renewal j h in
          let n : j ≤ j = omega arith in
          let same : (old j h).0 ≡ y = held_same (sym (old j h).1 ∙ q) in
          ap (λ (s : List ℕ). look_up s (adjacent_at v j)) (renew-put j h r)
          ∙ ap (look_up (replace_of u x)) (sym (renewal-at j h))
          ∙ replace-finds u r.order x (renewal-valid j h) (old j h).0 (ap (look_up u) (renewal-at j h) ∙ r.later j n h ∙ (old j h).1)
          ∙ ap (λ (z : Record). Some (update_of (back_of v.k j) z)) same

      finished : (i : ℕ) → i < suc j → (y : Record) → look_up t (adjacent_at v i) ≡ Some y → Dec (i ≡ j)
          → ((p : Point) → (p ≡ adjacent_at v j → ⊥) → look_up (renewed_to t₁ v (suc j)) p ≡ look_up (renewed_to t₁ v j) p)
          → look_up (renewed_to t₁ v (suc j)) (adjacent_at v i) ≡ Some (update_of (back_of v.k i) y)
      finished i l y q (yes e) kept =
          subst (λ (m : ℕ). (y : Record) → look_up t (adjacent_at v m) ≡ Some y
          → look_up (renewed_to t₁ v (suc j)) (adjacent_at v m) ≡ Some (update_of (back_of v.k m) y)) (sym e) this y q
      finished i l y q (no n) kept = kept (adjacent_at v i) (adjacent-apart i j (omega arith) h n) ∙ r.done i (omega arith) y q

  pub renewed : (j : ℕ) → j ≤ 6 → Renewed j
  renewed zero l = start
  renewed (suc j) l = more j (omega arith) (renewed j (omega arith))

  -- ---- the new vertices, the first j
  abbrev pub t₂ : List ℕ
  t₂ = renewed_to t₁ v 6

  -- a new point is none of the old
  new-old : (j : ℕ) → j < 6 → (p : Point) (u : Record) → look_up t p ≡ Some u → (new_of v j).at ≡ p → ⊥
  new-old j h p u l e = let x : None ≡ Some u = sym (w.fresh j h) ∙ ap (look_up t) e ∙ l in let z : ◌≡◌ {A = ℕ} 0 1 = cc in omega arith

  new-absent : (j : ℕ) → j < 6 → look_up t₂ (new_of v j).at ≡ None
  new-absent j h =
      let r = renewed 6 (omega arith) in
      r.rest (new_of v j).at (λ i l e. new-old j h (adjacent_at v i) (old i l).0 (old i l).1 e)
      ∙ replace-keeps t o (centre_of v) centre-good (new_of v j).at (λ e. new-old j h v.at v w.ready.held e)
      ∙ w.fresh j h

  pub record Entered (j : ℕ) : Type 0 where
    pub order : InOrder (entered_to t₂ (centre_of v) j)
    pub later : (i : ℕ) → j ≤ i → i < 6 → look_up (entered_to t₂ (centre_of v) j) (new_of v i).at ≡ None
    pub done : (i : ℕ) → i < j → look_up (entered_to t₂ (centre_of v) j) (new_of v i).at ≡ Some (new_of v i)
    pub rest : (p : Point) → ((i : ℕ) → i < j → p ≡ (new_of v i).at → ⊥) → look_up (entered_to t₂ (centre_of v) j) p ≡ look_up t₂ p
    pub free : free_slots (entered_to t₂ (centre_of v) j) + j ≡ free_slots t

  enter-next : (j : ℕ) → entered_to t₂ (centre_of v) (suc j) ≡ enter_of (entered_to t₂ (centre_of v) j) (new_of v j)
  unfolding entered_to
  enter-next j = refl

  enter-none : entered_to t₂ (centre_of v) 0 ≡ t₂
  unfolding entered_to
  enter-none = refl

  begin : Entered 0
  begin =
      let r = renewed 6 (omega arith) in
      record {
        order = subst InOrder (sym enter-none) r.order;
        later = λ i l h. ap (λ (u : List ℕ). look_up u (new_of v i).at) enter-none ∙ new-absent i h;
        done = λ i l. absurd (omega arith);
        rest = λ p f. ap (λ (u : List ℕ). look_up u p) enter-none;
        free = omega (arith, r.free, ap free_slots enter-none);
      }

  again : (j : ℕ) → j < 6 → Entered j → Entered (suc j)
  again j h r =
      let u = entered_to t₂ (centre_of v) j in
      let g = new-good j h in
      let e = enter-next j in
      let n : j ≤ j = omega arith in
      let room : 0 < free_slots u = omega (arith, r.free, w.room) in
      let gone = r.later j n h in
      let kept : (p : Point) → (p ≡ (new_of v j).at → ⊥) → look_up (entered_to t₂ (centre_of v) (suc j)) p ≡ look_up u p =
      λ p f. ap (λ (s : List ℕ). look_up s p) e ∙ enter-keeps u r.order (new_of v j) g p f in
      record {
        order = subst InOrder (sym e) (enter-order u r.order (new_of v j) g);
        later = λ i l k. kept (new_of v i).at (new_apart i j k h (omega arith)) ∙ r.later i (omega arith) k;
        done = λ i l. finished i l (ℕ_discrete i j) kept (ap (λ (s : List ℕ). look_up s (new_of v j).at) e ∙ enter-finds u r.order (new_of v j) g gone room);
        rest = λ p f. kept p (f j (omega arith)) ∙ r.rest p (λ i l. f i (omega arith));
        free = omega (arith, ap free_slots e, enter-free u r.order (new_of v j) g gone room, r.free);
      }
    where
      finished : (i : ℕ) → i < suc j → Dec (i ≡ j)
          → ((p : Point) → (p ≡ (new_of v j).at → ⊥) → look_up (entered_to t₂ (centre_of v) (suc j)) p ≡ look_up (entered_to t₂ (centre_of v) j) p)
          → look_up (entered_to t₂ (centre_of v) (suc j)) (new_of v j).at ≡ Some (new_of v j)
          → look_up (entered_to t₂ (centre_of v) (suc j)) (new_of v i).at ≡ Some (new_of v i)
      finished i l (yes e) kept this = subst (λ (m : ℕ). look_up (entered_to t₂ (centre_of v) (suc j)) (new_of v m).at ≡ Some (new_of v m)) (sym e) this
      finished i l (no n) kept this = kept (new_of v i).at (new_apart i j (omega arith) h n) ∙ r.done i (omega arith)

  pub entered : (j : ℕ) → j ≤ 6 → Entered j
  entered zero l = begin
  entered (suc j) l = again j (omega arith) (entered j (omega arith))

  -- ---- all of it
  whole : subdivided t v ≡ entered_to t₂ (centre_of v) 6
  unfolding subdivided
  whole = refl

  at-end : (p : Point) → look_up (subdivided t v) p ≡ look_up (entered_to t₂ (centre_of v) 6) p
  at-end p = ap (λ (u : List ℕ). look_up u p) whole

  pub subdivided-order : InOrder (subdivided t v)
  subdivided-order = subst InOrder (sym whole) (entered 6 (omega arith)).order

  pub subdivided-free : free_slots (subdivided t v) + 6 ≡ free_slots t
  subdivided-free = omega (arith, ap free_slots whole, (entered 6 (omega arith)).free)

  -- an old point is as it was before the new ones entered
  before-new : (p : Point) (u : Record) → look_up t p ≡ Some u → look_up (subdivided t v) p ≡ look_up t₂ p
  before-new p u l = at-end p ∙ (entered 6 (omega arith)).rest p (λ i h e. new-old i h p u l (sym e))

  pub subdivided-centre : look_up (subdivided t v) v.at ≡ Some (centre_of v)
  subdivided-centre =
      before-new v.at v w.ready.held
      ∙ (renewed 6 (omega arith)).rest v.at (λ i h e. adjacent-centre i h (sym e))
      ∙ replace-finds t o (centre_of v) centre-good v w.ready.held

  pub subdivided-new : (j : ℕ) → j < 6 → look_up (subdivided t v) (new_of v j).at ≡ Some (new_of v j)
  subdivided-new j h = at-end (new_of v j).at ∙ (entered 6 (omega arith)).done j h

  pub subdivided-old : (j : ℕ) → j < 6 → (u : Record) → look_up t (adjacent_at v j) ≡ Some u
      → look_up (subdivided t v) (adjacent_at v j) ≡ Some (update_of (back_of v.k j) u)
  subdivided-old j h u l = before-new (adjacent_at v j) u l ∙ (renewed 6 (omega arith)).done j h u l

  pub subdivided-rest : (p : Point) → (p ≡ v.at → ⊥) → ((j : ℕ) → j < 6 → p ≡ (new_of v j).at → ⊥) → ((j : ℕ) → j < 6 → p ≡ adjacent_at v j → ⊥)
      → look_up (subdivided t v) p ≡ look_up t p
  subdivided-rest p c n a =
      at-end p
      ∙ (entered 6 (omega arith)).rest p n
      ∙ (renewed 6 (omega arith)).rest p a
      ∙ replace-keeps t o (centre_of v) centre-good p c
