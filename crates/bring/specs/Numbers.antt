-- The numbers that come from within, of every table in order, torn ones too: 0, 7, 8, 16 and no other; 4 and 5 never. And a table in order stays
-- in order.
-- Why no 5: a vertex that is brought has a level below the one wanted, and the chain at level n leaves no vertex above level n + 1 that was not there
-- before (`Keeps`). Why no 4: it is subdivided only where it has degree 6.
-- `ChainNumber` the numbers from within · `Fine` a step of the chain · `bring-fine` · `vertex-told`, `request-order` the request.
-- Assumes nothing.
use Rattle.std.specs.Prelude.{◌≡◌, refl, ◌≢◌, Bool, true, false, cond, ◌&&◌, ℕ, zero, suc, ◌+◌, ◌%◌, ◌≤◌, ◌<◌, eqb, ℤ, Option, Some, None}
use Rattle.std.proofs.Common.{sym, ◌∙◌, ap, subst, arith, ne_eqb, eqb-true}
use mathlib.Core.List.{List, [], ◌∷◌}
use Rattle.std.proofs.Math.Decide.{ℕ_discrete, dec_lt}
use Rattle.laws.specs.Rules.{upto}
use Rattle.laws.specs.Bools.{and_left}
use Rattle.laws.specs.Choices.{of-true, is_true}
use Rattle.lattice.specs.Points.{normal_of}
use Rattle.lattice.specs.Stars.{adjacent_at}
use Rattle.lattice.specs.Subdivision.{centre_of, new_of, back_of, four_turn, update_of, accepts_of, has_rule}
use Rattle.lattice.specs.RecordLaws.{valid-level}
use Rattle.lattice.specs.declared.points.Point.{Point}
use Rattle.lattice.specs.declared.records.Record.{Record}
use Rattle.growth.specs.Normal.{point?}
use Rattle.growth.specs.GrownLaws.{among}
use Rattle.table.specs.Entries.{look_up}
use Rattle.table.specs.Order.{InOrder, in_order_of}
use Rattle.table.specs.Slots.{free_slots}
use Rattle.table.specs.MapLaws.{lookup-valid, order-test}
use Rattle.mesh.specs.Subdivide.{adjacent_fits, new_fits, MeshAfter, mesh_after, subdivided, subdivide_vertex}
use Rattle.mesh.specs.SubdivideLaws.{Ready, Intact, old, subdivided-order, subdivided-centre, subdivided-old, subdivided-rest}
use Rattle.mesh.specs.WriteLaws.{Standing}
use Rattle.mesh.specs.CallLaws.{standing-ready, ready-whole, vertex-7-old, vertex-7-new, vertex-8, vertex-0}
use Rattle.bring.specs.Bring.{places_of, each_of, raised_at, near_of, is_six, ends_at, bring_of, bring_vertex, request_of}
use Rattle.mesh.specs.Subdivide.{and_then, all_or}
use Rattle.mesh.specs.CallLaws.{looked-standing}
use Rattle.bring.specs.ChainLaws.{near-absent, near-rim, near-six, near-other, near-far, near-lower, bring-is}
use Rattle.mesh.specs.StepLaws.{held_same, then-on, then-stop, all_made, all_back}
use Rattle.bring.specs.CallLaws.{vertex-14, vertex-5, vertex-on, request-3, request-on}
use Rattle.bring.specs.CallLaws as call

-- the numbers from within
pub data ChainNumber (x : ℕ) : Type 0 where
  made : x ≡ 0 → ChainNumber x
  torn : x ≡ 7 → ChainNumber x
  few : x ≡ 8 → ChainNumber x
  rim : x ≡ 16 → ChainNumber x

-- what stood in t stands in t', and its level is what it was at most, or i + 1 at most
abbrev pub Keeps : ℕ → List ℕ → List ℕ → Type 0
Keeps i t t' = (p : Point) (u : Record) → look_up t p ≡ Some u → (w : Record) × (look_up t' p ≡ Some w) × ((m : ℕ) → u.n.0 ≤ m → suc i ≤ m → w.n.0 ≤ m)

keeps-refl : (i : ℕ) (t : List ℕ) → Keeps i t t
keeps-refl i t p u e = (u, e, λ m a b. a)

keeps_on : (i : ℕ) (t s r : List ℕ) → Keeps i t s → Keeps i s r → Keeps i t r
keeps_on i t s r k l p u e =
    let (w, f, h) = k p u e in
    let (x, g, j) = l p w f in
    (x, g, λ m a b. j m (h m a b) b)

keeps-up : (i n : ℕ) (t s : List ℕ) → i ≤ n → Keeps i t s → Keeps n t s
keeps-up i n t s l k p u e = let (w, f, h) = k p u e in (w, f, λ m a b. h m a (omega arith))

-- ---- one subdivision
update-level : (k : ℕ) (u : Record) → (update_of k u).n.0 ≤ u.n.0 + 1
unfolding update_of
update-level k u = go (eqb u.d 3) (eqb u.d 4) (eqb u.d 5)
  where
    go : (a b c : Bool) →
        (cond a (record { at = u.at; d = 4; k = (k + 4) % 12; n = u.n })
        (cond b (record { at = u.at; d = 5; k = four_turn k u.k; n = u.n })
        (cond c (record { at = u.at; d = 6; k = (k + 1) % 2; n = record { 0 = u.n.0 + 1 } })
        u))).n.0 ≤ u.n.0 + 1
    go true b c = omega arith
    go false true c = omega arith
    go false false true = omega arith
    go false false false = omega arith

update-rim : (k : ℕ) (u : Record) → u.d ≡ 0 → update_of k u ≡ u
unfolding update_of
update-rim k u z = rw z

-- what is accepted is on the rim, or has the level n
accepted-level : (k n : ℕ) (u : Record) → accepts_of k n u ≡ true → u.d ≢ 0 → u.n.0 ≡ n
unfolding accepts_of
accepted-level k n u h d =
    let z : (eqb u.n.0 n && has_rule k u.d u.k) ≡ true =
    sym (ap (λ (b : Bool). cond b true (eqb u.n.0 n && has_rule k u.d u.k)) (ne_eqb u.d 0 d)) ∙ h in
    eqb-true u.n.0 n (is_true (eqb u.n.0 n) (and_left (eqb u.n.0 n) (has_rule k u.d u.k) (of-true z)))

gone : {A : Type 0} (r : Record) → Some r ≡ None → A
gone r e = absurd (let z : ◌≡◌ {A = ℕ} 0 1 = cc in omega arith)

abbrev Kept : List ℕ → Record → Point → Record → Type 0
Kept t v p u = (x : Record) × (look_up (subdivided t v) p ≡ Some x) × ((m : ℕ) → u.n.0 ≤ m → suc v.n.0 ≤ m → x.n.0 ≤ m)

module _ (t : List ℕ) (v : Record) (w : Intact t v) where
  divided-keeps : Keeps v.n.0 t (subdivided t v)
  divided-keeps p u e = at-centre (point? p v.at)
    where
      at_old : p ≢ v.at → ((j : ℕ) → j < 6 → p ≢ (new_of v j).at) → Dec ((j : ℕ) × (j < 6) × (p ≡ adjacent_at v j)) → Kept t v p u
      at_old c n (no a) = (u, subdivided-rest t v w p c n (λ j h z. a (j, h, z)) ∙ e, λ m x y. x)
      at_old c n (yes (j, h, z)) =
          (update_of (back_of v.k j) u, ap (look_up (subdivided t v)) z ∙ subdivided-old t v w j h u l, λ m x y. bound m x y (ℕ_discrete u.d 0))
        where
          l : look_up t (adjacent_at v j) ≡ Some u
          l = ap (look_up t) (sym z) ∙ e

          fits : accepts_of (back_of v.k j) v.n.0 u ≡ true
          fits = let (x, f, a) = old t v w j h in subst (λ (r : Record). accepts_of (back_of v.k j) v.n.0 r ≡ true) (held_same (sym f ∙ l)) a

          bound : (m : ℕ) → u.n.0 ≤ m → suc v.n.0 ≤ m → Dec (u.d ≡ 0) → (update_of (back_of v.k j) u).n.0 ≤ m
          bound m x y (yes d) = let q = ap (λ (r : Record). r.n.0) (update-rim (back_of v.k j) u d) in omega arith
          bound m x y (no d) = let q = accepted-level (back_of v.k j) v.n.0 u fits d in let s = update-level (back_of v.k j) u in omega arith

      at_new : p ≢ v.at → Dec ((j : ℕ) × (j < 6) × (p ≡ (new_of v j).at)) → Kept t v p u
      at_new c (yes (j, h, z)) = gone u (sym e ∙ ap (look_up t) z ∙ w.fresh j h)
      at_new c (no a) = at_old c (λ j h z. a (j, h, z)) (among (adjacent_at v) p 6)

      at-centre : Dec (p ≡ v.at) → Kept t v p u
      at-centre (yes z) = (centre_of v, ap (look_up (subdivided t v)) z ∙ subdivided-centre t v w, λ m x y. omega arith)
      at-centre (no c) = at_new c (among (λ j. (new_of v j).at) p 6)

-- ---- a step of the chain
pub record Fine (i : ℕ) (t : List ℕ) (o : MeshAfter) : Type 0 where
  pub told : ChainNumber o.number
  pub order : InOrder o.bytes
  pub keeps : Keeps i t o.bytes

fine-same : {i : ℕ} {t : List ℕ} {o p : MeshAfter} → o ≡ p → Fine i t o → Fine i t p
fine-same {i} {t} e f = subst (Fine i t) e f

fine-here : (i : ℕ) (t : List ℕ) → InOrder t → (x : ℕ) → ChainNumber x → Fine i t (mesh_after x t)
fine-here i t o x h = record { told = h; order = o; keeps = keeps-refl i t }

fine_up : {i : ℕ} (n : ℕ) {t : List ℕ} {o : MeshAfter} → i ≤ n → Fine i t o → Fine n t o
fine_up {i} n {t} {o} l f = record { told = f.told; order = f.order; keeps = keeps-up i n t o.bytes l f.keeps }

fine-then : (i : ℕ) (t : List ℕ) (o : MeshAfter) (f : List ℕ → MeshAfter) → Fine i t o → (o.number ≡ 0 → Fine i o.bytes (f o.bytes))
    → Fine i t (and_then o f)
fine-then i t o f g k = go (ℕ_discrete o.number 0)
  where
    go : Dec (o.number ≡ 0) → Fine i t (and_then o f)
    go (yes z) =
        let h = k z in
        fine-same (then-on o f z) (record { told = h.told; order = h.order; keeps = keeps_on i t o.bytes (f o.bytes).bytes g.keeps h.keeps })
    go (no n) = fine-same (then-stop o f n) g

vertex-fine : (t : List ℕ) (v : Record) → Standing t v → v.d ≡ 6 → v.n.0 < 12 → Fine v.n.0 t (subdivide_vertex t v)
vertex-fine t v s six low = tested (upto 6 (adjacent_fits t v)) refl (upto 6 (new_fits t v)) refl (dec_lt (free_slots t) 6)
  where
    top : v.n.0 ≡ 12 → ⊥
    top z = omega arith

    r : Ready t v
    r = standing-ready t v s six top

    tested : (a : Bool) → upto 6 (adjacent_fits t v) ≡ a → (b : Bool) → upto 6 (new_fits t v) ≡ b → Dec (free_slots t < 6) → Fine v.n.0 t (subdivide_vertex t v)
    tested false x b y f = fine-same (vertex-7-old t v six top x) (fine-here v.n.0 t s.order 7 (torn refl))
    tested true x false y f = fine-same (vertex-7-new t v six top x y) (fine-here v.n.0 t s.order 7 (torn refl))
    tested true x true y (yes f) = fine-same (vertex-8 t v six top x y f) (fine-here v.n.0 t s.order 8 (few refl))
    tested true x true y (no f) =
        let room : 6 ≤ free_slots t = omega arith in
        let w = ready-whole t v r x y room in
        fine-same (vertex-0 t v six top x y room) (record { told = made refl; order = subdivided-order t v w; keeps = divided-keeps t v w })

-- a vertex of level i is brought: it ends at degree 6 where the answer is 0
abbrev pub Bring : ℕ → Type 0
Bring i =
    (t : List ℕ) → InOrder t → (v : Record) → Fine i t (bring_of i t v) × ((bring_of i t v).number ≡ 0 → is_six (look_up (bring_of i t v).bytes v.at) ≡ true)

six-held : (l : Option Record) (u : Record) → l ≡ Some u → is_six l ≡ true → u.d ≡ 6
six-held l u e h = eqb-true u.d 6 (ap is_six (sym e) ∙ h)

module _ (n : ℕ) (low : n < 12) (ih : (i : ℕ) → n ≡ suc i → Bring i) (t : List ℕ) (o : InOrder t) (p : Point) where
  near-vertex : (u : Record) → look_up t p ≡ Some u → Dec (u.d ≡ 0) → Dec (u.d ≡ 6) → Dec (u.n.0 ≡ n) → Dec (u.n.0 + 1 ≡ n) → Fine n t (near_of n t p)
  near-vertex u e (yes d) s l k = fine-same (near-rim n t p u e d) (fine-here n t o 16 (rim refl))
  near-vertex u e (no d) (yes s) (yes l) k =
      fine-same (near-six n t p u e d s l) (fine_up n (omega arith) (vertex-fine t u (looked-standing t o p u e) s (omega arith)))
  near-vertex u e (no d) (yes s) (no l) k = fine-same (near-other n t p u e d s l) (fine-here n t o 7 (torn refl))
  near-vertex u e (no d) (no s) l (no k) = fine-same (near-far n t p u e d s k) (fine-here n t o 7 (torn refl))
  near-vertex u e (no d) (no s) l (yes k) =
      let (f, six) = ih u.n.0 (omega arith) t o u in
      fine-same (near-lower n t p u e d s k)
      (fine-then n t (bring_of u.n.0 t u) (λ x. raised_at x (look_up x u.at)) (fine_up n (omega arith) f)
      (λ z. raised (bring_of u.n.0 t u) f (six z)))
    where
      raised : (x : MeshAfter) → Fine u.n.0 t x → is_six (look_up x.bytes u.at) ≡ true
          → Fine n x.bytes (raised_at x.bytes (look_up x.bytes u.at))
      raised x f six =
          let own : look_up t u.at ≡ Some u = (looked-standing t o p u e).held in
          let (w, g, h) = f.keeps u.at u own in
          let lv : w.n.0 ≤ n = h n (omega arith) (omega arith) in
          let d6 : w.d ≡ 6 = six-held (look_up x.bytes u.at) w g six in
          fine-same (ap (raised_at x.bytes) (sym g))
          (fine_up n lv (vertex-fine x.bytes w (looked-standing x.bytes f.order u.at w g) d6 (omega arith)))

  near-fine : Fine n t (near_of n t p)
  near-fine = go (look_up t p) refl
    where
      go : (l : Option Record) → look_up t p ≡ l → Fine n t (near_of n t p)
      go None e = fine-same (near-absent n t p e) (fine-here n t o 7 (torn refl))
      go (Some u) e = near-vertex u e (ℕ_discrete u.d 0) (ℕ_discrete u.d 6) (ℕ_discrete u.n.0 n) (ℕ_discrete (u.n.0 + 1) n)

module _ (n : ℕ) (low : n < 12) (ih : (i : ℕ) → n ≡ suc i → Bring i) where
  each-fine : (v : Record) (js : List ℕ) (t : List ℕ) → InOrder t → Fine n t (each_of (near_of n) v t js)
  unfolding each_of
  each-fine v [] t o = fine-here n t o 0 (made refl)
  each-fine v (j ∷ js) t o = go (λ s h. each-fine v js s h)
    where
      go : ((s : List ℕ) → InOrder s → Fine n s (each_of (near_of n) v s js)) → Fine n t (and_then (near_of n t (adjacent_at v j)) (λ s. each_of (near_of n) v s js))
      go k =
          let f = near-fine n low ih t o (adjacent_at v j) in
          fine-then n t (near_of n t (adjacent_at v j)) (λ s. each_of (near_of n) v s js) f (λ z. k (near_of n t (adjacent_at v j)).bytes f.order)

  bring-step : Bring n
  bring-step t o v =
      let f = each-fine v (places_of v.d) t o in
      let e = each_of (near_of n) v t (places_of v.d) in (
        fine-same (bring-is n t v)
            (fine-then n t e (λ s. ends_at s (look_up s v.at)) f (λ z. end e.bytes f.order (is_six (look_up e.bytes v.at)) refl)),
        λ z. last e
            (bring-is n t v) (ℕ_discrete e.number 0) z,
      )
    where
      end : (s : List ℕ) → InOrder s → (b : Bool) → is_six (look_up s v.at) ≡ b → Fine n s (cond (is_six (look_up s v.at)) (mesh_after 0 s) (mesh_after 7 s))
      end s h true x = fine-same (ap (λ (b : Bool). cond b (mesh_after 0 s) (mesh_after 7 s)) (sym x)) (fine-here n s h 0 (made refl))
      end s h false x = fine-same (ap (λ (b : Bool). cond b (mesh_after 0 s) (mesh_after 7 s)) (sym x)) (fine-here n s h 7 (torn refl))

      last : (e : MeshAfter) → and_then e (λ s. ends_at s (look_up s v.at)) ≡ bring_of n t v → Dec (e.number ≡ 0) → (bring_of n t v).number ≡ 0
          → is_six (look_up (bring_of n t v).bytes v.at) ≡ true
      last e q (no d) z = absurd (d (ap (λ (x : MeshAfter). x.number) (then-stop e (λ s. ends_at s (look_up s v.at)) d ∙ q) ∙ z))
      last e q (yes d) z = by (is_six (look_up e.bytes v.at)) refl
        where
          is : ends_at e.bytes (look_up e.bytes v.at) ≡ bring_of n t v
          is = then-on e (λ s. ends_at s (look_up s v.at)) d ∙ q

          ends : (b : Bool) → is_six (look_up e.bytes v.at) ≡ b → cond b (mesh_after 0 e.bytes) (mesh_after 7 e.bytes) ≡ bring_of n t v
          ends b h = ap (λ (x : Bool). cond x (mesh_after 0 e.bytes) (mesh_after 7 e.bytes)) (sym h) ∙ is

          by : (b : Bool) → is_six (look_up e.bytes v.at) ≡ b → is_six (look_up (bring_of n t v).bytes v.at) ≡ true
          by true h = ap (λ (s : List ℕ). is_six (look_up s v.at)) (sym (ap (λ (x : MeshAfter). x.bytes) (ends true h))) ∙ h
          by false h = let y = ap (λ (x : MeshAfter). x.number) (ends false h) in absurd (omega arith)

pub bring-fine : (n : ℕ) → n < 12 → Bring n
bring-fine zero low = bring-step zero low (λ i e. absurd (omega arith))
bring-fine (suc n) low = bring-step (suc n) low (lower (bring-fine n (omega arith)))
  where
    lower : Bring n → (i : ℕ) → suc n ≡ suc i → Bring i
    lower x i e = let z : n ≡ i = omega arith in subst Bring z x

-- ---- the request
-- a vertex of a table in order that is neither on the rim nor of degree 6 nor at level 12
pub vertex-told : (t : List ℕ) → InOrder t → (v : Record) → look_up t v.at ≡ Some v → (v.n.0 ≡ 12 → ⊥) → Fine v.n.0 t (bring_of v.n.0 t v)
vertex-told t o v e top = let l = valid-level v (of-true (lookup-valid t o v.at v e)) in (bring-fine v.n.0 (omega arith) t o v).0

module _ (t : List ℕ) (o : InOrder t) (v : Record) (e : look_up t v.at ≡ Some v) where
  vertex-order : Dec (v.d ≡ 0) → Dec (v.d ≡ 6) → Dec (v.n.0 ≡ 12) → InOrder (bring_vertex t v).bytes
  vertex-order (yes d) s n = subst InOrder (ap (λ (x : MeshAfter). x.bytes) (vertex-14 t v d)) o
  vertex-order (no d) (yes s) n = subst InOrder (ap (λ (x : MeshAfter). x.bytes) (call.vertex-0 t v d s)) o
  vertex-order (no d) (no s) (yes n) = subst InOrder (ap (λ (x : MeshAfter). x.bytes) (vertex-5 t v d s n)) o
  vertex-order (no d) (no s) (no n) =
      subst InOrder (ap (λ (x : MeshAfter). x.bytes) (vertex-on t v d s n))
      (all (bring_of v.n.0 t v) (vertex-told t o v e n) (ℕ_discrete (bring_of v.n.0 t v).number 0))
    where
      all : (x : MeshAfter) → Fine v.n.0 t x → Dec (x.number ≡ 0) → InOrder (all_or t x).bytes
      all x f (yes z) = subst InOrder (ap (λ (y : MeshAfter). y.bytes) (all_made t x z)) f.order
      all x f (no z) = subst InOrder (ap (λ (y : MeshAfter). y.bytes) (all_back t x z)) o

pub request-order : (t : List ℕ) → InOrder t → (a b : ℤ) (m : ℕ) → InOrder (request_of t a b m).bytes
request-order t o a b m = looked (look_up t (normal_of a b m)) refl
  where
    test : in_order_of t ≡ true
    test = order-test t o

    looked : (l : Option Record) → look_up t (normal_of a b m) ≡ l → InOrder (request_of t a b m).bytes
    looked None e = subst InOrder (ap (λ (x : MeshAfter). x.bytes) (request-3 t a b m test e)) o
    looked (Some v) e =
        let own = (looked-standing t o (normal_of a b m) v e).held in
        subst InOrder (ap (λ (x : MeshAfter). x.bytes) (request-on t a b m test v e))
        (vertex-order t o v own (ℕ_discrete v.d 0) (ℕ_discrete v.d 6) (ℕ_discrete v.n.0 12))
