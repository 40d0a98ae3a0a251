-- What is done is done by a sequence of accepted subdivisions: of each neighbour at the level wanted, and of others below that level.
-- `accepts-0`, `denies-x`, `either` one subdivision, accepted or denied · `divide-run` as a sequence · `Made`, `Within`, `goes-made` what a task makes,
-- and at which levels · `goes_order` a table in order stays in order · `goes-risen` a vertex brought has degree 6, at its own level and one more.
-- Why its level: what is missing is made at that level, so it rises; nothing is subdivided above that level, so it rises by one.
-- Assumes nothing.
use Rattle.std.specs.Prelude.{◌≡◌, refl, ◌≢◌, ◌⊎◌, Bool, true, false, cond, ℕ, suc, ◌+◌, ◌%◌, ◌≤◌, ◌<◌, ltb, Option, Some}
use Rattle.std.proofs.Common.{sym, ◌∙◌, ap, subst, inl, inr, arith, eqb-true, lt-ltb, le-ltb, eq-eqb, ne_eqb}
use mathlib.Core.List.Memᴰ
use mathlib.Core.List.{List, [], ◌∷◌, ◌++◌, Memᴰ}
use Rattle.std.proofs.Math.Decide.{dec_lt}
use Rattle.laws.specs.Choices.{of-true}
use Rattle.lattice.specs.Stars.{adjacent_at}
use Rattle.lattice.specs.declared.points.Point.{Point}
use Rattle.lattice.specs.declared.records.Record.{Record}
use Rattle.growth.specs.Sheets.{vertex}
use Rattle.table.specs.Entries.{look_up}
use Rattle.table.specs.Order.{InOrder}
use Rattle.table.specs.Slots.{free_slots}
use Rattle.table.specs.MapLaws.{lookup-valid, lookup-point, order-test}
use Rattle.mesh.specs.Subdivide.{MeshAfter, mesh_after, torn, subdivided, subdivide_vertex, subdivide_of}
use Rattle.mesh.specs.CallLaws.{call-vertex}
use Rattle.mesh.specs.StepLaws.{own-looked, held_same}
use Rattle.bring.specs.Bring.{is_six}
use Rattle.everywhere.specs.Runs.{Division, Run, here, next, run_on, risen}
use Rattle.everywhere.specs.Histories.{Rises, waits, rises-run, run-order, level-run, six-is}
use Rattle.everywhere.specs.Histories as hist
use Rattle.everywhere.specs.First.{Task, neighbour, places, all_places, Accepts, Denies, tears, few, Goes, six, raised, each, all}

abbrev pub level_of : Task → ℕ
level_of (neighbour n p) = n
level_of (places v js) = v.n.0

-- ---- one subdivision
module _ (s : List ℕ) (u : Record) (six : u.d ≡ 6) (low : u.n.0 < 12) where
  past : subdivide_vertex s u ≡ cond (torn s u) (mesh_after 7 s) (cond (ltb (free_slots s) 6) (mesh_after 8 s) (mesh_after 0 (subdivided s u)))
  past = rw (eq-eqb u.d 6 six, ne_eqb u.n.0 12 (λ z. omega arith))

  pub accepts-0 : Accepts s u → subdivide_vertex s u ≡ mesh_after 0 (subdivided s u)
  accepts-0 a =
      past ∙ ap (λ (b : Bool). cond b (mesh_after 7 s) (cond (ltb (free_slots s) 6) (mesh_after 8 s) (mesh_after 0 (subdivided s u)))) a.whole
      ∙ ap (λ (b : Bool). cond b (mesh_after 8 s) (mesh_after 0 (subdivided s u))) (le-ltb (free_slots s) 6 a.room)

  pub denies-x : (x : ℕ) → Denies s u x → subdivide_vertex s u ≡ mesh_after x s
  denies-x x (tears t e) =
      past ∙ ap (λ (b : Bool). cond b (mesh_after 7 s) (cond (ltb (free_slots s) 6) (mesh_after 8 s) (mesh_after 0 (subdivided s u)))) t
      ∙ ap (λ (y : ℕ). mesh_after y s) (sym e)
  denies-x x (few t f e) =
      past ∙ ap (λ (b : Bool). cond b (mesh_after 7 s) (cond (ltb (free_slots s) 6) (mesh_after 8 s) (mesh_after 0 (subdivided s u)))) t
      ∙ ap (λ (b : Bool). cond b (mesh_after 8 s) (mesh_after 0 (subdivided s u))) (lt-ltb (free_slots s) 6 f)
      ∙ ap (λ (y : ℕ). mesh_after y s) (sym e)

  -- it is one of the two
  pub either : ({A : Type 0} → (Accepts s u → A) → ((x : ℕ) → Denies s u x → A) → A)
  either {A} f g = go (torn s u) refl (dec_lt (free_slots s) 6)
    where
      go : (b : Bool) → torn s u ≡ b → Dec (free_slots s < 6) → A
      go true e d = g 7 (tears e refl)
      go false e (yes h) = g 8 (few e h refl)
      go false e (no h) = f (record { whole = e; room = omega arith })

pub divide-run : (s : List ℕ) → InOrder s → (p : Point) (u : Record) → look_up s p ≡ Some u → u.d ≡ 6 → u.n.0 < 12 → Accepts s u
    → Run s ((u.at, u.n.0) ∷ []) (subdivided s u)
divide-run s o p u e d l a =
    let own : look_up s u.at ≡ Some u = ap (look_up s) (lookup-point s o p u e) ∙ e in
    let c = call-vertex s u.at.a u.at.b u.at.m.0 (order-test s o) u (own-looked s o u own) in
    let h = sym c ∙ accepts-0 s u d l a in
    let z : (subdivide_of s u.at.a u.at.b u.at.m.0).number ≡ 0 = ap (λ (q : MeshAfter). q.number) h in
    subst (Run s ((u.at, u.n.0) ∷ [])) (ap (λ (q : MeshAfter). q.bytes) h) (next [] s here u own z)

-- ---- lists
on-left : (x : Division) (l k : List Division) → Memᴰ x l → Memᴰ x (l ++ k)
on-left x [] k m = absurd (Memᴰ.not-nil m)
on-left x (y ∷ l) k m = go (Memᴰ.cases_cons m) (λ i. on-left x l k i)
  where
    go : (x ≡ y) ⊎ Memᴰ x l → (Memᴰ x l → Memᴰ x (l ++ k)) → Memᴰ x (y ∷ (l ++ k))
    go (inl e) ih = Memᴰ.head e
    go (inr i) ih = Memᴰ.tail (ih i)

on-right : (x : Division) (l k : List Division) → Memᴰ x k → Memᴰ x (l ++ k)
on-right x [] k m = m
on-right x (y ∷ l) k m = Memᴰ.tail (on-right x l k m)

in_either : (x : Division) (l k : List Division) → Memᴰ x (l ++ k) → Memᴰ x l ⊎ Memᴰ x k
in_either x [] k m = inr m
in_either x (y ∷ l) k m = go (Memᴰ.cases_cons m) (λ i. in_either x l k i)
  where
    go : (x ≡ y) ⊎ Memᴰ x (l ++ k) → (Memᴰ x (l ++ k) → Memᴰ x l ⊎ Memᴰ x k) → Memᴰ x (y ∷ l) ⊎ Memᴰ x k
    go (inl e) ih = inl (Memᴰ.head e)
    go (inr i) ih = past (ih i)
      where
        past : Memᴰ x l ⊎ Memᴰ x k → Memᴰ x (y ∷ l) ⊎ Memᴰ x k
        past (inl a) = inl (Memᴰ.tail a)
        past (inr a) = inr a

abbrev pub Made : Task → List Division → Type 0
Made (neighbour n p) k = Memᴰ (p, n) k
Made (places v js) k = (j : ℕ) → Memᴰ j js → Memᴰ (adjacent_at v j, v.n.0) k

-- and nothing else at that level, nor above it
abbrev pub Within : Task → List Division → Type 0
Within (neighbour n p) k = (x : Division) → Memᴰ x k → (x.1 < n) ⊎ (x ≡ (p, n))
Within (places v js) k = (x : Division) → Memᴰ x k → x.1 ≤ v.n.0

-- one more at level n, after those below it
within-one : (n : ℕ) (p : Point) (y : Division) (k : List Division) → y ≡ (p, n) → ((x : Division) → Memᴰ x k → x.1 < n) → Within (neighbour n p) (y ∷ k)
within-one n p y k e f x i = go (Memᴰ.cases_cons i)
  where
    go : (x ≡ y) ⊎ Memᴰ x k → (x.1 < n) ⊎ (x ≡ (p, n))
    go (inl q) = inr (q ∙ e)
    go (inr m) = inl (f x m)

-- a neighbour's and then the others'
module _ (v : Record) (j : ℕ) (js : List ℕ) (k l : List Division) where
  pub both-made : Made (neighbour v.n.0 (adjacent_at v j)) k → Made (places v js) l → Made (places v (j ∷ js)) (l ++ k)
  both-made m n i x = go (Memᴰ.cases_cons x)
    where
      go : (i ≡ j) ⊎ Memᴰ i js → Memᴰ (adjacent_at v i, v.n.0) (l ++ k)
      go (inl e) = on-right (adjacent_at v i, v.n.0) l k (subst (λ (c : ℕ). Memᴰ (adjacent_at v c, v.n.0) k) (sym e) m)
      go (inr x) = on-left (adjacent_at v i, v.n.0) l k (n i x)

  both-within : Within (neighbour v.n.0 (adjacent_at v j)) k → Within (places v js) l → Within (places v (j ∷ js)) (l ++ k)
  both-within f g x i = go (in_either x l k i)
    where
      level : (x.1 < v.n.0) ⊎ (x ≡ (adjacent_at v j, v.n.0)) → x.1 ≤ v.n.0
      level (inl h) = omega arith
      level (inr q) = let h = ap (λ (d : Division). d.1) q in omega arith

      go : Memᴰ x l ⊎ Memᴰ x k → x.1 ≤ v.n.0
      go (inl m) = g x m
      go (inr m) = level (f x m)

pub goes-made : (T : Task) (s r : List ℕ) → Goes T s r → level_of T < 12 → InOrder s → (k : List Division) × Run s k r × Made T k × Within T k
goes-made _ _ _ (six n p s u e d l a) h o =
    let at = lookup-point s o p u e in
    let is : ◌≡◌ {A = Division} (u.at, u.n.0) (p, n) = λ i. (at i, l i) in (
      (u.at, u.n.0) ∷ [],
      divide-run s o p u e d (omega arith) a,
      Memᴰ.head (sym is),
      within-one n p (u.at, u.n.0) [] is (λ x i. absurd (Memᴰ.not-nil i)),
    )
goes-made _ _ _ (raised n p s r u w e z d l g f x y a) h o =
    let (k, q, m, c) = goes-made (all_places u) s r g (omega arith) o in
    let o' = run-order s r k o q in
    let at = lookup-point r o' p w f in
    let v = divide-run r o' p w f x (omega arith) a in
    let is : ◌≡◌ {A = Division} (w.at, w.n.0) (p, n) = λ i. (at i, y i) in (
      (w.at, w.n.0) ∷ k,
      run_on s r (subdivided r w) k ((w.at, w.n.0) ∷ []) q v,
      Memᴰ.head (sym is),
      within-one n p (w.at, w.n.0) k is (λ x i. (let b = c x i in omega arith)),
    )
goes-made _ _ _ (each v j js s r u a b) h o =
    let (k, q, m, c) = goes-made (neighbour v.n.0 (adjacent_at v j)) s r a h o in
    let (l, y, n, d) = goes-made (places v js) r u b h (run-order s r k o q) in
    (l ++ k, run_on s r u k l q y, both-made v j js k l m n, both-within v j js k l c d)
goes-made _ _ _ (all v s e) h o = ([], here, λ j m. absurd (Memᴰ.not-nil m), λ x m. absurd (Memᴰ.not-nil m))

pub goes_order : (T : Task) (s r : List ℕ) → Goes T s r → level_of T < 12 → InOrder s → InOrder r
goes_order T s r x h o = let (k, q, m, w) = goes-made T s r x h o in run-order s r k o q

-- ---- a vertex brought
goes-six : (v : Record) (js s r : List ℕ) → Goes (places v js) s r → is_six (look_up r v.at) ≡ true
goes-six v _ _ _ (each _ j js s r u a b) = goes-six v js r u b
goes-six v _ _ _ (all _ s e) = e

pub goes-risen : (s : List ℕ) → InOrder s → (v : Record) → look_up s v.at ≡ Some v → v.d ≢ 0 → v.d ≢ 6 → v.n.0 < 12
    → (r : List ℕ) → Goes (all_places v) s r → look_up r v.at ≡ Some (risen v.at v.n.0)
goes-risen s o v e nz n6 low r g = go (goes-made (all_places v) s r g low o)
  where
    six-held : (l : Option Record) (u : Record) → l ≡ Some u → is_six l ≡ true → u.d ≡ 6
    six-held l u e h = eqb-true u.d 6 (ap is_six (sym e) ∙ h)

    by : (k : List Division) → Rises k r v.at v → (x : Record) × (look_up r v.at ≡ Some x) × (x.n.0 ≤ suc v.n.0)
        → look_up r v.at ≡ Some (risen v.at v.n.0)
    by k (waits x l a0 a6 lv f) top = absurd (a6 (six-held (look_up r v.at) x l (goes-six v _ s r g)))
    by k (hist.risen x l d lt f) (y, h, hi) =
        let q = ap (λ (z : Record). z.n.0) (held_same (sym h ∙ l)) in
        let lv : x.n.0 ≡ suc v.n.0 = omega arith in
        let o' = goes_order (all_places v) s r g low o in
        let at : x.at ≡ v.at = lookup-point r o' v.at x l in
        l ∙ ap Some (six-is x (of-true (lookup-valid r o' v.at x l)) d ∙ (λ j. vertex (at j) 6 (lv j % 2) (lv j)))

    go : (k : List Division) × Run s k r × Made (all_places v) k × Within (all_places v) k → look_up r v.at ≡ Some (risen v.at v.n.0)
    go (k, q, m, c) =
        by k (rises-run s r k q v.at v e nz n6)
        (level-run s r k q (suc v.n.0) (λ x i. (let b = c x i in omega arith)) v.at v e (omega arith))
