-- The request's own definition answers what First says in the ticket's words, both ways.
-- `comes_to` the definition, task by task · `meets-number` 7, 16 and 8 · `goes-comes`, `meets-comes` what First says is what it comes to · `Told`,
-- `brought-told` of a table in order it is always one of the two · `goes-brought`, `meets-brought` a vertex brought to degree 6.
-- Assumes nothing.
use Rattle.std.specs.Prelude.{◌≡◌, refl, ◌≢◌, ◌⊎◌, Bool, true, false, cond, List, [], ◌∷◌, ℕ, zero, suc, ◌+◌, ◌<◌, Option, Some, None}
use Rattle.std.proofs.Common.{sym, ◌∙◌, ap, subst, inl, inr, arith}
use Rattle.std.proofs.Math.Decide.{ℕ_discrete}
use Rattle.lattice.specs.Stars.{adjacent_at}
use Rattle.lattice.specs.declared.points.Point.{Point}
use Rattle.lattice.specs.declared.records.Record.{Record}
use Rattle.table.specs.Entries.{look_up}
use Rattle.table.specs.Order.{InOrder}
use Rattle.table.specs.MapLaws.{lookup-point}
use Rattle.mesh.specs.Subdivide.{MeshAfter, mesh_after, subdivided, subdivide_vertex, and_then}
use Rattle.mesh.specs.StepLaws.{then-on, then-stop}
use Rattle.bring.specs.Bring.{places_of, each_of, raised_at, near_of, is_six, ends_at, bring_of}
use Rattle.bring.specs.ChainLaws.{near-absent, near-rim, near-six, near-other, near-far, near-lower, bring-is}
use Rattle.everywhere.specs.Runs.{risen}
use Rattle.everywhere.specs.First.{Task, neighbour, places, all_places, tears, few, Goes, six, raised, each, all, Meets}
use Rattle.everywhere.specs.First as first
use Rattle.everywhere.specs.Made.{level_of, accepts-0, denies-x, either, goes_order, goes-risen}

-- ---- the definition, task by task
abbrev pub comes_to : Task → List ℕ → MeshAfter
comes_to (neighbour n p) s = near_of n s p
comes_to (places v js) s = and_then (each_of (near_of v.n.0) v s js) (λ y. ends_at y (look_up y v.at))

pub places_is : (v : Record) (s : List ℕ) → comes_to (all_places v) s ≡ bring_of v.n.0 s v
places_is v s = bring-is v.n.0 s v

-- no other number is met
pub meets-number : (x : ℕ) (T : Task) (s : List ℕ) → Meets x T s → (x ≡ 7) ⊎ ((x ≡ 16) ⊎ (x ≡ 8))
meets-number x _ _ (first.absent n p s e z) = inl z
meets-number x _ _ (first.other n p s u e d l z) = inl z
meets-number x _ _ (first.far n p s u e d l k z) = inl z
meets-number x _ _ (first.boundary n p s u e d z) = inr (inl z)
meets-number x _ _ (first.denied n p s u e d l (tears t z)) = inl z
meets-number x _ _ (first.denied n p s u e d l (few t f z)) = inr (inr z)
meets-number x _ _ (first.raised n p s r u w e d l k g h i j (tears t z)) = inl z
meets-number x _ _ (first.raised n p s r u w e d l k g h i j (few t f z)) = inr (inr z)
meets-number x _ _ (first.lower n p s u e d l k m) = meets-number x (all_places u) s m
meets-number x _ _ (first.now v j js s m) = meets-number x (neighbour v.n.0 (adjacent_at v j)) s m
meets-number x _ _ (first.later v j js s r g m) = meets-number x (places v js) r m
meets-number x _ _ (first.below v s e z) = inl z

pub meets-some : (x : ℕ) (T : Task) (s : List ℕ) → Meets x T s → x ≢ 0
meets-some x T s m z = go (meets-number x T s m)
  where
    go : (x ≡ 7) ⊎ ((x ≡ 16) ⊎ (x ≡ 8)) → ⊥
    go (inl e) = omega arith
    go (inr (inl e)) = omega arith
    go (inr (inr e)) = omega arith

-- ---- what First says, the definition comes to
each_on : (v : Record) (j : ℕ) (js s : List ℕ) → (near_of v.n.0 s (adjacent_at v j)).number ≡ 0
    → comes_to (places v (j ∷ js)) s ≡ comes_to (places v js) (near_of v.n.0 s (adjacent_at v j)).bytes
unfolding each_of
each_on v j js s z =
    ap (λ (o : MeshAfter). and_then o (λ y. ends_at y (look_up y v.at)))
    (sym (then-on (near_of v.n.0 s (adjacent_at v j)) (λ u. each_of (near_of v.n.0) v u js) z))

each-off : (v : Record) (j : ℕ) (js s : List ℕ) → (near_of v.n.0 s (adjacent_at v j)).number ≢ 0
    → comes_to (places v (j ∷ js)) s ≡ near_of v.n.0 s (adjacent_at v j)
unfolding each_of
each-off v j js s z =
    ap (λ (o : MeshAfter). and_then o (λ y. ends_at y (look_up y v.at)))
    (sym (then-stop (near_of v.n.0 s (adjacent_at v j)) (λ u. each_of (near_of v.n.0) v u js) z))
    ∙ sym (then-stop (near_of v.n.0 s (adjacent_at v j)) (λ y. ends_at y (look_up y v.at)) z)

each-end : (v : Record) (s : List ℕ) (b : Bool) → is_six (look_up s v.at) ≡ b → comes_to (places v []) s ≡ cond b (mesh_after 0 s) (mesh_after 7 s)
unfolding each_of
each-end v s b e = sym (then-on (mesh_after 0 s) (λ y. ends_at y (look_up y v.at)) refl) ∙ ap (λ (x : Bool). cond x (mesh_after 0 s) (mesh_after 7 s)) e

-- a neighbour that was brought first
raised_is : (n : ℕ) (p : Point) (s r : List ℕ) (u w : Record) → u.at ≡ p → look_up s p ≡ Some u → u.d ≢ 0 → u.d ≢ 6 → u.n.0 + 1 ≡ n
    → comes_to (all_places u) s ≡ mesh_after 0 r → look_up r p ≡ Some w → near_of n s p ≡ subdivide_vertex r w
raised_is n p s r u w a e z d l c f =
    let b : bring_of u.n.0 s u ≡ mesh_after 0 r = sym (places_is u s) ∙ c in
    sym (near-lower n s p u e z d l) ∙ ap (λ (o : MeshAfter). and_then o (λ y. raised_at y (look_up y u.at))) b
    ∙ sym (then-on (mesh_after 0 r) (λ y. raised_at y (look_up y u.at)) refl) ∙ ap (raised_at r) (ap (look_up r) a ∙ f)

pub goes-comes : (T : Task) (s r : List ℕ) → Goes T s r → level_of T < 12 → InOrder s → comes_to T s ≡ mesh_after 0 r
goes-comes _ _ _ (six n p s u e d l a) h o = sym (near-six n s p u e (λ z. omega arith) d l) ∙ accepts-0 s u d (omega arith) a
goes-comes _ _ _ (raised n p s r u w e z d l g f x y a) h o =
    let c = goes-comes (all_places u) s r g (omega arith) o in
    raised_is n p s r u w (lookup-point s o p u e) e z d l c f ∙ accepts-0 r w x (omega arith) a
goes-comes _ _ _ (each v j js s r u a b) h o =
    let o' = goes_order (neighbour v.n.0 (adjacent_at v j)) s r a h o in
    let c = goes-comes (neighbour v.n.0 (adjacent_at v j)) s r a h o in
    each_on v j js s (ap (λ (x : MeshAfter). x.number) c) ∙ ap (λ (x : MeshAfter). comes_to (places v js) x.bytes) c ∙ goes-comes (places v js) r u b h o'
goes-comes _ _ _ (all v s e) h o = each-end v s true e

number : {x y : MeshAfter} → x ≡ y → x.number ≡ y.number
number e = ap (λ (o : MeshAfter). o.number) e

pub meets-comes : (x : ℕ) (T : Task) (s : List ℕ) → Meets x T s → level_of T < 12 → InOrder s → (comes_to T s).number ≡ x
meets-comes x _ _ (first.absent n p s e z) h o = sym (number (near-absent n s p e)) ∙ sym z
meets-comes x _ _ (first.other n p s u e d l z) h o = sym (number (near-other n s p u e (λ y. omega arith) d l)) ∙ sym z
meets-comes x _ _ (first.far n p s u e a d l z) h o = sym (number (near-far n s p u e a d l)) ∙ sym z
meets-comes x _ _ (first.boundary n p s u e d z) h o = sym (number (near-rim n s p u e d)) ∙ sym z
meets-comes x _ _ (first.denied n p s u e d l z) h o = sym (number (near-six n s p u e (λ y. omega arith) d l)) ∙ number (denies-x s u d (omega arith) x z)
meets-comes x _ _ (first.raised n p s r u w e a d l g f i j z) h o =
    let c = goes-comes (all_places u) s r g (omega arith) o in
    number (raised_is n p s r u w (lookup-point s o p u e) e a d l c f ∙ denies-x r w i (omega arith) x z)
meets-comes x _ _ (first.lower n p s u e a d l m) h o =
    let c : (bring_of u.n.0 s u).number ≡ x = sym (number (places_is u s)) ∙ meets-comes x (all_places u) s m (omega arith) o in
    let nz = meets-some x (all_places u) s m in
    number (sym (near-lower n s p u e a d l)
    ∙ sym (then-stop (bring_of u.n.0 s u) (λ y. raised_at y (look_up y u.at)) (λ y. nz (sym c ∙ y)))) ∙ c
meets-comes x _ _ (first.now v j js s m) h o =
    let c = meets-comes x (neighbour v.n.0 (adjacent_at v j)) s m h o in
    let nz = meets-some x (neighbour v.n.0 (adjacent_at v j)) s m in
    number (each-off v j js s (λ y. nz (sym c ∙ y))) ∙ c
meets-comes x _ _ (first.later v j js s r g m) h o =
    let o' = goes_order (neighbour v.n.0 (adjacent_at v j)) s r g h o in
    let c = goes-comes (neighbour v.n.0 (adjacent_at v j)) s r g h o in
    number (each_on v j js s (number c) ∙ ap (λ (y : MeshAfter). comes_to (places v js) y.bytes) c) ∙ meets-comes x (places v js) r m h o'
meets-comes x _ _ (first.below v s e z) h o = number (each-end v s false e) ∙ sym z

-- ---- and of a table in order it is always one of the two
pub data Told (T : Task) (s : List ℕ) : Type 0 where
  goes : (r : List ℕ) → Goes T s r → Told T s
  meets : (x : ℕ) → Meets x T s → Told T s

abbrev Brings : ℕ → Type 0
Brings i = (v : Record) → v.n.0 ≡ i → (s : List ℕ) → InOrder s → Told (all_places v) s

module _ (n : ℕ) (low : n < 12) (ih : (i : ℕ) → n ≡ suc i → Brings i) (s : List ℕ) (o : InOrder s) (p : Point) where
  vertex-told : (u : Record) → look_up s p ≡ Some u → Dec (u.d ≡ 0) → Dec (u.d ≡ 6) → Dec (u.n.0 ≡ n) → Dec (u.n.0 + 1 ≡ n) → Told (neighbour n p) s
  vertex-told u e (yes d) x l k = meets 16 (first.boundary n p s u e d refl)
  vertex-told u e (no d) (yes x) (no l) k = meets 7 (first.other n p s u e x l refl)
  vertex-told u e (no d) (yes x) (yes l) k =
      either s u x (omega arith) (λ a. goes (subdivided s u) (six n p s u e x l a)) (λ y z. meets y (first.denied n p s u e x l z))
  vertex-told u e (no d) (no x) l (no k) = meets 7 (first.far n p s u e d x k refl)
  vertex-told u e (no d) (no x) l (yes k) = brought (ih u.n.0 (omega arith) u refl s o)
    where
      at : u.at ≡ p
      at = lookup-point s o p u e

      brought : Told (all_places u) s → Told (neighbour n p) s
      brought (meets y m) = meets y (first.lower n p s u e d x k m)
      brought (goes r g) =
          let w = risen u.at u.n.0 in
          let g' : look_up r p ≡ Some w = ap (look_up r) (sym at) ∙ goes-risen s o u (ap (look_up s) at ∙ e) d x (omega arith) r g in
          either r w refl (omega arith)
          (λ a. goes (subdivided r w) (raised n p s r u w e d x k g g' refl (omega arith) a))
          (λ y z. meets y (first.raised n p s r u w e d x k g g' refl (omega arith) z))

  near-told : Told (neighbour n p) s
  near-told = go (look_up s p) refl
    where
      go : (l : Option Record) → look_up s p ≡ l → Told (neighbour n p) s
      go None e = meets 7 (first.absent n p s e refl)
      go (Some u) e = vertex-told u e (ℕ_discrete u.d 0) (ℕ_discrete u.d 6) (ℕ_discrete u.n.0 n) (ℕ_discrete (u.n.0 + 1) n)

module _ (n : ℕ) (low : n < 12) (ih : (i : ℕ) → n ≡ suc i → Brings i) (v : Record) (lv : v.n.0 ≡ n) where
  each-told : (js s : List ℕ) → InOrder s → Told (places v js) s
  each-told [] s o = go (is_six (look_up s v.at)) refl
    where
      go : (b : Bool) → is_six (look_up s v.at) ≡ b → Told (places v []) s
      go true e = goes s (all v s e)
      go false e = meets 7 (first.below v s e refl)
  each-told (j ∷ js) s o =
      go (subst (λ (m : ℕ). Told (neighbour m (adjacent_at v j)) s) (sym lv) (near-told n low ih s o (adjacent_at v j))) (λ r h. each-told js r h)
    where
      after : (r : List ℕ) → Goes (neighbour v.n.0 (adjacent_at v j)) s r → Told (places v js) r → Told (places v (j ∷ js)) s
      after r g (goes u h) = goes u (each v j js s r u g h)
      after r g (meets x m) = meets x (first.later v j js s r g m)

      go : Told (neighbour v.n.0 (adjacent_at v j)) s → ((r : List ℕ) → InOrder r → Told (places v js) r) → Told (places v (j ∷ js)) s
      go (meets x m) k = meets x (first.now v j js s m)
      go (goes r g) k =
          after r g (k r (goes_order (neighbour v.n.0 (adjacent_at v j)) s r g (omega arith) o))

brings : (n : ℕ) → n < 12 → Brings n
brings zero low v lv s o = each-told zero low (λ i e. absurd (omega arith)) v lv (places_of v.d) s o
brings (suc n) low v lv s o = each-told (suc n) low (lower (λ w x r h. brings n (omega arith) w x r h)) v lv (places_of v.d) s o
  where
    lower : Brings n → (i : ℕ) → suc n ≡ suc i → Brings i
    lower x i e = let z : n ≡ i = omega arith in subst Brings z x

-- ---- a vertex brought to degree 6
module _ (t : List ℕ) (o : InOrder t) (v : Record) (low : v.n.0 < 12) where
  pub brought-told : Told (all_places v) t
  brought-told = brings v.n.0 low v refl t o

  -- done, and what it leaves
  pub goes-brought : (r : List ℕ) → Goes (all_places v) t r → bring_of v.n.0 t v ≡ mesh_after 0 r
  goes-brought r g = sym (places_is v t) ∙ goes-comes (all_places v) t r g low o

  -- the first met is x
  pub meets-brought : (x : ℕ) → Meets x (all_places v) t → (bring_of v.n.0 t v).number ≡ x
  meets-brought x m = sym (number (places_is v t)) ∙ meets-comes x (all_places v) t m low o
