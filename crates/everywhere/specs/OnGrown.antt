-- Document 02, ticket 4: "On a grown mesh, with slots enough and the vertex below level 12, the request succeeds unless the chain reaches a boundary
-- vertex." So 7 never comes, and 8 only with fewer slots free than this many subdivisions take.
-- `near_most` how many subdivisions one neighbour at level n takes at most · `goes-cost`, `meets-cost` by the turns, from one grown table to the next ·
-- `grown-met` what the first met is not.
-- Why never 7: each neighbour whose turn comes is beside a vertex that is still missing that direction (Coming), and on a grown table such a neighbour is
-- a boundary vertex, or has degree 6 at the level wanted, or a lower degree a level lower (Beside).
-- How many: a neighbour that has to be brought first is of degree 4 or 5, so two of its own at most; and of three neighbours one is of degree 6.
-- Assumes nothing.
use Rattle.std.specs.Prelude.{◌≡◌, ◌≢◌, ◌⊎◌, Bool, true, false, cond, T, length, Option, Some, None}
use Rattle.std.proofs.Math.Path.{refl, ap}
use Rattle.std.proofs.Common.{sym, ◌∙◌, subst, inl, inr, true≢false, suc-mul, mul-le-mul_right, eqb-true, eq-eqb, ne_eqb}
use mathlib.Core.List.Memᴰ
use mathlib.Core.List.{List, [], ◌∷◌}
use Prim.Native.Nat.{ℕ, zero, suc, ◌+◌, ◌*◌, ◌%◌, ◌-◌, ◌≤◌, ◌<◌}
use native.Mathlib.Omega.{arith}
use Rattle.std.proofs.Math.Decide.{ℕ_discrete}
use Rattle.lattice.specs.RecordLaws.{Inner}
use Rattle.lattice.specs.Stars.{adjacent_at}
use Rattle.lattice.specs.declared.points.Point.{Point}
use Rattle.lattice.specs.declared.records.Record.{Record}
use Rattle.table.specs.Entries.{look_up}
use Rattle.table.specs.Slots.{free_slots}
use Rattle.table.specs.MapLaws.{order-test}
use Rattle.mesh.specs.Grown.{Grown}
use Rattle.mesh.specs.Subdivide.{MeshAfter, torn, subdivided}
use Rattle.mesh.specs.CallLaws.{call-vertex}
use Rattle.mesh.specs.StepLaws.{own-looked, held_same}
use Rattle.grown.specs.Untorn.{never-torn, divided-grown}
use Rattle.bring.specs.Bring.{places_of, is_six}
use Rattle.bring.specs.ChainLaws.{run, places-first}
use Rattle.everywhere.specs.Runs.{Division, Run, here, next, run-free}
use Rattle.everywhere.specs.Missing.{place-missing}
use Rattle.everywhere.specs.Histories.{absent-held, six-run}
use Rattle.everywhere.specs.First.{Task, neighbour, places, all_places, Accepts, tears, few, Goes, six, raised, each, all, Meets}
use Rattle.everywhere.specs.First as first
use Rattle.everywhere.specs.Made.{level_of, denies-x, divide-run, Made, Within, goes-made}
use Rattle.everywhere.specs.Beside.{Beside, creator-six}
use Rattle.everywhere.specs.Beside as side
use Rattle.everywhere.specs.Coming.{sound, own, Left, none, some, Coming, coming-beside, coming-start, coming-on}

-- one neighbour subdivided at level n: itself, and where it has to be brought first, two of its own a level lower
unfoldable pub near_most : ℕ → ℕ
near_most zero = 1
near_most (suc i) = 2 * near_most i + 1

near-one : (n : ℕ) → 1 ≤ near_most n
unfolding near_most
near-one zero = omega arith
near-one (suc n) = omega arith

near_up : (i n : ℕ) → i + 1 ≡ n → near_most n ≡ 2 * near_most i + 1
unfolding near_most
near_up i n e = let z : n ≡ suc i = omega arith in ap near_most z

-- a neighbour of degree 6 takes one
unfoldable cost_of : ℕ → Option Record → ℕ
cost_of n l = cond (is_six l) 1 (near_most n)

cost-low : (n : ℕ) (l : Option Record) → (1 ≤ cost_of n l) × (cost_of n l ≤ near_most n)
unfolding cost_of
cost-low n l = go (is_six l)
  where
    go : (b : Bool) → (1 ≤ cond b 1 (near_most n)) × (cond b 1 (near_most n) ≤ near_most n)
    go true = (omega arith, near-one n)
    go false = (near-one n, omega arith)

cost-six : (n : ℕ) (l : Option Record) (u : Record) → l ≡ Some u → u.d ≡ 6 → cost_of n l ≡ 1
unfolding cost_of
cost-six n l u e d = ap (λ (b : Bool). cond b 1 (near_most n)) (ap is_six e ∙ eq-eqb u.d 6 d)

cost-less : (n : ℕ) (l : Option Record) (u : Record) → l ≡ Some u → u.d ≢ 6 → cost_of n l ≡ near_most n
unfolding cost_of
cost-less n l u e d = ap (λ (b : Bool). cond b 1 (near_most n)) (ap is_six e ∙ ne_eqb u.d 6 d)

unfoldable costs : Record → List ℕ → List ℕ → ℕ
costs v [] s = 0
costs v (j ∷ js) s = cost_of v.n.0 (look_up s (adjacent_at v j)) + costs v js s

costs-length : (v : Record) (js s : List ℕ) → costs v js s ≤ length js * near_most v.n.0
unfolding costs
costs-length v [] s = omega arith
costs-length v (j ∷ js) s =
    let ih = costs-length v js s in
    let e = suc-mul (length js) (near_most v.n.0) in
    let c = (cost-low v.n.0 (look_up s (adjacent_at v j))).1 in
    omega arith

run_length : (n j : ℕ) → length (run j n) ≡ n
unfolding run
run_length zero j = refl
run_length (suc n) j = ap suc (run_length n (j + 1))

-- ---- tables
pub run-grown : (t s : List ℕ) (l : List Division) → Grown t → Run t l s → Grown s
run-grown t _ _ g here = g
run-grown t _ _ g (next l s r v e z) = divided-grown s (run-grown t s l g r) v.at.a v.at.b v.at.m.0 z

-- no subdivision is torn
untorn : (s : List ℕ) → Grown s → (p : Point) (u : Record) → look_up s p ≡ Some u → u.d ≡ 6 → u.n.0 < 12 → torn s u ≡ true → ⊥
untorn s g p u e d l t =
    let o = own-looked s g.order u (own s g p u e) in
    never-torn s g u.at.a u.at.b u.at.m.0
    (ap (λ (x : MeshAfter). x.number)
    (sym (call-vertex s u.at.a u.at.b u.at.m.0 (order-test s g.order) u o) ∙ denies-x s u d l 7 (tears t refl)))

-- a neighbour takes no more later on
cost-later : (n : ℕ) (s r : List ℕ) (k : List Division) → Run s k r → (q : Point) → cost_of n (look_up r q) ≤ cost_of n (look_up s q)
unfolding cost_of
cost-later n s r k y q = go (look_up s q) refl
  where
    stays : (u : Record) → look_up s q ≡ Some u → (b : Bool) → is_six (Some u) ≡ b → cost_of n (look_up r q) ≤ cond b 1 (near_most n)
    stays u e true d =
        let (x, f, h) = six-run s r k y q (u, e, eqb-true u.d 6 d) in
        let z = cost-six n (look_up r q) x f h in
        omega arith
    stays u e false d = (cost-low n (look_up r q)).1

    go : (l : Option Record) → look_up s q ≡ l → cost_of n (look_up r q) ≤ cost_of n (look_up s q)
    go None e = subst (λ (l : Option Record). cost_of n (look_up r q) ≤ cost_of n l) (sym e) (cost-low n (look_up r q)).1
    go (Some u) e = subst (λ (l : Option Record). cost_of n (look_up r q) ≤ cost_of n l) (sym e) (stays u e (is_six (Some u)) refl)

costs-later : (v : Record) (js s r : List ℕ) (k : List Division) → Run s k r → costs v js r ≤ costs v js s
unfolding costs
costs-later v [] s r k y = omega arith
costs-later v (j ∷ js) s r k y =
    let a = cost-later v.n.0 s r k y (adjacent_at v j) in let b = costs-later v js s r k y in omega arith

-- ---- from one grown table to the next
abbrev Fits : Task → List ℕ → Type 0
Fits (neighbour n p) s = Beside s p n
Fits (places v js) s = Coming v js s

abbrev cost : Task → List ℕ → ℕ
cost (neighbour n p) s = cost_of n (look_up s p)
cost (places v js) s = costs v js s

-- what Beside says of the record that stands there
beside-is : (s : List ℕ) (p : Point) (n : ℕ) → Beside s p n → (u : Record) → look_up s p ≡ Some u
    → (u.d ≡ 0) ⊎ (((u.d ≡ 6) × (u.n.0 ≡ n)) ⊎ ((u.d ≢ 3) × (u.d ≢ 6) × (u.n.0 + 1 ≡ n)))
beside-is s p n (side.rim w e d) u f = inl (ap (λ (r : Record). r.d) (held_same (sym f ∙ e)) ∙ d)
beside-is s p n (side.six w e d l) u f =
    let q : u ≡ w = held_same (sym f ∙ e) in inr (inl (ap (λ (r : Record). r.d) q ∙ d, ap (λ (r : Record). r.n.0) q ∙ l))
beside-is s p n (side.lower w e d0 d3 d6 l) u f =
    let q : w ≡ u = held_same (sym e ∙ f) in
    let lv = ap (λ (r : Record). r.n.0) q in
    inr (inr ((λ z. d3 (ap (λ (r : Record). r.d) q ∙ z)), (λ z. d6 (ap (λ (r : Record). r.d) q ∙ z)), omega arith))

beside-held : (s : List ℕ) (p : Point) (n : ℕ) → Beside s p n → look_up s p ≡ None → ⊥
beside-held s p n (side.rim w e d) a = absent-held (sym a ∙ e)
beside-held s p n (side.six w e d l) a = absent-held (sym a ∙ e)
beside-held s p n (side.lower w e d0 d3 d6 l) a = absent-held (sym a ∙ e)

-- of degree 4 or 5: two places at most
two-cost : (s : List ℕ) (u : Record) → Inner u → u.d ≢ 3 → costs u (places_of u.d) s ≤ 2 * near_most u.n.0
two-cost s u i d3 =
    let lo = i.low in
    let c = costs-length u (places_of u.d) s in
    let l : length (places_of u.d) ≡ 6 - u.d = ap length (places-first u.d i.low i.top) ∙ run_length (6 - u.d) 0 in
    let m = mul-le-mul_right (near_most u.n.0) (two (length (places_of u.d)) u.d l lo d3) in
    omega arith
  where
    two : (n d : ℕ) → n ≡ 6 - d → 3 ≤ d → d ≢ 3 → n ≤ 2
    two n d e l h = omega arith

lower-cost : (s : List ℕ) → Grown s → (n : ℕ) (p : Point) → Beside s p n → (u : Record) → look_up s p ≡ Some u → u.d ≢ 0 → u.d ≢ 6 → u.n.0 + 1 ≡ n
    → costs u (places_of u.d) s + 1 ≤ cost_of n (look_up s p)
lower-cost s g n p b u e z x l = go (beside-is s p n b u e)
  where
    go : (u.d ≡ 0) ⊎ (((u.d ≡ 6) × (u.n.0 ≡ n)) ⊎ ((u.d ≢ 3) × (u.d ≢ 6) × (u.n.0 + 1 ≡ n))) → costs u (places_of u.d) s + 1 ≤ cost_of n (look_up s p)
    go (inl d) = absurd (z d)
    go (inr (inl (d, k))) = absurd (x d)
    go (inr (inr (d3, d6, k))) =
        let c = two-cost s u (sound s g p u e z) d3 in let up = near_up u.n.0 n l in let is = cost-less n (look_up s p) u e x in omega arith

-- six slots each
divided-slots : (s : List ℕ) → Grown s → (p : Point) (u : Record) → look_up s p ≡ Some u → u.d ≡ 6 → u.n.0 < 12 → Accepts s u
    → free_slots (subdivided s u) + 6 ≡ free_slots s
divided-slots s g p u e d l a =
    let f = run-free s (subdivided s u) ((u.at, u.n.0) ∷ []) (divide-run s g.order p u e d l a) in
    let one : length {A = Division} ((u.at, u.n.0) ∷ []) ≡ 1 = refl in
    omega arith

-- the table after is grown
pub goes-grown : (T : Task) (s r : List ℕ) → Goes T s r → level_of T < 12 → Grown s → Grown r
goes-grown T s r x h g = let (k, q, m, w) = goes-made T s r x h g.order in run-grown s r k g q

goes-coming : (v : Record) (j : ℕ) (js s r : List ℕ) → Goes (neighbour v.n.0 (adjacent_at v j)) s r → v.n.0 < 12 → Grown s → Coming v (j ∷ js) s
    → Coming v js r × (costs v js r ≤ costs v js s)
goes-coming v j js s r x h g c = go (goes-made (neighbour v.n.0 (adjacent_at v j)) s r x h g.order)
  where
    go : (k : List Division) × Run s k r × Made (neighbour v.n.0 (adjacent_at v j)) k × Within (neighbour v.n.0 (adjacent_at v j)) k
        → Coming v js r × (costs v js r ≤ costs v js s)
    go (k, q, m, w) = (coming-on s g v j js r k q m w c, costs-later v js s r k q)

coming-first : (v : Record) (j : ℕ) (js s : List ℕ) → Grown s → Coming v (j ∷ js) s → Beside s (adjacent_at v j) v.n.0
coming-first v j js s g c = coming-beside s g v j (c.place j (Memᴰ.head refl)).1 (c.ahead j (Memᴰ.head refl))

goes-cost : (T : Task) (s r : List ℕ) → Goes T s r → level_of T < 12 → Grown s → Fits T s → free_slots s ≤ free_slots r + 6 * cost T s
unfolding costs
goes-cost _ _ _ (six n p s u e d l a) h g b =
    let f = divided-slots s g p u e d (omega arith) a in let c = (cost-low n (look_up s p)).0 in omega arith
goes-cost _ _ _ (raised n p s r u w e z d l x f y k a) h g b =
    let ih = goes-cost (all_places u) s r x (omega arith) g (coming-start s g u (own s g p u e) z d) in
    let o = divided-slots r (goes-grown (all_places u) s r x (omega arith) g) p w f y (omega arith) a in
    let c = lower-cost s g n p b u e z d l in
    omega arith
goes-cost _ _ _ (each v j js s r u a b) h g c =
    let (on, less) = goes-coming v j js s r a h g c in
    let x = goes-cost (neighbour v.n.0 (adjacent_at v j)) s r a h g (coming-first v j js s g c) in
    let y = goes-cost (places v js) r u b h (goes-grown (neighbour v.n.0 (adjacent_at v j)) s r a h g) on in
    omega arith
goes-cost _ _ _ (all v s e) h g c = omega arith

abbrev Bound : ℕ → Task → List ℕ → Type 0
Bound x T s = (x ≢ 7) × (x ≡ 8 → free_slots s < 6 * cost T s)

meets-cost : (x : ℕ) (T : Task) (s : List ℕ) → Meets x T s → level_of T < 12 → Grown s → Fits T s → Bound x T s
unfolding costs
meets-cost x _ _ (first.absent n p s e q) h g b = absurd (beside-held s p n b e)
meets-cost x _ _ (first.other n p s u e d l q) h g b = go (beside-is s p n b u e)
  where
    go : (u.d ≡ 0) ⊎ (((u.d ≡ 6) × (u.n.0 ≡ n)) ⊎ ((u.d ≢ 3) × (u.d ≢ 6) × (u.n.0 + 1 ≡ n))) → Bound x (neighbour n p) s
    go (inl z) = absurd (omega arith)
    go (inr (inl (z, k))) = absurd (l k)
    go (inr (inr (a, z, k))) = absurd (z d)
meets-cost x _ _ (first.far n p s u e d l k q) h g b = go (beside-is s p n b u e)
  where
    go : (u.d ≡ 0) ⊎ (((u.d ≡ 6) × (u.n.0 ≡ n)) ⊎ ((u.d ≢ 3) × (u.d ≢ 6) × (u.n.0 + 1 ≡ n))) → Bound x (neighbour n p) s
    go (inl z) = absurd (d z)
    go (inr (inl (z, i))) = absurd (l z)
    go (inr (inr (a, z, i))) = absurd (k i)
meets-cost x _ _ (first.boundary n p s u e d q) h g b = (λ y. omega arith, λ y. absurd (omega arith))
meets-cost x _ _ (first.denied n p s u e d l (tears t q)) h g b = absurd (untorn s g p u e d (omega arith) t)
meets-cost x _ _ (first.denied n p s u e d l (few t f q)) h g b =
    let c = (cost-low n (look_up s p)).0 in (λ y. omega arith, λ y. omega arith)
meets-cost x _ _ (first.raised n p s r u w e z d l y f i j (tears t q)) h g b =
    absurd (untorn r (goes-grown (all_places u) s r y (omega arith) g) p w f i (omega arith) t)
meets-cost x _ _ (first.raised n p s r u w e z d l y f i j (few t o q)) h g b =
    let ih = goes-cost (all_places u) s r y (omega arith) g (coming-start s g u (own s g p u e) z d) in
    let c = lower-cost s g n p b u e z d l in
    (λ y. omega arith, λ y. omega arith)
meets-cost x _ _ (first.lower n p s u e z d l m) h g b =
    let (a, f) = meets-cost x (all_places u) s m (omega arith) g (coming-start s g u (own s g p u e) z d) in
    let c = lower-cost s g n p b u e z d l in
    (a, λ y. (let k = f y in omega arith))
meets-cost x _ _ (first.now v j js s m) h g c =
    let (a, f) = meets-cost x (neighbour v.n.0 (adjacent_at v j)) s m h g (coming-first v j js s g c) in
    (a, λ y. (let k = f y in omega arith))
meets-cost x _ _ (first.later v j js s r y m) h g c =
    let (on, less) = goes-coming v j js s r y h g c in
    let z = goes-cost (neighbour v.n.0 (adjacent_at v j)) s r y h g (coming-first v j js s g c) in
    let (a, f) = meets-cost x (places v js) r m h (goes-grown (neighbour v.n.0 (adjacent_at v j)) s r y h g) on in
    (a, λ y. (let k = f y in omega arith))
meets-cost x _ _ (first.below v s e q) h g c = go c.left
  where
    go : Left v [] s → Bound x (places v []) s
    go (none (y, f, d)) = absurd (true≢false (sym (ap is_six f ∙ eq-eqb y.d 6 d) ∙ e))
    go (some y f z n w) =
        let i = sound s g v.at y f z in
        let top = i.top in
        let (j, m, k) = w ((y.k + 4 * 0) % 12) (omega arith) (place-missing y.d y.k 0 (omega arith)) in
        absurd (Memᴰ.not-nil m)

-- ---- the vertex asked
module _ (t : List ℕ) (g : Grown t) (v : Record) (held : look_up t v.at ≡ Some v) (rim-not : v.d ≢ 0) (six-not : v.d ≢ 6) where
  abbrev cost_at : ℕ → ℕ
  cost_at j = cost_of v.n.0 (look_up t (adjacent_at v j))

  three-places : v.d ≡ 3 → costs v (places_of v.d) t ≡ cost_at 0 + (cost_at 1 + (cost_at 2 + 0))
  unfolding costs run
  three-places d = ap (λ (n : ℕ). costs v (places_of n) t) d ∙ ap (λ (js : List ℕ). costs v js t) (places-first 3 (omega arith) (omega arith))

  -- of three neighbours the creator has degree 6
  three-cost : v.d ≡ 3 → (n : ℕ) → v.n.0 ≡ n → costs v (places_of v.d) t ≤ 2 * near_most v.n.0 + 1
  three-cost d zero l =
      let z : near_most v.n.0 ≡ 1 = ap near_most l ∙ unfold near_most in refl in
      let e = three-places d in
      let a = (cost-low v.n.0 (look_up t (adjacent_at v 0))).1 in
      let b = (cost-low v.n.0 (look_up t (adjacent_at v 1))).1 in
      let c = (cost-low v.n.0 (look_up t (adjacent_at v 2))).1 in
      omega arith
  three-cost d (suc i) l = go (creator-six t g v held rim-not six-not d i l)
    where
      total : (j : ℕ) → j < 3 → cost_at j ≡ 1 → costs v (places_of v.d) t ≤ 2 * near_most v.n.0 + 1
      total j h o =
          let e = three-places d in
          let a = (cost-low v.n.0 (look_up t (adjacent_at v 0))).1 in
          let b = (cost-low v.n.0 (look_up t (adjacent_at v 1))).1 in
          let c = (cost-low v.n.0 (look_up t (adjacent_at v 2))).1 in
          by j h o e a b c
        where
          by : (j : ℕ) → j < 3 → cost_at j ≡ 1 → costs v (places_of v.d) t ≡ cost_at 0 + (cost_at 1 + (cost_at 2 + 0)) → cost_at 0 ≤ near_most v.n.0
              → cost_at 1 ≤ near_most v.n.0 → cost_at 2 ≤ near_most v.n.0 → costs v (places_of v.d) t ≤ 2 * near_most v.n.0 + 1
          by zero h o e a b c = omega arith
          by (suc zero) h o e a b c = omega arith
          by (suc (suc zero)) h o e a b c = omega arith
          by (suc (suc (suc j))) h o e a b c = absurd (omega arith)

      go : (j : ℕ) × (j < 3) × (u : Record) × (look_up t (adjacent_at v j) ≡ Some u) × (u.d ≡ 6) → costs v (places_of v.d) t ≤ 2 * near_most v.n.0 + 1
      go (j, h, u, f, d6) = total j h (cost-six v.n.0 (look_up t (adjacent_at v j)) u f d6)

  most : Dec (v.d ≡ 3) → costs v (places_of v.d) t ≤ 2 * near_most v.n.0 + 1
  most (yes d) = three-cost d v.n.0 refl
  most (no d) = let c = two-cost t v (sound t g v.at v held rim-not) d in omega arith

  pub grown-met : v.n.0 < 12 → (x : ℕ) → Meets x (all_places v) t → (x ≢ 7) × (x ≡ 8 → free_slots t < 12 * near_most v.n.0 + 6)
  grown-met low x m =
      let (a, f) = meets-cost x (all_places v) t m low g (coming-start t g v held rim-not six-not) in
      let c = most (ℕ_discrete v.d 3) in
      (a, λ y. (let k = f y in omega arith))
