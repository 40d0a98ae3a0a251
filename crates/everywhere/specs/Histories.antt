-- What a sequence of accepted subdivisions does to one vertex of a table in order, grown or not.
-- `Change`, `change` what one subdivision makes of a record that stands · `came` where a record comes from ·
-- `Rises`, `rises-run`, `rises-born` a vertex of degree 3 to 5 keeps its level until the sequence has a subdivision in each direction that it was
-- missing, at that level; then it has degree 6 and a higher level · `Origin`, `origin` a vertex of degree 3 to 5 stood at the beginning, missing at
-- least as much, or was made by a subdivision of the sequence · `divided-six` what was subdivided has degree 6 and a higher level · `run-order`,
-- `level-run`, `six-run`, `rim-run`, `rim-origin` what stays.
-- Assumes nothing.
use Rattle.std.specs.Prelude.{◌≡◌, refl, ◌≢◌, ◌⊎◌, true, ℕ, suc, ◌+◌, ◌%◌, ◌-◌, ◌≤◌, ◌<◌, T, Option, Some, None}
use Rattle.std.proofs.Common.{sym, ◌∙◌, ap, subst, inl, inr, arith}
use mathlib.Core.List.Memᴰ
use mathlib.Core.List.{List, [], ◌∷◌, Memᴰ}
use Rattle.std.proofs.Math.Decide.{ℕ_discrete}
use Rattle.laws.specs.Choices.{of-true}
use Rattle.lattice.specs.Records.{valid_of, orientations_of}
use Rattle.lattice.specs.RecordLaws.{inner}
use Rattle.lattice.specs.Stars.{adjacent_at}
use Rattle.lattice.specs.Ranks.{move_of}
use Rattle.lattice.specs.Subdivision.{centre_of, new_of, back_of, update_of, accepts_of}
use Rattle.lattice.specs.declared.points.Point.{Point}
use Rattle.lattice.specs.declared.records.Record.{Record}
use Rattle.geometry.specs.SubdivisionLaws.{update-boundary}
use Rattle.growth.specs.Sheets.{vertex}
use Rattle.growth.specs.Normal.{point?}
use Rattle.growth.specs.GrownLaws.{among}
use Rattle.table.specs.Entries.{look_up}
use Rattle.table.specs.Order.{InOrder}
use Rattle.table.specs.MapLaws.{lookup-valid, test-order}
use Rattle.mesh.specs.Subdivide.{MeshAfter, subdivided, subdivide_of}
use Rattle.mesh.specs.SubdivideLaws.{Intact, old, subdivided-order, subdivided-centre, subdivided-new, subdivided-old, subdivided-rest}
use Rattle.mesh.specs.CaseLaws.{Subdivision, refused, made, subdivision}
use Rattle.mesh.specs.StepLaws.{own-looked, held_same}
use Rattle.everywhere.specs.Runs.{Division, divide_at, Run, here, next, Six}
use Rattle.everywhere.specs.Missing.{lacks, Updated, less, last, updated, six-refused, divided-from}

pub absent-held : {A : Type 0} {r : Record} → None ≡ Some r → A
absent-held {A} {r} e = absurd (let z : ◌≡◌ {A = ℕ} 0 1 = cc in omega arith)

-- ---- one subdivision
module _ (s : List ℕ) (v : Record) (w : Intact s v) where
  abbrev s' : List ℕ
  s' = subdivided s v

  -- the record u at p
  pub data Change (p : Point) (u : Record) : Type 0 where
    centre : p ≡ v.at → u ≡ v → look_up s' p ≡ Some (centre_of v) → Change p u
    beside : (j : ℕ) → j < 6 → p ≡ adjacent_at v j → accepts_of (back_of v.k j) v.n.0 u ≡ true → look_up s' p ≡ Some (update_of (back_of v.k j) u)
        → Change p u
    same : look_up s' p ≡ Some u → Change p u

  pub change : (p : Point) (u : Record) → look_up s p ≡ Some u → Change p u
  change p u e = go (point? p v.at) (among (λ j. (new_of v j).at) p 6) (among (adjacent_at v) p 6)
    where
      go : Dec (p ≡ v.at) → Dec ((j : ℕ) × (j < 6) × (p ≡ (new_of v j).at)) → Dec ((j : ℕ) × (j < 6) × (p ≡ adjacent_at v j)) → Change p u
      go (yes z) n a = centre z (held_same (sym e ∙ ap (look_up s) z ∙ w.ready.held)) (ap (look_up s') z ∙ subdivided-centre s v w)
      go (no c) (yes (j, h, z)) a = absent-held (sym (w.fresh j h) ∙ ap (look_up s) (sym z) ∙ e)
      go (no c) (no n) (yes (j, h, z)) =
          let l : look_up s (adjacent_at v j) ≡ Some u = ap (look_up s) (sym z) ∙ e in
          let (x, f, a) = old s v w j h in
          beside j h z (subst (λ (r : Record). accepts_of (back_of v.k j) v.n.0 r ≡ true) (held_same (sym f ∙ l)) a)
          (ap (look_up s') z ∙ subdivided-old s v w j h u l)
      go (no c) (no n) (no a) = same (subdivided-rest s v w p c (λ j h z. n (j, h, z)) (λ j h z. a (j, h, z)) ∙ e)

  -- a record that stands after it stood before, or is new
  pub came : (p : Point) (x : Record) → look_up s' p ≡ Some x
      → ((u : Record) × (look_up s p ≡ Some u) × Change p u) ⊎ ((j : ℕ) × (j < 6) × (p ≡ (new_of v j).at) × (x ≡ new_of v j))
  came p x e = looked (look_up s p) refl
    where
      new : look_up s p ≡ None → Dec (p ≡ v.at) → Dec ((j : ℕ) × (j < 6) × (p ≡ (new_of v j).at)) → Dec ((j : ℕ) × (j < 6) × (p ≡ adjacent_at v j))
          → (j : ℕ) × (j < 6) × (p ≡ (new_of v j).at) × (x ≡ new_of v j)
      new g (yes z) n a = absent-held (sym g ∙ ap (look_up s) z ∙ w.ready.held)
      new g (no c) (yes (j, h, z)) a = (j, h, z, held_same (sym e ∙ ap (look_up s') z ∙ subdivided-new s v w j h))
      new g (no c) (no n) (yes (j, h, z)) = let (u, f, a) = old s v w j h in absent-held (sym g ∙ ap (look_up s) z ∙ f)
      new g (no c) (no n) (no a) = absent-held (sym g ∙ sym (subdivided-rest s v w p c (λ j h z. n (j, h, z)) (λ j h z. a (j, h, z))) ∙ e)

      looked : (l : Option Record) → look_up s p ≡ l
          → ((u : Record) × (look_up s p ≡ Some u) × Change p u) ⊎ ((j : ℕ) × (j < 6) × (p ≡ (new_of v j).at) × (x ≡ new_of v j))
      looked None g = inr (new g (point? p v.at) (among (λ j. (new_of v j).at) p 6) (among (adjacent_at v) p 6))
      looked (Some u) g = inl (u, g, change p u g)

  good : (p : Point) (u : Record) → look_up s p ≡ Some u → T (valid_of u)
  good p u e = of-true (lookup-valid s w.ready.order p u e)

  centre-sound : T (valid_of v)
  centre-sound = good v.at v w.ready.held

  back_low : (j : ℕ) → back_of v.k j < 12
  back_low j = omega arith

  -- ---- degree 6 stays, the rim stays
  pub six-stays : (p : Point) (u : Record) → look_up s p ≡ Some u → u.d ≡ 6 → (x : Record) × (look_up s' p ≡ Some x) × (x.d ≡ 6) × (u.n.0 ≤ x.n.0)
  six-stays p u e six = go (change p u e)
    where
      go : Change p u → (x : Record) × (look_up s' p ≡ Some x) × (x.d ≡ 6) × (u.n.0 ≤ x.n.0)
      go (centre z y l) = let m = ap (λ (r : Record). r.n.0) y in (centre_of v, l, w.ready.six, omega arith)
      go (beside j h z a l) = absurd (six-refused (back_of v.k j) v.n.0 u a six)
      go (same l) = (u, l, six, omega arith)

  pub rim-stays : (p : Point) (u : Record) → look_up s p ≡ Some u → u.d ≡ 0 → look_up s' p ≡ Some u
  rim-stays p u e rim = go (change p u e)
    where
      go : Change p u → look_up s' p ≡ Some u
      go (centre z y l) = let m = ap (λ (r : Record). r.d) y in let n = w.ready.six in absurd (omega arith)
      go (beside j h z a l) = l ∙ ap Some (update-boundary (back_of v.k j) u rim)
      go (same l) = l

  -- what stands on the rim after it stood there before
  pub rim-came : (p : Point) (x : Record) → look_up s' p ≡ Some x → x.d ≡ 0 → look_up s p ≡ Some x
  rim-came p x e rim = go (came p x e)
    where
      at : (u : Record) → look_up s p ≡ Some u → Change p u → Dec (u.d ≡ 0) → look_up s p ≡ Some x
      at u f c (yes z) = f ∙ ap Some (held_same (sym (rim-stays p u f z) ∙ e))
      at u f (centre z y l) (no n) = let m = ap (λ (r : Record). r.d) (held_same (sym l ∙ e)) in let k = w.ready.six in absurd (omega arith)
      at u f (same l) (no n) = absurd (n (ap (λ (r : Record). r.d) (held_same (sym l ∙ e)) ∙ rim))
      at u f (beside j h z a l) (no n) =
          by (updated (back_of v.k j) v.n.0 u (back_low j) (good p u f) a n).1 (ap (λ (r : Record). r.d) (held_same (sym l ∙ e)) ∙ rim)
        where
          by : Updated (back_of v.k j) u → (update_of (back_of v.k j) u).d ≡ 0 → look_up s p ≡ Some x
          by (less nz n6 lv f g) q = absurd (nz q)
          by (last d6 lv f) q = absurd (omega arith)

      go : ((u : Record) × (look_up s p ≡ Some u) × Change p u) ⊎ ((j : ℕ) × (j < 6) × (p ≡ (new_of v j).at) × (x ≡ new_of v j)) → look_up s p ≡ Some x
      go (inl (u, f, c)) = at u f c (ℕ_discrete u.d 0)
      go (inr (j, h, z, y)) = let m = ap (λ (r : Record). r.d) y in absurd (omega arith)

  -- a level not above m stays so, where the centre's is below m
  level-stays : (m : ℕ) → v.n.0 < m → (p : Point) (u : Record) → look_up s p ≡ Some u → u.n.0 ≤ m → (x : Record) × (look_up s' p ≡ Some x) × (x.n.0 ≤ m)
  level-stays m b p u e a = go (change p u e)
    where
      go : Change p u → (x : Record) × (look_up s' p ≡ Some x) × (x.n.0 ≤ m)
      go (centre z y l) = (centre_of v, l, omega arith)
      go (same l) = (u, l, a)
      go (beside j h z q l) = (update_of (back_of v.k j) u, l, at (ℕ_discrete u.d 0))
        where
          by : (u.n.0 ≡ v.n.0) × Updated (back_of v.k j) u → (update_of (back_of v.k j) u).n.0 ≤ m
          by (i, less a0 a6 lv f g) = omega arith
          by (i, last d6 lv f) = omega arith

          at : Dec (u.d ≡ 0) → (update_of (back_of v.k j) u).n.0 ≤ m
          at (yes d) = let i = ap (λ (r : Record). r.n.0) (update-boundary (back_of v.k j) u d) in omega arith
          at (no d) = by (updated (back_of v.k j) v.n.0 u (back_low j) (good p u e) q d)

-- ---- a step of a sequence
pub record Stepped (s : List ℕ) (v : Record) : Type 0 where
  pub whole : Intact s v
  pub is : subdivided s v ≡ divide_at s v

pub stepped : (s : List ℕ) (v : Record) → look_up s v.at ≡ Some v → (subdivide_of s v.at.a v.at.b v.at.m.0).number ≡ 0 → Stepped s v
stepped s v e z = go (subdivision s v.at.a v.at.b v.at.m.0)
  where
    go : Subdivision s v.at.a v.at.b v.at.m.0 → Stepped s v
    go (refused x n h) = absurd (n (ap (λ (o : MeshAfter). o.number) h ∙ z))
    go (made u o l w h) =
        let q : u ≡ v = held_same (sym l ∙ own-looked s (test-order s o) v e) in
        record { whole = subst (Intact s) q w; is = ap (subdivided s) (sym q) ∙ ap (λ (o : MeshAfter). o.bytes) h }

-- a vertex of degree 6 is told by its point and level
pub six-is : (v : Record) → T (valid_of v) → v.d ≡ 6 → v ≡ vertex v.at 6 (v.n.0 % 2) v.n.0
six-is v t six =
    let i = inner v t (λ z. omega arith) in
    let p = i.parity in
    let k : v.k < 2 = turn v.d v.k six i.turn in
    let e : v.k ≡ v.n.0 % 2 = omega arith in
    λ j. vertex v.at (six j) (e j) v.n.0
  where
    turn : (d k : ℕ) → d ≡ 6 → k < orientations_of d → k < 2
    turn d k e h = rw e at h

-- ---- a vertex that is missing directions, followed on
-- r is what it was, k what has been made since, and u the table now
pub data Rises (k : List Division) (u : List ℕ) (p : Point) (r : Record) : Type 0 where
  waits : (x : Record) → look_up u p ≡ Some x → x.d ≢ 0 → x.d ≢ 6 → x.n.0 ≡ r.n.0
      → ((e : ℕ) → e < 12 → T (lacks r e) → T (lacks x e) ⊎ Memᴰ (move_of p e r.n.0, r.n.0) k) → Rises k u p r
  risen : (x : Record) → look_up u p ≡ Some x → x.d ≡ 6 → r.n.0 < x.n.0
      → ((e : ℕ) → e < 12 → T (lacks r e) → Memᴰ (move_of p e r.n.0, r.n.0) k) → Rises k u p r

pub rises-start : (k : List Division) (u : List ℕ) (p : Point) (r : Record) → look_up u p ≡ Some r → r.d ≢ 0 → r.d ≢ 6 → Rises k u p r
rises-start k u p r e z n = waits r e z n refl (λ e h m. inl m)

module _ (s : List ℕ) (v : Record) (w : Intact s v) (k : List Division) (p : Point) (r : Record) where
  abbrev k' : List Division
  k' = (v.at, v.n.0) ∷ k

  rises-step : Rises k s p r → Rises k' (subdivided s v) p r
  rises-step (risen x e six h f) =
      let (y, l, d, m) = six-stays s v w p x e six in
      risen y l d (omega arith) (λ e h m. Memᴰ.tail (f e h m))
  rises-step (waits x e nz n6 lv f) = go (change s v w p x e)
    where
      kept : (e : ℕ) → T (lacks x e) ⊎ Memᴰ (move_of p e r.n.0, r.n.0) k → T (lacks x e) ⊎ Memᴰ (move_of p e r.n.0, r.n.0) k'
      kept e (inl m) = inl m
      kept e (inr m) = inr (Memᴰ.tail m)

      go : Change s v w p x → Rises k' (subdivided s v) p r
      go (centre z y l) = absurd (n6 (ap (λ (r : Record). r.d) y ∙ w.ready.six))
      go (same l) = waits x l nz n6 lv (λ e h m. kept e (f e h m))
      go (beside j h z a l) = by (updated b v.n.0 x (back_low s v w j) (good s v w p x e) a nz)
        where
          b : ℕ
          b = back_of v.k j

          by : (x.n.0 ≡ v.n.0) × Updated b x → Rises k' (subdivided s v) p r
          by (lw, c) = cases c
            where
              -- the direction that it came from is that of v
              made-there : (e : ℕ) → e ≡ b → Memᴰ (move_of p e r.n.0, r.n.0) k'
              made-there e q =
                  let n : r.n.0 ≡ v.n.0 = sym lv ∙ lw in
                  let c : move_of p e r.n.0 ≡ v.at = (λ i. move_of (z i) (q i) (n i)) ∙ divided-from v j (centre-sound s v w) w.ready.six h in
                  Memᴰ.head (λ i. (c i, n i))

              cases : Updated b x → Rises k' (subdivided s v) p r
              cases (less a0 a6 al ff gg) = waits (update_of b x) l a0 a6 (al ∙ lv) (λ e h m. each e h (f e h m))
                where
                  pick : (e : ℕ) → (e ≡ b) ⊎ T (lacks (update_of b x) e) → T (lacks (update_of b x) e) ⊎ Memᴰ (move_of p e r.n.0, r.n.0) k'
                  pick e (inl q) = inr (made-there e q)
                  pick e (inr m) = inl m

                  each : (e : ℕ) → e < 12 → T (lacks x e) ⊎ Memᴰ (move_of p e r.n.0, r.n.0) k
                      → T (lacks (update_of b x) e) ⊎ Memᴰ (move_of p e r.n.0, r.n.0) k'
                  each e h (inl m) = pick e (ff e h m)
                  each e h (inr m) = inr (Memᴰ.tail m)
              cases (last d6 al ff) = risen (update_of b x) l d6 (omega (arith, lv)) (λ e h m. each e h (f e h m))
                where
                  each : (e : ℕ) → e < 12 → T (lacks x e) ⊎ Memᴰ (move_of p e r.n.0, r.n.0) k → Memᴰ (move_of p e r.n.0, r.n.0) k'
                  each e h (inl m) = made-there e (ff e h m)
                  each e h (inr m) = Memᴰ.tail m

pub rises-run : (t u : List ℕ) (k : List Division) → Run t k u → (p : Point) (r : Record) → look_up t p ≡ Some r → r.d ≢ 0 → r.d ≢ 6 → Rises k u p r
rises-run t _ _ here p r e z n = rises-start [] t p r e z n
rises-run t _ _ (next k s q v l x) p r e z n =
    let c = stepped s v l x in
    subst (λ (y : List ℕ). Rises ((v.at, v.n.0) ∷ k) y p r) c.is (rises-step s v c.whole k p r (rises-run t s k q p r e z n))

-- the vertex that the subdivision (c, i) enters at place j
abbrev pub born_at : Point → ℕ → ℕ → Record
born_at c i j = new_of (vertex c 6 (i % 2) i) j

new_is : (s : List ℕ) (v : Record) → Intact s v → (c : Point) (i : ℕ) → ◌≡◌ {A = Division} (c, i) (v.at, v.n.0) → (j : ℕ) → new_of v j ≡ born_at c i j
new_is s v w c i e j =
    ap (λ (r : Record). new_of r j) (six-is v (centre-sound s v w) w.ready.six) ∙ ap (λ (x : Division). born_at x.0 x.1 j) (sym e)

pub rises-born : (t u : List ℕ) (k : List Division) → Run t k u → (c : Point) (i : ℕ) → Memᴰ (c, i) k → (j : ℕ) → j < 6
    → Rises k u (born_at c i j).at (born_at c i j)
rises-born t _ _ here c i m j h = absurd (Memᴰ.not-nil m)
rises-born t _ _ (next k s q v l x) c i m j h = go (Memᴰ.cases_cons m) (λ n. rises-born t s k q c i n j h)
  where
    st : Stepped s v
    st = stepped s v l x

    go : (◌≡◌ {A = Division} (c, i) (v.at, v.n.0)) ⊎ Memᴰ (c, i) k → (Memᴰ (c, i) k → Rises k s (born_at c i j).at (born_at c i j))
        → Rises ((v.at, v.n.0) ∷ k) (divide_at s v) (born_at c i j).at (born_at c i j)
    go (inr n) ih =
        subst (λ (y : List ℕ). Rises ((v.at, v.n.0) ∷ k) y (born_at c i j).at (born_at c i j)) st.is
        (rises-step s v st.whole k (born_at c i j).at (born_at c i j) (ih n))
    go (inl e) ih =
        let n = new_is s v st.whole c i e j in
        let b : look_up (divide_at s v) (born_at c i j).at ≡ Some (born_at c i j) =
        sym (λ a. look_up (st.is a) (n a).at) ∙ subdivided-new s v st.whole j h ∙ ap Some n in
        rises-start ((v.at, v.n.0) ∷ k) (divide_at s v) (born_at c i j).at (born_at c i j) b (λ z. omega arith) (λ z. omega arith)

-- ---- what was subdivided, and the rim, followed on
pub divided-six : (t u : List ℕ) (k : List Division) → Run t k u → (q : Point) (i : ℕ) → Memᴰ (q, i) k
    → (x : Record) × (look_up u q ≡ Some x) × (x.d ≡ 6) × (i < x.n.0)
divided-six t _ _ here q i m = absurd (Memᴰ.not-nil m)
divided-six t _ _ (next k s r v l x) q i m = go (Memᴰ.cases_cons m) (λ n. divided-six t s k r q i n)
  where
    st : Stepped s v
    st = stepped s v l x

    go : (◌≡◌ {A = Division} (q, i) (v.at, v.n.0)) ⊎ Memᴰ (q, i) k
        → (Memᴰ (q, i) k → (x : Record) × (look_up s q ≡ Some x) × (x.d ≡ 6) × (i < x.n.0))
        → (x : Record) × (look_up (divide_at s v) q ≡ Some x) × (x.d ≡ 6) × (i < x.n.0)
    go (inr n) ih =
        let (y, e, six, lt) = ih n in
        let (z, f, d, le) = six-stays s v st.whole q y e six in
        (z, ap (λ (a : List ℕ). look_up a q) (sym st.is) ∙ f, d, omega arith)
    go (inl e) ih =
        let a : q ≡ v.at = ap (λ (d : Division). d.0) e in
        let b : i ≡ v.n.0 = ap (λ (d : Division). d.1) e in
        (centre_of v, sym (λ j. look_up (st.is j) (sym a j)) ∙ subdivided-centre s v st.whole, st.whole.ready.six, omega arith)

pub run-order : (t s : List ℕ) (l : List Division) → InOrder t → Run t l s → InOrder s
run-order t _ _ o here = o
run-order t _ _ o (next l s r v e z) = let c = stepped s v e z in subst InOrder c.is (subdivided-order s v c.whole)

-- no level rises above m, where all that is subdivided is below m
pub level-run : (t u : List ℕ) (k : List Division) → Run t k u → (m : ℕ) → ((x : Division) → Memᴰ x k → x.1 < m) → (p : Point) (r : Record)
    → look_up t p ≡ Some r → r.n.0 ≤ m → (x : Record) × (look_up u p ≡ Some x) × (x.n.0 ≤ m)
level-run t _ _ here m f p r e a = (r, e, a)
level-run t _ _ (next k s q v l z) m f p r e a =
    let c = stepped s v l z in
    let (y, g, b) = level-run t s k q m (λ x i. f x (Memᴰ.tail i)) p r e a in
    let (x, h, d) = level-stays s v c.whole m (f (v.at, v.n.0) (Memᴰ.head refl)) p y g b in
    (x, ap (λ (a : List ℕ). look_up a p) (sym c.is) ∙ h, d)

pub six-run : (t u : List ℕ) (k : List Division) → Run t k u → (p : Point) → Six t p → Six u p
six-run t _ _ here p six = six
six-run t _ _ (next k s q v l x) p six =
    let c = stepped s v l x in
    let (y, e, d) = six-run t s k q p six in
    let (z, f, d6, le) = six-stays s v c.whole p y e d in
    (z, ap (λ (a : List ℕ). look_up a p) (sym c.is) ∙ f, d6)

pub rim-run : (t u : List ℕ) (k : List Division) → Run t k u → (p : Point) (r : Record) → look_up t p ≡ Some r → r.d ≡ 0 → look_up u p ≡ Some r
rim-run t _ _ here p r e z = e
rim-run t _ _ (next k s q v l x) p r e z =
    let c = stepped s v l x in
    ap (λ (a : List ℕ). look_up a p) (sym c.is) ∙ rim-stays s v c.whole p r (rim-run t s k q p r e z) z

pub rim-origin : (t u : List ℕ) (k : List Division) → Run t k u → (p : Point) (r : Record) → look_up u p ≡ Some r → r.d ≡ 0 → look_up t p ≡ Some r
rim-origin t _ _ here p r e z = e
rim-origin t _ _ (next k s q v l x) p r e z =
    let c = stepped s v l x in
    rim-origin t s k q p r (rim-came s v c.whole p r (ap (λ (a : List ℕ). look_up a p) c.is ∙ e) z) z

-- ---- where a vertex of degree 3 to 5 comes from
pub data Origin (t : List ℕ) (l : List Division) (p : Point) (x : Record) : Type 0 where
  stood : (r : Record) → look_up t p ≡ Some r → r.d ≢ 0 → r.d ≢ 6 → r.n.0 ≡ x.n.0 → ((e : ℕ) → e < 12 → T (lacks x e) → T (lacks r e)) → Origin t l p x
  born : (c : Point) (i : ℕ) → Memᴰ (c, i) l → (j : ℕ) → j < 6 → p ≡ (born_at c i j).at → suc i ≡ x.n.0
      → ((e : ℕ) → e < 12 → T (lacks x e) → T (lacks (born_at c i j) e)) → Origin t l p x

-- one step more: the same level, and nothing that was not missing before
origin_on : (t : List ℕ) (l : List Division) (y : Division) (p : Point) (u x : Record) → u.n.0 ≡ x.n.0 → ((e : ℕ) → e < 12 → T (lacks x e) → T (lacks u e))
    → Origin t l p u → Origin t (y ∷ l) p x
origin_on t l y p u x n f (stood r e z s m g) = stood r e z s (m ∙ n) (λ e h k. g e h (f e h k))
origin_on t l y p u x n f (born c i m j h q lv g) = born c i (Memᴰ.tail m) j h q (lv ∙ n) (λ e h k. g e h (f e h k))

pub origin : (t s : List ℕ) (l : List Division) → Run t l s → (p : Point) (x : Record) → look_up s p ≡ Some x → x.d ≢ 0 → x.d ≢ 6 → Origin t l p x
origin t _ _ here p x e z n = stood x e z n refl (λ e h m. m)
origin t _ _ (next l s r v a b) p x e z n = go (came s v w p x e') (λ u f y k. origin t s l r p u f y k)
  where
    st : Stepped s v
    st = stepped s v a b

    w : Intact s v
    w = st.whole

    e' : look_up (subdivided s v) p ≡ Some x
    e' = ap (λ (c : List ℕ). look_up c p) st.is ∙ e

    go : ((u : Record) × (look_up s p ≡ Some u) × Change s v w p u) ⊎ ((j : ℕ) × (j < 6) × (p ≡ (new_of v j).at) × (x ≡ new_of v j))
        → ((u : Record) → look_up s p ≡ Some u → u.d ≢ 0 → u.d ≢ 6 → Origin t l p u) → Origin t ((v.at, v.n.0) ∷ l) p x
    go (inr (j, h, q, y)) ih =
        let i : new_of v j ≡ born_at v.at v.n.0 j = new_is s v w v.at v.n.0 refl j in
        let m : x.n.0 ≡ v.n.0 + 1 = ap (λ (r : Record). r.n.0) y in
        born v.at v.n.0 (Memᴰ.head refl) j h (q ∙ ap (λ (r : Record). r.at) i) (omega arith)
        (λ e h m. subst (λ (r : Record). T (lacks r e)) (y ∙ i) m)
    go (inl (u, f, c)) ih = at c
      where
        at : Change s v w p u → Origin t ((v.at, v.n.0) ∷ l) p x
        at (centre q y g) = absurd (n (ap (λ (r : Record). r.d) (held_same (sym e' ∙ g)) ∙ w.ready.six))
        at (same g) =
            let q : u ≡ x = held_same (sym g ∙ e') in
            origin_on t l (v.at, v.n.0) p u x (ap (λ (r : Record). r.n.0) q) (λ e h m. subst (λ (r : Record). T (lacks r e)) (sym q) m)
            (ih u f (λ y. z (ap (λ (r : Record). r.d) (sym q) ∙ y)) (λ y. n (ap (λ (r : Record). r.d) (sym q) ∙ y)))
        at (beside j h q y g) = rim (ℕ_discrete u.d 0)
          where
            is : update_of (back_of v.k j) u ≡ x
            is = held_same (sym g ∙ e')

            by : Updated (back_of v.k j) u → u.d ≢ 0 → Origin t ((v.at, v.n.0) ∷ l) p x
            by (last d6 lv ff) nz = absurd (n (ap (λ (r : Record). r.d) (sym is) ∙ d6))
            by (less a0 a6 lv ff gg) nz =
                origin_on t l (v.at, v.n.0) p u x (sym lv ∙ ap (λ (r : Record). r.n.0) is)
                (λ e h m. gg e h (subst (λ (r : Record). T (lacks r e)) (sym is) m))
                (ih u f nz (λ six. six-refused (back_of v.k j) v.n.0 u y six))

            rim : Dec (u.d ≡ 0) → Origin t ((v.at, v.n.0) ∷ l) p x
            rim (yes d) = absurd (z (ap (λ (r : Record). r.d) (sym is ∙ update-boundary (back_of v.k j) u d) ∙ d))
            rim (no d) = by (updated (back_of v.k j) v.n.0 u (back_low s v w j) (good s v w p u f) y d).1 d
