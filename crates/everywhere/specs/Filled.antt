-- Document 02, ticket 4: "or where the vertex ends below degree 6". It never does, on no table in order: where each neighbour has been subdivided,
-- at the vertex's own level, the vertex has degree 6.
-- `fills` a direction that is still missing has not been made: the subdivision of the vertex there would have taken it away · `filled` so where all
-- are made, the vertex has degree 6 · `Turns` each neighbour in turn is finished · `ends-six` then the
-- vertex has degree 6.
-- Assumes nothing.
use Rattle.std.specs.Prelude.{◌≡◌, ◌≢◌, ◌⊎◌, true, ℕ, zero, suc, ◌+◌, ◌*◌, ◌%◌, ◌-◌, ◌≤◌, ◌<◌, T, Some}
use Rattle.std.proofs.Common.{sym, ◌∙◌, ap, subst, inl, inr, arith}
use mathlib.Core.List.{List, [], ◌∷◌, ◌++◌, Memᴰ}
use Rattle.std.proofs.Math.Decide.{ℕ_discrete}
use Rattle.laws.specs.Choices.{of-true}
use Rattle.lattice.specs.Points.{is_normal}
use Rattle.lattice.specs.Records.{valid_of}
use Rattle.lattice.specs.RecordLaws.{Inner, inner}
use Rattle.lattice.specs.Stars.{adjacent_at}
use Rattle.lattice.specs.Ranks.{move_of}
use Rattle.lattice.specs.Subdivision.{new_of, back_of, update_of, accepts_of}
use Rattle.lattice.specs.declared.points.Point.{Point}
use Rattle.lattice.specs.declared.records.Record.{Record}
use Rattle.table.specs.Entries.{look_up}
use Rattle.table.specs.Order.{InOrder}
use Rattle.table.specs.MapLaws.{lookup-valid, lookup-point}
use Rattle.mesh.specs.Subdivide.{subdivided}
use Rattle.mesh.specs.SubdivideLaws.{Intact, old, subdivided-old}
use Rattle.mesh.specs.StepLaws.{held_same}
use Rattle.bring.specs.Bring.{places_of}
use Rattle.bring.specs.ChainLaws.{run, places-first}
use Rattle.everywhere.specs.Runs.{Division, Run, here, next, run_on, Six}
use Rattle.everywhere.specs.Missing.{lacks, place-missing, missing-place, place-step, Updated, less, last, updated, updated-off}
use Rattle.everywhere.specs.Missing.{missing-parity, adjacent-from}
use Rattle.everywhere.specs.Histories.{absent-held, Change, centre, beside, same, came, six-stays, Stepped, stepped}
use Rattle.everywhere.specs.Histories.{Rises, waits, risen, rises-run, run-order}
use Rattle.everywhere.specs.First.{neighbour, places, Goes}
use Rattle.everywhere.specs.Made.{Made, goes-made, both-made}

-- x stands where r stood, its degree is 3 to 5, and k was made since: it has r's level; what it is missing, r was missing, and k has not
pub record Waits (k : List Division) (p : Point) (r x : Record) : Type 0 where
  pub inside : x.d ≢ 0
  pub level : x.n.0 ≡ r.n.0
  pub more : (e : ℕ) → e < 12 → T (lacks x e) → T (lacks r e)
  pub unmade : (e : ℕ) → e < 12 → T (lacks x e) → Memᴰ (move_of p e r.n.0, r.n.0) k → ⊥

module _ (s : List ℕ) (v : Record) (w : Intact s v) (k : List Division) (p : Point) (r y x : Record) (f : look_up s p ≡ Some y) (at : y.at ≡ p)
    (e : look_up (subdivided s v) p ≡ Some x) (n6 : x.d ≢ 6) (ih : Waits k p r y) where
  good : T (valid_of y)
  good = of-true (lookup-valid s w.ready.order p y f)

  sound : T (valid_of v)
  sound = of-true (lookup-valid s w.ready.order v.at v w.ready.held)

  -- v stands in direction g of p, which y is missing: it is missing no more
  not_there : (g : ℕ) → g < 12 → T (lacks y g) → T (lacks x g) → move_of p g v.n.0 ≡ v.at → y.n.0 ≡ v.n.0 → ⊥
  not_there g h m z is lv =
      let iy = inner y good ih.inside in
      let par = iy.parity in
      let np = subst (λ (q : Point). T (is_normal q)) at iy.normal in
      let pg = missing-parity y.d y.k g m in
      seen (adjacent-from v p g sound w.ready.six np h (omega arith) is)
    where
      at_place : (j : ℕ) (hj : j < 6) → p ≡ adjacent_at v j → back_of v.k j ≡ g → look_up s (adjacent_at v j) ≡ Some y → (u : Record)
          → look_up s (adjacent_at v j) ≡ Some u → accepts_of (back_of v.k j) v.n.0 u ≡ true → ⊥
      at_place j hj q b l u i a =
          let acc : accepts_of (back_of v.k j) v.n.0 y ≡ true =
          subst (λ (c : Record). accepts_of (back_of v.k j) v.n.0 c ≡ true) (held_same (sym i ∙ l)) a in
          let now : x ≡ update_of (back_of v.k j) y = held_same (sym e ∙ ap (look_up (subdivided s v)) q ∙ subdivided-old s v w j hj y l) in
          updated-off (back_of v.k j) v.n.0 y (omega arith) good acc ih.inside
          (subst (λ (i : ℕ). T (lacks (update_of (back_of v.k j) y) i)) (sym b) (subst (λ (c : Record). T (lacks c g)) now z))

      seen : (j : ℕ) × (j < 6) × (p ≡ adjacent_at v j) × (back_of v.k j ≡ g) → ⊥
      seen (j, hj, q, b) = at_place j hj q b (ap (look_up s) (sym q) ∙ f) (old s v w j hj).0 (old s v w j hj).1 (old s v w j hj).2

  -- what x is missing, y was missing; and its level is y's
  kept : Change s v w p y → (x.d ≢ 0) × (x.n.0 ≡ y.n.0) × ((g : ℕ) → g < 12 → T (lacks x g) → T (lacks y g))
  kept (centre z q l) = absurd (n6 (ap (λ (c : Record). c.d) (held_same (sym e ∙ l)) ∙ w.ready.six))
  kept (same l) =
      let q : x ≡ y = held_same (sym e ∙ l) in
      ((λ z. ih.inside (ap (λ (c : Record). c.d) (sym q) ∙ z)), ap (λ (c : Record). c.n.0) q, λ g h m. subst (λ (c : Record). T (lacks c g)) q m)
  kept (beside j h z a l) = by (updated (back_of v.k j) v.n.0 y (omega arith) good a ih.inside).1
    where
      q : x ≡ update_of (back_of v.k j) y
      q = held_same (sym e ∙ l)

      by : Updated (back_of v.k j) y → (x.d ≢ 0) × (x.n.0 ≡ y.n.0) × ((g : ℕ) → g < 12 → T (lacks x g) → T (lacks y g))
      by (less a0 a6 al ff gg) =
          ((λ z. a0 (ap (λ (c : Record). c.d) (sym q) ∙ z)), ap (λ (c : Record). c.n.0) q ∙ al, λ g h m. gg g h (subst (λ (c : Record). T (lacks c g)) q m))
      by (last d6 al ff) = absurd (n6 (ap (λ (c : Record). c.d) q ∙ d6))

  waits-step : Change s v w p y → Waits ((v.at, v.n.0) ∷ k) p r x
  waits-step c =
      let (nz, lv, sub) = kept c in
      let lw = ih.level in
      record {
        inside = nz;
        level = lv ∙ lw;
        more = λ g h m. ih.more g h (sub g h m);
        unmade = λ g h m i. by g h m (sub g h m) (mathlib.Core.List.Memᴰ.cases_cons i);
      }
    where
      by : (g : ℕ) → g < 12 → T (lacks x g) → T (lacks y g)
          → (◌≡◌ {A = Division} (move_of p g r.n.0, r.n.0) (v.at, v.n.0)) ⊎ Memᴰ (move_of p g r.n.0, r.n.0) k → ⊥
      by g h m n (inr i) = ih.unmade g h n i
      by g h m n (inl i) =
          let a : move_of p g r.n.0 ≡ v.at = ap (λ (d : Division). d.0) i in
          let b : r.n.0 ≡ v.n.0 = ap (λ (d : Division). d.1) i in
          not_there g h n m (ap (move_of p g) (sym b) ∙ a) (ih.level ∙ b)

rises-held : (k : List Division) (u : List ℕ) (p : Point) (r : Record) → Rises k u p r → (x : Record) × (look_up u p ≡ Some x)
rises-held k u p r (waits x e a b c d) = (x, e)
rises-held k u p r (risen x e a b c) = (x, e)

pub fills : (t u : List ℕ) (k : List Division) → Run t k u → (p : Point) (r : Record) → look_up t p ≡ Some r → r.d ≢ 0 → r.d ≢ 6
    → (x : Record) → look_up u p ≡ Some x → x.d ≢ 6 → Waits k p r x
fills t _ _ here p r e z n x f n6 =
    let q : x ≡ r = held_same (sym f ∙ e) in
    record {
      inside = λ y. z (ap (λ (c : Record). c.d) (sym q) ∙ y);
      level = ap (λ (c : Record). c.n.0) q;
      more = λ g h m. subst (λ (c : Record). T (lacks c g)) q m;
      unmade = λ g h m i. mathlib.Core.List.Memᴰ.not-nil i;
    }
fills t _ _ (next k s q v l c) p r e z n x f n6 = go (came s v w p x f') (λ y g m. fills t s k q p r e z n y g m)
  where
    st : Stepped s v
    st = stepped s v l c

    w : Intact s v
    w = st.whole

    f' : look_up (subdivided s v) p ≡ Some x
    f' = ap (λ (a : List ℕ). look_up a p) st.is ∙ f

    go : ((y : Record) × (look_up s p ≡ Some y) × Change s v w p y) ⊎ ((j : ℕ) × (j < 6) × (p ≡ (new_of v j).at) × (x ≡ new_of v j))
        → ((y : Record) → look_up s p ≡ Some y → y.d ≢ 6 → Waits k p r y) → Waits ((v.at, v.n.0) ∷ k) p r x
    go (inr (j, h, a, b)) ih =
        let (y, g) = rises-held k s p r (rises-run t s k q p r e z n) in
        absent-held (sym (w.fresh j h) ∙ ap (look_up s) (sym a) ∙ g)
    go (inl (y, g, ch)) ih =
        let y6 : y.d ≢ 6 = λ d. (let (a, b, d6, le) = six-stays s v w p y g d in n6 (ap (λ (c : Record). c.d) (held_same (sym f' ∙ b)) ∙ d6)) in
        waits-step s v w k p r y x g (lookup-point s w.ready.order p y g) f' n6 (ih y g y6) ch

-- all that r was missing has been made
pub filled : (t u : List ℕ) (k : List Division) → InOrder t → Run t k u → (p : Point) (r : Record) → look_up t p ≡ Some r → r.d ≢ 0 → r.d ≢ 6
    → ((e : ℕ) → e < 12 → T (lacks r e) → Memᴰ (move_of p e r.n.0, r.n.0) k) → Six u p
filled t u k o q p r e z n made = go (rises-run t u k q p r e z n)
  where
    go : Rises k u p r → Six u p
    go (risen x l d h f) = (x, l, d)
    go (waits x l a0 a6 lv f) =
        let w = fills t u k q p r e z n x l a6 in
        let i = inner x (of-true (lookup-valid u (run-order t u k o q) p x l)) a0 in
        let top = i.top in
        let g = (x.k + 4 * 0) % 12 in
        let h : g < 12 = omega arith in
        let m : T (lacks x g) = place-missing x.d x.k 0 (omega arith) in
        absurd (w.unmade g h m (made g h (w.more g h m)))

-- ---- each neighbour in turn is finished; how the vertex stands then is not asked
pub data Turns (v : Record) : List ℕ → List ℕ → List ℕ → Type 0 where
  none : (s : List ℕ) → Turns v [] s s
  turn : (j : ℕ) (js s r u : List ℕ) → Goes (neighbour v.n.0 (adjacent_at v j)) s r → Turns v js r u → Turns v (j ∷ js) s u

turns-made : (v : Record) (js s u : List ℕ) → Turns v js s u → v.n.0 < 12 → InOrder s → (k : List Division) × Run s k u × Made (places v js) k
turns-made v _ _ _ (none s) h o = ([], here, λ j m. absurd (mathlib.Core.List.Memᴰ.not-nil m))
turns-made v _ _ _ (turn j js s r u g ts) h o =
    let (k, q, m, c) = goes-made (neighbour v.n.0 (adjacent_at v j)) s r g h o in
    let (l, y, n) = turns-made v js r u ts h (run-order s r k o q) in
    (l ++ k, run_on s r u k l q y, both-made v j js k l m n)

pub in-run : (n j i : ℕ) → j ≤ i → i < j + n → Memᴰ i (run j n)
unfolding run
in-run zero j i l h = absurd (omega arith)
in-run (suc n) j i l h = go (ℕ_discrete i j) (λ k. in-run n (j + 1) i k (omega arith))
  where
    go : Dec (i ≡ j) → (j + 1 ≤ i → Memᴰ i (run (j + 1) n)) → Memᴰ i (j ∷ run (j + 1) n)
    go (yes e) ih = mathlib.Core.List.Memᴰ.head e
    go (no e) ih = mathlib.Core.List.Memᴰ.tail (ih (omega arith))

pub run_in : (n j i : ℕ) → Memᴰ i (run j n) → (j ≤ i) × (i < j + n)
unfolding run
run_in zero j i m = absurd (mathlib.Core.List.Memᴰ.not-nil m)
run_in (suc n) j i m = go (mathlib.Core.List.Memᴰ.cases_cons m) (λ k. run_in n (j + 1) i k)
  where
    go : (i ≡ j) ⊎ Memᴰ i (run (j + 1) n) → (Memᴰ i (run (j + 1) n) → (j + 1 ≤ i) × (i < j + 1 + n)) → (j ≤ i) × (i < j + suc n)
    go (inl e) ih = (omega arith, omega arith)
    go (inr k) ih = let (a, b) = ih k in (omega arith, omega arith)

-- "or where the vertex ends below degree 6": it has degree 6
pub ends-six : (t : List ℕ) → InOrder t → (v : Record) → look_up t v.at ≡ Some v → v.d ≢ 0 → v.d ≢ 6 → v.n.0 < 12
    → (u : List ℕ) → Turns v (places_of v.d) t u → Six u v.at
ends-six t o v e z n low u ts =
    let (k, q, m) = turns-made v (places_of v.d) t u ts low o in
    filled t u k o q v.at v e z n (λ g h x. by k m g (missing-place v.d v.k g x))
  where
    good : T (valid_of v)
    good = of-true (lookup-valid t o v.at v e)

    i : Inner v
    i = inner v good z

    by : (k : List Division) → Made (places v (places_of v.d)) k → (g : ℕ) → (j : ℕ) × (j < 6 - v.d) × (g ≡ (v.k + 4 * j) % 12)
        → Memᴰ (move_of v.at g v.n.0, v.n.0) k
    by k m g (j, h, x) =
        let p : Memᴰ j (places_of v.d) =
        subst (Memᴰ j) (sym (places-first v.d i.low i.top)) (in-run (6 - v.d) 0 j (omega arith) (omega arith)) in
        let s : adjacent_at v j ≡ move_of v.at g v.n.0 = place-step v j good z h ∙ ap (λ (c : ℕ). move_of v.at c v.n.0) (sym x) in
        subst (λ (c : Point). Memᴰ (c, v.n.0) k) s (m j p)
