-- The turns of a vertex that are still to come, from one grown table to the next.
-- `Coming` the places to come: each neighbour across them is still wanted, and nothing else · `coming-start` at the start · `coming-on` once the first is
-- finished · `coming-beside` on a grown table the neighbour whose turn it is stands as Beside says.
-- Why it lasts: at the vertex's own level only the neighbour whose turn it was is subdivided (`Within`), so the others' directions stay missing.
-- Assumes nothing.
use Rattle.std.specs.Prelude.{◌≡◌, refl, ◌≢◌, ◌⊎◌, ℕ, zero, suc, ◌+◌, ◌*◌, ◌%◌, ◌-◌, ◌<◌, T, Some}
use Rattle.std.proofs.Common.{sym, ◌∙◌, ap, subst, inl, inr, arith}
use mathlib.Core.List.Memᴰ
use mathlib.Core.List.{List, [], ◌∷◌, Memᴰ}
use Rattle.laws.specs.Choices.{of-true}
use Rattle.lattice.specs.Records.{valid_of}
use Rattle.lattice.specs.RecordLaws.{Inner, inner}
use Rattle.lattice.specs.Ranks.{move_of}
use Rattle.lattice.specs.Stars.{adjacent_at}
use Rattle.lattice.specs.declared.points.Point.{Point}
use Rattle.lattice.specs.declared.records.Record.{Record}
use Rattle.geometry.specs.GeometryLaws.{move-inj}
use Rattle.table.specs.Entries.{look_up}
use Rattle.table.specs.MapLaws.{lookup-valid, lookup-point}
use Rattle.mesh.specs.Grown.{Grown}
use Rattle.mesh.specs.StepLaws.{held_same}
use Rattle.bring.specs.Bring.{places_of}
use Rattle.bring.specs.ChainLaws.{run, places-first}
use Rattle.everywhere.specs.Runs.{Division, Run, Six}
use Rattle.everywhere.specs.Missing.{lacks, place-missing, missing-place, place-step}
use Rattle.everywhere.specs.Histories.{Rises, waits, risen, rises-run, six-run}
use Rattle.everywhere.specs.First.{neighbour}
use Rattle.everywhere.specs.Made.{Made, Within}
use Rattle.everywhere.specs.Filled.{fills, Waits, in-run, run_in}
use Rattle.everywhere.specs.Beside.{Beside, grown-beside}

pub sound : (s : List ℕ) → Grown s → (p : Point) (u : Record) → look_up s p ≡ Some u → u.d ≢ 0 → Inner u
sound s g p u e z = inner u (of-true (lookup-valid s g.order p u e)) z

pub own : (s : List ℕ) → Grown s → (p : Point) (u : Record) → look_up s p ≡ Some u → look_up s u.at ≡ Some u
own s g p u e = ap (look_up s) (lookup-point s g.order p u e) ∙ e

-- ---- lists of places
-- no number of the list stands in it again
pub data Apart : List ℕ → Type 0 where
  nil : Apart []
  cons : (j : ℕ) (js : List ℕ) → ((i : ℕ) → Memᴰ i js → i ≢ j) → Apart js → Apart (j ∷ js)

first-apart : (j : ℕ) (js : List ℕ) → Apart (j ∷ js) → (i : ℕ) → Memᴰ i js → i ≢ j
first-apart j js (cons _ _ f a) = f

rest-apart : (j : ℕ) (js : List ℕ) → Apart (j ∷ js) → Apart js
rest-apart j js (cons _ _ f a) = a

run-apart : (n j : ℕ) → Apart (run j n)
unfolding run
run-apart zero j = nil
run-apart (suc n) j = cons j (run (j + 1) n) (λ i m e. (let (a, b) = run_in n (j + 1) i m in omega arith)) (run-apart n (j + 1))

-- ---- the turns to come
abbrev pub turn_to : Record → ℕ → ℕ
turn_to v j = (v.k + 4 * j) % 12

-- at v's point stands a vertex of v's level, which is still missing the direction of place j
pub record Ahead (v : Record) (j : ℕ) (s : List ℕ) : Type 0 where
  pub now : Record
  pub held : look_up s v.at ≡ Some now
  pub inside : now.d ≢ 0
  pub less : now.d ≢ 6
  pub level : now.n.0 ≡ v.n.0
  pub wants : T (lacks now (turn_to v j))

-- it has degree 6, or is missing no other direction
pub data Left (v : Record) (js s : List ℕ) : Type 0 where
  none : Six s v.at → Left v js s
  some : (x : Record) → look_up s v.at ≡ Some x → x.d ≢ 0 → x.d ≢ 6
      → ((e : ℕ) → e < 12 → T (lacks x e) → (j : ℕ) × Memᴰ j js × (e ≡ turn_to v j)) → Left v js s

pub record Coming (v : Record) (js s : List ℕ) : Type 0 where
  pub apart : Apart js
  pub place : (j : ℕ) → Memᴰ j js → (j < 3) × (adjacent_at v j ≡ move_of v.at (turn_to v j) v.n.0)
  pub ahead : (j : ℕ) → Memᴰ j js → Ahead v j s
  pub left : Left v js s

turn-same : (k i j : ℕ) → i < 3 → j < 3 → (k + 4 * i) % 12 ≡ (k + 4 * j) % 12 → i ≡ j
turn-same k zero zero hi hj e = refl
turn-same k zero (suc zero) hi hj e = absurd (omega arith)
turn-same k zero (suc (suc zero)) hi hj e = absurd (omega arith)
turn-same k zero (suc (suc (suc j))) hi hj e = absurd (omega arith)
turn-same k (suc zero) zero hi hj e = absurd (omega arith)
turn-same k (suc zero) (suc zero) hi hj e = refl
turn-same k (suc zero) (suc (suc zero)) hi hj e = absurd (omega arith)
turn-same k (suc zero) (suc (suc (suc j))) hi hj e = absurd (omega arith)
turn-same k (suc (suc zero)) zero hi hj e = absurd (omega arith)
turn-same k (suc (suc zero)) (suc zero) hi hj e = absurd (omega arith)
turn-same k (suc (suc zero)) (suc (suc zero)) hi hj e = refl
turn-same k (suc (suc zero)) (suc (suc (suc j))) hi hj e = absurd (omega arith)
turn-same k (suc (suc (suc i))) j hi hj e = absurd (omega arith)

-- two places lead to two points
apart-points : (v : Record) (i j : ℕ) → i < 3 → j < 3 → i ≢ j → adjacent_at v i ≡ move_of v.at (turn_to v i) v.n.0
    → adjacent_at v j ≡ move_of v.at (turn_to v j) v.n.0 → adjacent_at v i ≢ adjacent_at v j
apart-points v i j hi hj n p q e =
    n (turn-same v.k i j hi hj (move-inj v.at (turn_to v i) (turn_to v j) v.n.0 (omega arith) (omega arith) (sym p ∙ e ∙ q)))

module _ (s : List ℕ) (g : Grown s) (v : Record) where
  -- the neighbour whose turn it is
  pub coming-beside : (j : ℕ) → adjacent_at v j ≡ move_of v.at (turn_to v j) v.n.0 → Ahead v j s → Beside s (adjacent_at v j) v.n.0
  coming-beside j p a =
      let x = a.now in
      let at = lookup-point s g.order v.at x a.held in
      let l = a.level in
      let b = grown-beside s g x (own s g v.at x a.held) a.inside a.less (turn_to v j) a.wants in
      subst (λ (q : Point). Beside s q v.n.0) (sym p) (subst (λ (n : ℕ). Beside s (move_of v.at (turn_to v j) n) n) l
      (subst (λ (q : Point). Beside s (move_of q (turn_to v j) x.n.0) x.n.0) at b))

  -- at the start
  pub coming-start : look_up s v.at ≡ Some v → v.d ≢ 0 → v.d ≢ 6 → Coming v (places_of v.d) s
  coming-start e z n =
      let i = sound s g v.at v e z in
      subst (λ (js : List ℕ). Coming v js s) (sym (places-first v.d i.low i.top))
      (record {
        apart = run-apart (6 - v.d) 0;
        place = λ j m. (let (a, b) = run_in (6 - v.d) 0 j m in let l = i.low in (omega arith, place-step v j valid z (omega arith)));
        ahead = λ j m. (let (a, b) = run_in (6 - v.d) 0 j m in record {
          now = v;
          held = e;
          inside = z;
          less = n;
          level = refl;
          wants = place-missing v.d v.k j (omega arith);
        });
        left = some v e z n (λ d h m. there (missing-place v.d v.k d m));
      })
    where
      valid : T (valid_of v)
      valid = of-true (lookup-valid s g.order v.at v e)

      there : {d : ℕ} → (j : ℕ) × (j < 6 - v.d) × (d ≡ turn_to v j) → (j : ℕ) × Memᴰ j (run 0 (6 - v.d)) × (d ≡ turn_to v j)
      there (j, h, q) = (j, in-run (6 - v.d) 0 j (omega arith) (omega arith), q)

  -- once place j is finished
  module _ (j : ℕ) (js r : List ℕ) (k : List Division) (y : Run s k r) (m : Made (neighbour v.n.0 (adjacent_at v j)) k)
      (w : Within (neighbour v.n.0 (adjacent_at v j)) k) (c : Coming v (j ∷ js) s) where
    unmade : (i : ℕ) → Memᴰ i js → Memᴰ (adjacent_at v i, v.n.0) k → ⊥
    unmade i h x = go (w (adjacent_at v i, v.n.0) x)
      where
        go : (v.n.0 < v.n.0) ⊎ (◌≡◌ {A = Division} (adjacent_at v i, v.n.0) (adjacent_at v j, v.n.0)) → ⊥
        go (inl l) = omega arith
        go (inr q) =
            let (hi, pi) = c.place i (Memᴰ.tail h) in
            let (hj, pj) = c.place j (Memᴰ.head refl) in
            apart-points v i j hi hj (first-apart j js c.apart i h) pi pj (ap (λ (d : Division). d.0) q)

    ahead-on : (i : ℕ) → Memᴰ i js → Ahead v i r
    ahead-on i h = go (c.ahead i (Memᴰ.tail h))
      where
        go : Ahead v i s → Ahead v i r
        go a = by (rises-run s r k y v.at a.now a.held a.inside a.less)
          where
            -- that direction has not been made
            not_made : Memᴰ (move_of v.at (turn_to v i) a.now.n.0, a.now.n.0) k → ⊥
            not_made x =
                let p = (c.place i (Memᴰ.tail h)).1 in
                let l = a.level in
                unmade i h (subst (λ (q : Point). Memᴰ (q, v.n.0) k) (sym p)
                (subst (λ (n : ℕ). Memᴰ (move_of v.at (turn_to v i) n, n) k) l x))

            by : Rises k r v.at a.now → Ahead v i r
            by (risen x e d l f) = absurd (not_made (f (turn_to v i) (omega arith) a.wants))
            by (waits x e nz n6 l f) = pick (f (turn_to v i) (omega arith) a.wants)
              where
                pick : T (lacks x (turn_to v i)) ⊎ Memᴰ (move_of v.at (turn_to v i) a.now.n.0, a.now.n.0) k → Ahead v i r
                pick (inl o) = record { now = x; held = e; inside = nz; less = n6; level = l ∙ a.level; wants = o }
                pick (inr o) = absurd (not_made o)

    left-on : Left v (j ∷ js) s → Ahead v j s → Left v js r
    left-on (none h) a = none (six-run s r k y v.at h)
    left-on (some x e z n f) a = by (rises-run s r k y v.at x e z n)
      where
        same : a.now ≡ x
        same = held_same (sym a.held ∙ e)

        by : Rises k r v.at x → Left v js r
        by (risen u e6 d l f) = none (u, e6, d)
        by (waits u e6 nz n6 l h) = some u e6 nz n6 (λ d b o. pick d b o (f d b (fill.more d b o)))
          where
            fill : Waits k v.at x u
            fill = fills s r k y v.at x e z n u e6 n6

            pick : (d : ℕ) → d < 12 → T (lacks u d) → (i : ℕ) × Memᴰ i (j ∷ js) × (d ≡ turn_to v i) → (i : ℕ) × Memᴰ i js × (d ≡ turn_to v i)
            pick d b o (i, x, q) = at (Memᴰ.cases_cons x)
              where
                -- place j has been made
                gone : d ≡ turn_to v j → ⊥
                gone q =
                    let p = (c.place j (Memᴰ.head refl)).1 in
                    let l : a.now.n.0 ≡ v.n.0 = a.level in
                    fill.unmade d b o (subst (λ (n : ℕ). Memᴰ (move_of v.at d n, n) k) (sym l ∙ ap (λ (r : Record). r.n.0) same)
                    (subst (λ (q : Point). Memᴰ (q, v.n.0) k) (p ∙ ap (λ (e : ℕ). move_of v.at e v.n.0) (sym q)) m))

                at : (i ≡ j) ⊎ Memᴰ i js → (i : ℕ) × Memᴰ i js × (d ≡ turn_to v i)
                at (inl z) = absurd (gone (q ∙ ap (turn_to v) z))
                at (inr z) = (i, z, q)

    pub coming-on : Coming v js r
    coming-on =
        record {
          apart = rest-apart j js c.apart;
          place = λ i h. c.place i (Memᴰ.tail h);
          ahead = ahead-on;
          left = left-on c.left (c.ahead j (Memᴰ.head refl));
        }
