-- The rules of a subdivision are one-to-one on what they accept: what a rule leaves tells what it was (`earlier-update`), case by case of the rule.
-- `former-centre` the vertex itself · `earlier-at` its point stays.
-- Assumes nothing.
use Rattle.std.specs.Prelude.{◌≡◌, refl, ◌⊎◌, Bool, true, false, cond, ℕ, ◌+◌, ◌-◌, ◌%◌, ◌<◌, eqb, T}
use Rattle.std.proofs.Common.{sym, ap, ◌∙◌, inl, inr, arith}
use borrow.Author.Tests.{eq-eqb, ne_eqb}
use Rattle.lattice.specs.Records.{orientations_of, valid_of}
use Rattle.lattice.specs.RecordLaws.{inner}
use Rattle.lattice.specs.Subdivision.{centre_of, update_of, accepts_of}
use Rattle.lattice.specs.declared.records.Record.{Record}
use Rattle.geometry.specs.SubdivisionLaws.{update-boundary, update-three, update-four, update-five, Rule, three, four, five, accepted}
use Rattle.undoing.specs.Earlier.{former_of, with, earlier_of}

-- ---- the vertex itself
pub former-centre : (v : Record) → v.k < 2 → former_of (centre_of v) ≡ v
former-centre v l =
    let ek : ((v.k + 1) % 2 + 1) % 2 ≡ v.k = turn v.k l in
    let en : v.n.0 + 1 - 1 ≡ v.n.0 = omega arith in
    λ i. record { at = v.at; d = v.d; k = ek i; n = record { 0 = en i } }
  where
    turn : (k : ℕ) → k < 2 → ((k + 1) % 2 + 1) % 2 ≡ k
    turn k l = omega arith

-- ---- the rules backwards, one by one
module _ (k' : ℕ) (w : Record) where
  earlier-boundary : w.d ≡ 0 → earlier_of k' w ≡ w
  unfolding earlier_of
  earlier-boundary e = rw e

  earlier-four : w.d ≡ 4 → earlier_of k' w ≡ with w 3 (k' % 4)
  unfolding earlier_of
  earlier-four e = rw e

  earlier-five : w.d ≡ 5 → w.k ≡ (k' + 4) % 12 → earlier_of k' w ≡ with w 4 k'
  unfolding earlier_of
  earlier-five e k = rw (e, eq-eqb w.k ((k' + 4) % 12) k)

  earlier-five-back : w.d ≡ 5 → (w.k ≡ (k' + 4) % 12 → ⊥) → earlier_of k' w ≡ with w 4 ((k' + 8) % 12)
  unfolding earlier_of
  earlier-five-back e k = rw (e, ne_eqb w.k ((k' + 4) % 12) k)

  earlier-six : w.d ≡ 6 → earlier_of k' w ≡ record { at = w.at; d = 5; k = k'; n = record { 0 = w.n.0 - 1 } }
  unfolding earlier_of
  earlier-six e = rw e

-- a third of a turn either way is not the same
apart : (k' : ℕ) → (k' + 8) % 12 ≡ (k' + 4) % 12 → ⊥
apart k' e = omega arith

-- ---- what a rule leaves tells what it was
module _ (k' n : ℕ) (u : Record) (hk : k' < 12) (ok : T (valid_of u)) (acc : T (accepts_of k' n u)) where
  abbrev Told : Type 0
  Told = earlier_of k' (update_of k' u) ≡ u

  from : (w : Record) → update_of k' u ≡ w → earlier_of k' w ≡ u → Told
  from w e b = ap (earlier_of k') e ∙ b

  turned : (u.d ≡ 0 → ⊥) → u.k < orientations_of u.d
  turned z = (inner u ok z).turn

  pub earlier-update : earlier_of k' (update_of k' u) ≡ u
  earlier-update = go (accepted k' n u acc)
    where
      four-case : u.d ≡ 4 → (u.k ≡ k') ⊎ ((u.k + 4) % 12 ≡ k') → Told
      four-case e (inl x) =
          let w = with u 5 ((k' + 4) % 12) in
          from w (update-four k' u e ∙ ap (λ (b : Bool). with u 5 (cond b ((k' + 4) % 12) ((k' + 8) % 12))) (eq-eqb u.k k' x))
          (earlier-five k' w refl refl ∙ (λ i. record { at = u.at; d = sym e i; k = sym x i; n = u.n }))
      four-case e (inr x) =
          let w = with u 5 ((k' + 8) % 12) in
          let small : u.k < 12 = (let y = turned (omega arith) in rw e at y) in
          let ne : u.k ≡ k' → ⊥ = λ y. not_same u.k k' small x y in
          let kk : (k' + 8) % 12 ≡ u.k = back-turn u.k k' small x in
          from w (update-four k' u e ∙ ap (λ (b : Bool). with u 5 (cond b ((k' + 4) % 12) ((k' + 8) % 12))) (ne_eqb u.k k' ne))
          (earlier-five-back k' w refl (apart k') ∙ (λ i. record { at = u.at; d = sym e i; k = kk i; n = u.n }))
        where
          not_same : (k x : ℕ) → k < 12 → (k + 4) % 12 ≡ x → k ≡ x → ⊥
          not_same k x a b c = omega arith

          back-turn : (k x : ℕ) → k < 12 → (k + 4) % 12 ≡ x → (x + 8) % 12 ≡ k
          back-turn k x a b = omega arith

      go : (u.d ≡ 0) ⊎ ((u.n.0 ≡ n) × Rule k' u) → Told
      go (inl e) = from u (update-boundary k' u e) (earlier-boundary k' u e)
      go (inr (l, three e k)) =
          let w = with u 4 ((k' + 4) % 12) in
          from w (update-three k' u e) (earlier-four k' w refl ∙ (λ i. record { at = u.at; d = sym e i; k = k i; n = u.n }))
      go (inr (l, four e k)) = four-case e k
      go (inr (l, five e k)) =
          let w : Record = record { at = u.at; d = 6; k = (k' + 1) % 2; n = record { 0 = u.n.0 + 1 } } in
          let m : u.n.0 + 1 - 1 ≡ u.n.0 = omega arith in
          from w (update-five k' u e) (earlier-six k' w refl ∙ (λ i. record { at = u.at; d = sym e i; k = k i; n = record { 0 = m i } }))

-- ---- its point
pub earlier-at : (k' : ℕ) (w : Record) → (earlier_of k' w).at ≡ w.at
unfolding earlier_of
earlier-at k' w = go (eqb w.d 4) (eqb w.d 5) (eqb w.d 6)
  where
    go : (a b c : Bool)
        → (cond a (with w 3 (k' % 4)) (cond b (with w 4 (cond (eqb w.k ((k' + 4) % 12)) k' ((k' + 8) % 12)))
        (cond c (record { at = w.at; d = 5; k = k'; n = record { 0 = w.n.0 - 1 } }) w))).at
        ≡ w.at
    go true b c = refl
    go false true c = refl
    go false false true = refl
    go false false false = refl
