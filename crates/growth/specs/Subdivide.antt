-- M1 at the document's points: in the mesh of good counts no subdivision is torn, and a subdivision gives the mesh of the counts with one more.
-- A vertex of degree 6 of level n has orientation n mod 2, and its place j is direction e = 2j + k; so what is proved by directions (specs/OneStep) is
-- read by places.
-- `six-record` a record of degree 6 · `closed-whole`, `closed-step`, `closed-good` M1 · `closed-adjacent` M4.
-- Assumes nothing.
use Rattle.std.proofs.lemmas.Option.{none-some}
use Rattle.std.specs.Prelude.{◌≡◌, ◌≢◌, Bool, true, false, Option, Some}
use Rattle.std.proofs.Math.Path.{refl, ap, subst}
use Rattle.std.proofs.Common.{sym, ◌∙◌}
use Prim.Native.Nat.{ℕ, suc, ◌+◌, ◌*◌, ◌%◌, ◌/◌, ◌<◌}
use native.Mathlib.Omega.{arith}
use Rattle.std.proofs.Math.Dec.{T}
use Rattle.laws.specs.Choices.{is_true, of-true}
use Rattle.lattice.specs.Points.{is_normal}
use Rattle.lattice.specs.Stars.{adjacent_at}
use Rattle.lattice.specs.Ranks.{move_of, rank_of}
use Rattle.geometry.specs.GeometryLaws.{six-adjacent}
use Rattle.geometry.specs.SideLaws.{Dir}
use Rattle.lattice.specs.Subdivision.{centre_of, new_of, back_of, update_of, accepts_of}
use Rattle.lattice.specs.declared.points.Point.{Point}
use Rattle.lattice.specs.declared.records.Record.{Record}
use Rattle.growth.specs.Sheets.{vertex, UntornAt, Step}
use Rattle.growth.specs.Model.{Counts, mesh_of, full_of, more, Good}
use Rattle.growth.specs.Normal.{Pt, rank, move, point?, same?, same-ne}
use Rattle.growth.specs.Closed.{rec, full_at, bump}
use Rattle.growth.specs.Link.{at, record_is, record-none, full_is, full-normal, good-in, more-is}
use Rattle.growth.specs.Closed as C
use Rattle.growth.specs.OneStep as One

-- a point with a record is normalised
pub record-normal : (H : Point → Bool) (c : Counts) (p : Point) (r : Record) → mesh_of H c p ≡ Some r → T (is_normal p)
record-normal H c p r h = go (is_normal p) refl
  where
    go : (b : Bool) → is_normal p ≡ b → T b
    go true e = tt
    go false e = absurd (none-some r (sym (record-none c H p e) ∙ h))

pub more-other : (q p : Point) (c : Counts) → p ≢ q → more q c p ≡ c p
unfolding more same?
more-other q p c n = rw (same-ne p q n) (omega arith)

-- ---- the star of degree 6, orientation n mod 2 and level n, by directions
module _ (q : Pt) (n : ℕ) where
  abbrev centre : Record
  centre = vertex q.at 6 (n % 2) n

  place-dir : (j : ℕ) → j < 6 → Dir (2 * j + n % 2) n
  place-dir j h = (omega arith, even j (n % 2) (twice n))
    where
      twice : (n : ℕ) → n % 2 % 2 ≡ n % 2
      twice n = omega arith

      even : (j k : ℕ) → {m : ℕ} → k % 2 ≡ m → (2 * j + k) % 2 ≡ m
      even j k e = omega arith

  place-next : (j : ℕ) → j < 6 → Dir (2 * j + (n % 2 + 1) % 2) (suc n)
  place-next j h = (omega arith, odd j n)
    where
      odd : (j n : ℕ) → (2 * j + (n % 2 + 1) % 2) % 2 ≡ suc n % 2
      odd j n = omega arith

  adjacent-is : (j : ℕ) → j < 6 → adjacent_at centre j ≡ (move q (2 * j + n % 2) n).at
  unfolding move
  adjacent-is j h = six-adjacent centre j refl h

  new-at : (j : ℕ) → j < 6 → (new_of centre j).at ≡ (move q (2 * j + (n % 2 + 1) % 2) (suc n)).at
  unfolding move
  new-at j h = let e : n + 1 ≡ suc n = omega arith in six-adjacent (centre_of centre) j refl h ∙ ap (move_of q.at (2 * j + (n % 2 + 1) % 2)) e

  new_is : (j : ℕ) → j < 6 → new_of centre j ≡ vertex (move q (2 * j + (n % 2 + 1) % 2) (suc n)).at 3 ((2 * j + (n % 2 + 1) % 2 + 6) % 4) (suc n)
  new_is j h =
      let e : n + 1 ≡ suc n = omega arith in
      let k : 6 + 2 * j + (n % 2 + 1) % 2 ≡ 2 * j + (n % 2 + 1) % 2 + 6 = omega arith in
      λ i. vertex (new-at j h i) 3 (k i % 4) (e i)

  centre-is : centre_of centre ≡ vertex q.at 6 (suc n % 2) (suc n)
  centre-is =
      let e : n + 1 ≡ suc n = omega arith in
      let k : (n % 2 + 1) % 2 ≡ suc n % 2 = omega arith in
      λ i. vertex q.at 6 (k i) (e i)

  back_is : (j : ℕ) → back_of (n % 2) j ≡ (2 * j + n % 2 + 6) % 12
  back_is j = let k : 6 + 2 * j + n % 2 ≡ 2 * j + n % 2 + 6 = omega arith in ap (λ (x : ℕ). x % 12) k

  -- and back: each direction is a place
  dir-place : (e : ℕ) → Dir e n → (e / 2 < 6) × (2 * (e / 2) + n % 2 ≡ e)
  dir-place e d = let p = d.1 in (omega (arith, d.0), omega arith)

  dir-next : (e : ℕ) → Dir e (suc n) → (e / 2 < 6) × (2 * (e / 2) + (n % 2 + 1) % 2 ≡ e)
  dir-next e d = let p = d.1 in (omega (arith, d.0), omega arith)

-- ---- a record of degree 6 in the mesh of H and c
pub record Six (H : Point → Bool) (c : Counts) (v : Record) : Type 0 where
  pub normal : T (is_normal v.at)
  pub full : T (full_of H c v.at)
  pub is : v ≡ vertex v.at 6 ((rank_of v.at + c v.at) % 2) (rank_of v.at + c v.at)

module _ (H : Point → Bool) (c : Counts) where
  -- the closed form at a normalised point
  closed : (q : Pt) (o : Option Record) → mesh_of H c q.at ≡ o → rec H (at c) q ≡ o
  closed q o h = sym (record_is c H q) ∙ h

  pub six-record : (v : Record) → mesh_of H c v.at ≡ Some v → v.d ≡ 6 → Six H c v
  unfolding rank
  six-record v h d = go (record-normal H c v.at v h)
    where
      go : T (is_normal v.at) → Six H c v
      go t =
          let q : Pt = record { at = v.at; normal = t } in
          let (a, f, e) = One.six H (at c) q v (closed q (Some v) h) d in
          record { normal = t; full = of-true (sym (full_is c H q) ∙ f); is = e }

  -- M1 by the parts of the vertex: q its point, n its level
  module _ (good : Good H c) (q : Pt) (full : full_at H (at c) q (rank q) ≡ true) (n : ℕ) (h : n ≡ rank q + c q.at) where
    whole-at : UntornAt (mesh_of H c) (centre q n)
    whole-at =
        record {
          there = λ j l.
              let e = 2 * j + n % 2 in
              let (r, x, y) = One.there H (at c) q n h (good-in c H good) e (place-dir q n j l) full in
              (r, ap (mesh_of H c) (adjacent-is q n j l) ∙ record_is c H (move q e n) ∙ x, of-true (ap (λ (k : ℕ). accepts_of k n r) (back_is q n j) ∙ y));
          free = λ j l.
              let e = 2 * j + (n % 2 + 1) % 2 in
              ap (mesh_of H c) (new-at q n j l) ∙ record_is c H (move q e (suc n)) ∙ One.absent H (at c) q n h e (place-next q n j l);
        }

    -- after it
    after : (p : Pt) → mesh_of H (more q.at c) p.at ≡ rec H (bump q (at c)) p
    after p = record_is (more q.at c) H p ∙ ap (λ (c : Pt → ℕ). rec H c p) (more-is q c)

    step-at : Step (mesh_of H c) (centre q n) (mesh_of H (more q.at c))
    step-at =
        record {
          centre = after q ∙ One.centre H (at c) q n h (One.present-full H (at c) q (rank q) refl full) full ∙ ap Some (sym (centre-is q n));
          new = λ j l.
              let e = 2 * j + (n % 2 + 1) % 2 in
              ap (mesh_of H (more q.at c)) (new-at q n j l) ∙ after (move q e (suc n)) ∙ One.new H (at c) q n h (good-in c H good) e (place-next q n j l)
              ∙ ap Some (sym (new_is q n j l));
          old = λ j l u x.
              let e = 2 * j + n % 2 in
              ap (mesh_of H (more q.at c)) (adjacent-is q n j l) ∙ after (move q e n)
              ∙ One.old H (at c) q n h (good-in c H good) e (place-dir q n j l) u
              (closed (move q e n) (Some u) (ap (mesh_of H c) (sym (adjacent-is q n j l)) ∙ x))
              ∙ ap (λ (k : ℕ). Some (update_of k u)) (sym (back_is q n j));
          rest = λ p x y z. untouched p x y z (is_normal p) refl;
        }
      where
        untouched : (p : Point) → p ≢ q.at → ((j : ℕ) → j < 6 → p ≢ (new_of (centre q n) j).at) → ((j : ℕ) → j < 6 → p ≢ adjacent_at (centre q n) j)
            → (b : Bool) → is_normal p ≡ b → mesh_of H (more q.at c) p ≡ mesh_of H c p
        untouched p x y z false e = record-none (more q.at c) H p e ∙ sym (record-none c H p e)
        untouched p x y z true e =
            let s : Pt = record { at = p; normal = of-true e } in
            after s
            ∙ One.rest H (at c) q n h s (λ w. x (ap (λ (t : Pt). t.at) w))
            (λ g d w. (let (l, k) = dir-next q n g d in y (g / 2) l
            (ap (λ (t : Pt). t.at) (w ∙ ap (λ (a : ℕ). move q a (suc n)) (sym k)) ∙ sym (new-at q n (g / 2) l))))
            (λ g d w. (let (l, k) = dir-place q n g d in z (g / 2) l
            (ap (λ (t : Pt). t.at) (w ∙ ap (λ (a : ℕ). move q a n) (sym k)) ∙ sym (adjacent-is q n (g / 2) l))))
            ∙ sym (record_is c H s)

  -- ---- M1
  module _ (good : Good H c) (v : Record) (x : mesh_of H c v.at ≡ Some v) (d : v.d ≡ 6) where
    abbrev point : Six H c v → Pt
    point s = record { at = v.at; normal = s.normal }

    pub closed-whole : UntornAt (mesh_of H c) v
    unfolding rank
    closed-whole =
        let s = six-record v x d in
        subst (UntornAt (mesh_of H c)) (sym s.is) (whole-at good (point s) (full_is c H (point s) ∙ is_true (full_of H c v.at) s.full)
        (rank_of v.at + c v.at) refl)

    pub closed-step : Step (mesh_of H c) v (mesh_of H (more v.at c))
    unfolding rank
    closed-step =
        let s = six-record v x d in
        subst (λ (w : Record). Step (mesh_of H c) w (mesh_of H (more v.at c))) (sym s.is)
        (step-at good (point s) (full_is c H (point s) ∙ is_true (full_of H c v.at) s.full) (rank_of v.at + c v.at) refl)

    pub closed-good : Good H (more v.at c)
    unfolding rank
    closed-good y l = go (point? y v.at)
      where
        s : Six H c v
        s = six-record v x d

        at-normal : T (is_normal y) → T (full_of H (more v.at c) y)
        at-normal t =
            let p : Pt = record { at = y; normal = t } in
            let g : C.Good H (bump (point s) (at c)) = One.good-bump H (at c) (point s) (good-in c H good)
            (full_is c H (point s) ∙ is_true (full_of H c v.at) s.full) in
            let g' : C.Good H (at (more v.at c)) = subst (C.Good H) (sym (more-is (point s) c)) g in
            of-true (sym (full_is (more v.at c) H p) ∙ g' p l)

        other : (z : ℕ) → (y ≢ v.at) → more v.at c y ≡ z → 0 < z → 0 < c y
        other z n e k = omega (arith, more-other v.at y c n)

        go : Dec (y ≡ v.at) → T (full_of H (more v.at c) y)
        go (yes e) = at-normal (subst (λ (p : Point). T (is_normal p)) (sym e) s.normal)
        go (no n) = at-normal (full-normal c H y (good y (other (more v.at c y) n refl l)))

    -- M4: every adjacent is there, and one of degree 3 is what the reduced reader restores
    pub closed-adjacent : (j : ℕ) → j < 6
        → (u : Record) × (mesh_of H c (adjacent_at v j) ≡ Some u) × (u.d ≡ 3 → u ≡ vertex (adjacent_at v j) 3 ((6 + 2 * j + v.k) % 4) v.n.0)
    unfolding rank
    closed-adjacent j l =
        let s = six-record v x d in
        subst (λ (w : Record). (u : Record) × (mesh_of H c (adjacent_at w j) ≡ Some u)
        × (u.d ≡ 3 → u ≡ vertex (adjacent_at w j) 3 ((6 + 2 * j + w.k) % 4) w.n.0)) (sym s.is) (here s)
      where
        here : (s : Six H c v) → (u : Record) × (mesh_of H c (adjacent_at (centre (point s) (rank_of v.at + c v.at)) j) ≡ Some u)
            × (u.d ≡ 3 → u ≡ vertex (adjacent_at (centre (point s) (rank_of v.at + c v.at)) j) 3 ((6 + 2 * j + (rank_of v.at + c v.at) % 2) % 4)
            (rank_of v.at + c v.at))
        here s =
            let n = rank_of v.at + c v.at in
            let q = point s in
            let e = 2 * j + n % 2 in
            let k : e + 6 ≡ 6 + 2 * j + n % 2 = omega arith in
            let dir = place-dir q n j l in
            let (u, y, z) = One.there H (at c) q n refl (good-in c H good) e dir (full_is c H q ∙ is_true (full_of H c v.at) s.full) in
            let a : adjacent_at (centre q n) j ≡ (move q e n).at = adjacent-is q n j l in (
              u,
              ap (mesh_of H c) a ∙ record_is c H (move q e n) ∙ y,
              λ d3. One.old-three H (at c) q n refl (good-in c H good) e dir u y d3 ∙ (λ i. vertex (sym a i) 3 (k i % 4) n),
            )
