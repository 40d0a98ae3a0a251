-- The starts of a base: three cells in each hexagon, each with the centre as its u (`base-starts`).
-- `base_cell` cell j of a list's base, by its hexagon and its place there · `hex-start`, `start-hex` these are its starts, and no others.
-- Assumes nothing.
use Rattle.std.specs.Prelude.{◌≡◌, true, ℤ}
use Rattle.std.proofs.Math.Path.{refl, sym, ap, subst}
use Rattle.std.proofs.Common.{◌∙◌}
use mathlib.Core.List.{List, [], Memᴰ}
use Prim.Native.Nat.{ℕ, zero, suc, ◌+◌, ◌*◌, ◌%◌, ◌/◌, ◌<◌}
use native.Mathlib.Omega.{arith}
use Rattle.std.proofs.Math.Decide.{ℕ_discrete, dec_lt}
use Rattle.laws.specs.Each.{not-both}
use Rattle.lattice.specs.Points.{class_of}
use Rattle.geometry.specs.SideLaws.{Dir}
use Rattle.geometry.specs.RankLaws.{ground-out}
use Rattle.growth.specs.Normal.{Pt, pt-eq, rank, birth, move, out-birth}
use Rattle.growth.specs.Hexagons.{centre-in}
use Rattle.growth.specs.BaseLaws.{class-one}
use Rattle.growth.specs.Parents.{par, par-dir, par-rank, par-back, par-inj, parent_of}
use Rattle.growth.specs.Closed.{T-lo, pres_at}
use Rattle.growth.specs.Order.{cnt, nil}
use Rattle.growth.specs.Link.{at}
use Rattle.base.specs.Base.{centre_at, centres_in, listed_in, is_listed}
use Rattle.centres.specs.MarkLaws.{good-is, listed_at, listed-is}
use Rattle.centres.specs.Centres.{GoodList}
use Rattle.together.specs.Cells.{even-turn, Cell, cell, u_of, v_of, u-v, u-rank, v-rank}
use Rattle.together.specs.Corners.{Mesh, pres, Alive, made-is}
use Rattle.together.specs.Faces.{centre-int, base-gap}
use Rattle.together.specs.Inventory.{Inventory, up_to, upto-in, in-upto, upto-distinct}
use Rattle.together.specs.Chains.{ground, made}
use Rattle.together.specs.Added.{seq_mesh}
use Rattle.together.specs.Starts.{StartIn}

-- ---- the base's starts: three in each hexagon, by its centre
unfoldable pub centre_pt : List ℤ → ℕ → Pt
centre_pt cs i = record { at = centre_at cs i; normal = tt }

abbrev hex_cell : Pt → ℕ → Cell
hex_cell h t = cell (par h t 0) ((birth h + 4 * t + 6) % 12) 0

module _ (cs : List ℤ) (g : GoodList cs) where
  abbrev B : Mesh
  B = seq_mesh (is_listed cs) [] nil

  abbrev pub base_cell : ℕ → Cell
  base_cell j = hex_cell (centre_pt cs (j / 3)) (j % 3)

  class-0 : (i : ℕ) → i < centres_in cs → class_of (centre_at cs i) ≡ 0
  class-0 i h = (good-is (centre_at cs i) (g.good i h)).class

  centre-is : (i : ℕ) → i < centres_in cs → (rank (centre_pt cs i) ≡ 1) × (birth (centre_pt cs i) ≡ 0)
  unfolding centre_pt rank birth
  centre-is i h = let z = class-0 i h in let (r, b) = ground-out (centre_at cs i) tt refl (λ w. omega arith) in (r, b ∙ z)

  centre-there : (i : ℕ) → i < centres_in cs → pres_at (is_listed cs) (cnt []) (centre_pt cs i) 1 ≡ true
  unfolding centre_pt pres_at
  centre-there i h = centre-in (is_listed cs) (centre_at cs i) (class-0 i h) ∙ listed_at cs (centres_in cs) i h

  -- a later one equal to an earlier is refused
  pub one_place : (i j : ℕ) → i < centres_in cs → j < centres_in cs → centre_pt cs i ≡ centre_pt cs j → i ≡ j
  unfolding centre_pt
  one_place i j a b e = go (ℕ_discrete i j) (dec_lt j i)
    where
      p : centre_at cs i ≡ centre_at cs j
      p = ap (λ (q : Pt). q.at) e

      apart : (i j : ℕ) → i < centres_in cs → j < i → centre_at cs i ≡ centre_at cs j → ⊥
      apart i j h l e = not-both (ap (listed_in cs i) e ∙ listed_at cs i j l) (g.once i h)

      go : Dec (i ≡ j) → Dec (j < i) → i ≡ j
      go (yes z) w = z
      go (no z) (yes w) = absurd (apart i j a w p)
      go (no z) (no w) = absurd (apart j i b (omega arith) (sym p))

  -- a centre that is there is one of the list
  centre-listed : (h : Pt) → rank h ≡ 1 → birth h ≡ 0 → pres_at (is_listed cs) (cnt []) h 1 ≡ true → (i : ℕ) × (i < centres_in cs) × (centre_pt cs i ≡ h)
  unfolding centre_pt pres_at
  centre-listed h r b k =
      let (i, l, e) = listed-is cs (centres_in cs) h.at (sym (centre-in (is_listed cs) h.at (sym (class-one h r) ∙ b)) ∙ k) in
      (i, l, pt-eq (centre_pt cs i) h e)

  pub hex-start : (h : Pt) (t : ℕ) → rank h ≡ 1 → birth h ≡ 0 → pres_at (is_listed cs) (cnt []) h 1 ≡ true → t < 3 → StartIn B (hex_cell h t)
  hex-start h t f b on ht =
      let k = hex_cell h t in
      let d : Dir k.e 0 = even-turn 6 (birth h + 4 * t) 0 refl (par-dir h t 0 ht f) in
      let l = par-rank h t 0 ht f in
      let u-is : u_of k ≡ h = sym (par-back h k.x t 0 ht f refl) in
      let v-is : v_of k ≡ move h ((k.e + 4) % 12) 0 = sym (u-v k d) ∙ ap (λ (p : Pt). move p ((k.e + 4) % 12) 0) u-is in
      let gap = base-gap B h ((k.e + 4) % 12) f (centre-int B h f b on) (even-turn 4 k.e 0 refl d) (four (birth h) t b) in (
        ground refl (two (birth h) t b),
        record {
          dir = d;
          low = l;
          u-there = ap (pres B) u-is ∙ ap (pres_at (is_listed cs) (cnt []) h) f ∙ on;
          v-there = ap (pres_at (is_listed cs) (cnt []) (v_of k)) (v-rank k d l) ∙ ap (λ (p : Pt). pres_at (is_listed cs) (cnt []) p 1) v-is ∙ gap;
        },
      )
    where
      two : (b t : ℕ) → b ≡ 0 → (b + 4 * t + 6) % 12 % 4 ≡ 2
      two b t h = omega arith

      four : (b t : ℕ) → b ≡ 0 → (((b + 4 * t + 6) % 12 + 4) % 12 + 2) % 4 ≡ b
      four b t h = omega arith

  -- a start of the base: its u is the centre
  start-hex : (s : Cell) → StartIn B s → (i t : ℕ) × (i < centres_in cs) × (t < 3) × (s ≡ hex_cell (centre_pt cs i) t)
  unfolding cnt
  start-hex s (made a, A) = go s.i refl
    where
      go : (i : ℕ) → s.i ≡ i → (i t : ℕ) × (i < centres_in cs) × (t < 3) × (s ≡ hex_cell (centre_pt cs i) t)
      go zero e = absurd (omega arith)
      go (suc i) e =
          let A' = subst (Alive B) (λ t. cell s.x s.e (e t)) A in
          let z = T-lo (cnt []) s.x i (sym (made-is B s.x s.e i A'.dir (omega arith)) ∙ A'.u-there) in
          absurd (omega arith)
  start-hex s (ground a b, A) =
      let s-is : s ≡ cell s.x s.e 0 = (λ t. cell s.x s.e (a t)) in
      let A' = subst (Alive B) s-is A in
      let h = move s.x s.e 0 in
      let f : rank h ≡ 1 = u-rank (cell s.x s.e 0) A'.dir A'.low in
      let z : birth h ≡ 0 = out-birth s.x s.e 0 A'.dir A'.low ∙ zero4 s.e b in
      let (i, l, e) = centre-listed h f z (ap (pres_at (is_listed cs) (cnt []) h) (sym f) ∙ A'.u-there) in
      let t = (s.e + 6) % 12 / 4 in
      let x-is = sym (parent_of s.x s.e 0 A'.dir A'.low) in
      (i, t, l, omega arith, s-is ∙ (λ j. cell (x-is j) (dir-is s.e (birth h) A'.dir.0 b z j) 0) ∙ ap (λ (h : Pt). hex_cell h t) (sym e))
    where
      zero4 : (e : ℕ) → e % 4 ≡ 2 → (e + 6) % 4 ≡ 0
      zero4 e h = omega arith

      dir-is : (e b : ℕ) → e < 12 → e % 4 ≡ 2 → b ≡ 0 → e ≡ (b + 4 * ((e + 6) % 12 / 4) + 6) % 12
      dir-is e b l h z = omega arith

  pub base-starts : Inventory (StartIn B) (up_to base_cell (3 * centres_in cs))
  base-starts =
      record { distinct = upto-distinct base_cell (3 * centres_in cs) one; sound = λ s m. sound s (upto-in base_cell (3 * centres_in cs) s m); full = full }
    where
      -- the cell tells its hexagon: its point u is the centre
      centre : (j : ℕ) → j < 3 * centres_in cs → u_of (base_cell j) ≡ centre_pt cs (j / 3)
      centre j h = sym (par-back (centre_pt cs (j / 3)) (base_cell j).x (j % 3) 0 (omega arith) (centre-is (j / 3) (omega arith)).0 refl)

      one : (i j : ℕ) → i < 3 * centres_in cs → j < 3 * centres_in cs → base_cell i ≡ base_cell j → i ≡ j
      one i j a b e =
          let q : i / 3 ≡ j / 3 = one_place (i / 3) (j / 3) (omega arith) (omega arith) (sym (centre i a) ∙ ap u_of e ∙ centre j b) in
          let h = centre_pt cs (j / 3) in
          let x : par h (i % 3) 0 ≡ par h (j % 3) 0 = ap (λ (n : ℕ). par (centre_pt cs n) (i % 3) 0) (sym q) ∙ ap (λ (k : Cell). k.x) e in
          let r : i % 3 ≡ j % 3 = par-inj h (i % 3) (j % 3) 0 (omega arith) (omega arith) (centre-is (j / 3) (omega arith)).0 x in
          thirds i j q r
        where
          thirds : (i j : ℕ) → i / 3 ≡ j / 3 → i % 3 ≡ j % 3 → i ≡ j
          thirds i j h k = omega arith

      sound : (s : Cell) → (j : ℕ) × (j < 3 * centres_in cs) × (s ≡ base_cell j) → StartIn B s
      sound s (j, h, e) =
          let l : j / 3 < centres_in cs = omega arith in
          let (f, b) = centre-is (j / 3) l in
          subst (StartIn B) (sym e) (hex-start (centre_pt cs (j / 3)) (j % 3) f b (centre-there (j / 3) l) (omega arith))

      full : (s : Cell) → StartIn B s → Memᴰ s (up_to base_cell (3 * centres_in cs))
      full s S =
          let (i, t, l, h, e) = start-hex s S in
          let q : (3 * i + t) / 3 ≡ i = omega arith in
          let r : (3 * i + t) % 3 ≡ t = omega arith in
          subst (λ (s : Cell). Memᴰ s (up_to base_cell (3 * centres_in cs))) ((λ z. hex_cell (centre_pt cs (q z)) (r z)) ∙ sym e)
          (in-upto base_cell (3 * centres_in cs) (3 * i + t) (omega arith))
