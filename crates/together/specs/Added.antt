-- What one subdivision more adds. Where each subdivision adds just so many new ones to what P says of a mesh, a list of the base's grows to a list of every
-- mesh's: `inventory-grown`.
-- `seq_mesh` the mesh of a sequence of subdivisions, `seq-low` no level above 12 · `after` one more, of q: `keep-alive`, `ground-alive` cells that were alive,
-- `split-new` only q is split anew · `Gains` what it adds.
-- Assumes nothing.
use Rattle.std.specs.Prelude.{◌≡◌, ◌⊎◌, Bool, true, false, length}
use Rattle.std.proofs.Math.Path.{refl}
use Rattle.std.proofs.Common.{sym, ◌∙◌, ap, inl, inr, suc-mul}
use mathlib.Core.List.Memᴰ
use mathlib.Core.List.{List, [], ◌∷◌, ◌++◌, Memᴰ}
use Prim.Native.Nat.{ℕ, zero, suc, ◌+◌, ◌*◌, ◌≤◌, ◌<◌}
use native.Mathlib.Omega.{arith}
use Rattle.std.proofs.Math.Decide.{ℕ_discrete}
use Rattle.laws.specs.Each.{not-both}
use Rattle.lattice.specs.declared.points.Point.{Point}
use Rattle.growth.specs.Normal.{Pt, rank, pt?}
use Rattle.growth.specs.Parents.{creator_of}
use Rattle.growth.specs.Closed.{T, T-mono, T-other, T-same, bump, bump-same, bump-other, pres_at, Good}
use Rattle.growth.specs.Order.{cnt, Seq, nil, next, seq-good, Low}
use Rattle.together.specs.Cells.{Cell, u_of, v_of, u-rank, v-rank}
use Rattle.together.specs.Corners.{Mesh, pres, Alive}
use Rattle.together.specs.Inventory.{Distinct, Inventory, append-distinct, append-length}

abbrev pub seq_mesh : (H : Point → Bool) (l : List Pt) → Seq H l → Mesh
seq_mesh H l S = record { H = H; c = cnt l; good = seq-good H l S }

pub seq-low : (H : Point → Bool) (l : List Pt) → Seq H l → Low (cnt l)
unfolding cnt
seq-low H l nil q h = absurd (none h)
  where
    none : 0 < 0 → ⊥
    none h = omega arith
seq-low H l (next {l = k} q S full low) p h = go (pt? p q) (seq-low H k S p)
  where
    go : Dec (p ≡ q) → (0 < cnt k p → rank p + cnt k p ≤ 12) → rank p + bump q (cnt k) p ≤ 12
    go (yes e) ih = rw (e, bump-same q (cnt k)) (omega arith)
    go (no e) ih = let z = bump-other q p (cnt k) e in let w = ih (omega arith) in omega arith

-- ---- one subdivision more, of q
abbrev pub after : (M : Mesh) (q : Pt) → Good M.H (bump q M.c) → Mesh
after M q g = record { H = M.H; c = bump q M.c; good = g }

module _ (M : Mesh) (q : Pt) (g : Good M.H (bump q M.c)) where
  keeps : (p : Pt) (f : ℕ) → pres_at M.H M.c p f ≡ true → pres_at M.H (bump q M.c) p f ≡ true
  unfolding pres_at
  keeps p zero h = h
  keeps p (suc zero) h = h
  keeps p (suc (suc i)) h = T-mono M.c q (creator_of p i) i h

  pub keep-alive : (k : Cell) → Alive M k → Alive (after M q g) k
  keep-alive k A =
      record { dir = A.dir; low = A.low; u-there = keeps (u_of k) (rank (u_of k)) A.u-there; v-there = keeps (v_of k) (rank (v_of k)) A.v-there }

  grounds : (p : Pt) → pres_at M.H (bump q M.c) p 1 ≡ pres_at M.H M.c p 1
  unfolding pres_at
  grounds p = refl

  -- in the base nothing changes
  pub ground-alive : (k : Cell) → k.i ≡ 0 → Alive (after M q g) k → Alive M k
  ground-alive k z A =
      record {
        dir = A.dir;
        low = A.low;
        u-there = old (u_of k) (u-rank k A.dir A.low ∙ ap suc z) A.u-there;
        v-there = old (v_of k) (v-rank k A.dir A.low ∙ ap suc z) A.v-there;
      }
    where
      old : (p : Pt) → rank p ≡ 1 → pres (after M q g) p ≡ true → pres M p ≡ true
      old p f h = ap (pres_at M.H M.c p) f ∙ sym (grounds p) ∙ ap (pres_at M.H (bump q M.c) p) (sym f) ∙ h

  pub split-new : (x : Pt) (i : ℕ) → T (bump q M.c) x i ≡ true → T M.c x i ≡ false → (x ≡ q) × (i ≡ rank q + M.c q)
  split-new x i h k = by (pt? x q) (ℕ_discrete i (rank q + M.c q))
    where
      by : Dec (x ≡ q) → Dec (i ≡ rank q + M.c q) → (x ≡ q) × (i ≡ rank q + M.c q)
      by (no z) w = absurd (not-both (sym (T-other M.c q x i z) ∙ h) k)
      by (yes z) (no w) = absurd (not-both (sym (T-same M.c q x i w) ∙ h) k)
      by (yes z) (yes w) = (z, w)

-- ---- lists that grow
pub record Gains {B : Type 0} (P : Mesh → B → Type 0) (M N : Mesh) (new : List B) : Type 0 where
  pub distinct : Distinct new
  pub sound : (y : B) → Memᴰ y new → P N y × (P M y → ⊥)
  pub keep : (y : B) → P M y → P N y
  pub old : (y : B) → P N y → P M y ⊎ Memᴰ y new

inventory-more : {B : Type 0} (P : Mesh → B → Type 0) (M N : Mesh) (new ys : List B) → Gains P M N new → Inventory (P M) ys → Inventory (P N) (new ++ ys)
inventory-more {B} P M N new ys F L =
    record {
      distinct = append-distinct new ys F.distinct L.distinct (λ z a b. (F.sound z a).1 (L.sound z b));
      sound = λ y m. sound y (Memᴰ.append_cases new m);
      full = λ y p. full y (F.old y p);
    }
  where
    sound : (y : B) → Memᴰ y new ⊎ Memᴰ y ys → P N y
    sound y (inl m) = (F.sound y m).0
    sound y (inr m) = F.keep y (L.sound y m)

    full : (y : B) → P M y ⊎ Memᴰ y new → Memᴰ y (new ++ ys)
    full y (inl p) = Memᴰ.append_right new (L.full y p)
    full y (inr m) = Memᴰ.append_left ys m

module _ {B : Type 0} (P : Mesh → B → Type 0) (new : Mesh → Pt → List B) (n : ℕ) (size : (M : Mesh) (q : Pt) → length (new M q) ≡ n)
    (adds : (M : Mesh) (q : Pt) (g : Good M.H (bump q M.c)) → Gains P M (after M q g) (new M q)) (H : Point → Bool) (ys : List B)
    (base : Inventory (P (seq_mesh H [] nil)) ys) where
  pub inventory-grown : (l : List Pt) (S : Seq H l) → (zs : List B) × Inventory (P (seq_mesh H l S)) zs × (length zs ≡ length ys + length l * n)
  unfolding cnt
  inventory-grown l nil = (ys, base, omega arith)
  inventory-grown l (next {l = k} q S full low) =
      let (zs, L, e) = inventory-grown k S in
      let M = seq_mesh H k S in
      let a = append-length (new M q) zs in
      let s = size M q in (
        new M q ++ zs,
        inventory-more P M (seq_mesh H (q ∷ k) (next q S full low)) (new M q) zs (adds M q (seq-good H (q ∷ k) (next q S full low))) L,
        sum (length (new M q ++ zs)) (length (new M q)) (length zs) (length ys) (length k * n) (suc (length k) * n) n a s e (suc-mul (length k) n),
      )
    where
      sum : (r x z y a b n : ℕ) → r ≡ x + z → x ≡ n → z ≡ y + a → b ≡ a + n → r ≡ y + b
      sum r x z y a b n h i j k = omega arith
