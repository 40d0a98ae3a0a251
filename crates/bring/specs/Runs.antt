-- Sequences of accepted subdivisions, in a table's own room, and what they come to in the model: one more at each point and level of the list.
-- `Run` a sequence: which points, at which levels, the last first · `run_on` one after another · `run-free` its room · `plus` the counts after it ·
-- `Mesh` a table whose sheet is the mesh of H and c · `mesh-step` one subdivision · `run-mesh` the mesh after a sequence · `run-has`, `run_in` the
-- pairs of a sequence are those between the counts.
-- Assumes nothing.
use Rattle.std.specs.Prelude.{◌≡◌, refl, ◌⊎◌, Bool, ℕ, suc, ◌+◌, ◌*◌, ◌≤◌, ◌<◌, length, Some}
use Rattle.std.proofs.Common.{sym, ◌∙◌, ap, subst, inl, inr, arith}
use Rattle.std.proofs.Math.Path.{fun_ext}
use mathlib.Core.List.Memᴰ
use mathlib.Core.List.{List, [], ◌∷◌, ◌++◌, Memᴰ}
use Rattle.std.proofs.Math.Decide.{dec_lt}
use Rattle.lattice.specs.Ranks.{rank_of}
use Rattle.lattice.specs.declared.points.Point.{Point}
use Rattle.lattice.specs.declared.records.Record.{Record}
use Rattle.growth.specs.Sheets.{Sheet, Step}
use Rattle.growth.specs.Model.{Counts, mesh_of, more, Good}
use Rattle.growth.specs.Normal.{point?}
use Rattle.growth.specs.Subdivide.{more-other, six-record}
use Rattle.growth.specs.GrownLaws.{more_same}
use Rattle.growth.specs.Growth.{grow-step, step-unique}
use Rattle.table.specs.Entries.{look_up}
use Rattle.table.specs.Order.{InOrder}
use Rattle.table.specs.Slots.{free_slots}
use Rattle.mesh.specs.Subdivide.{subdivide_of}
use Rattle.local.specs.Sheet.{as_option, sheet_of}
use Rattle.grown.specs.Steps.{accepted}
use Rattle.mesh.specs.StepLaws.{own-looked, held_same}

-- a point and the level at which it was subdivided
abbrev pub Division : Type 0
Division = Point × ℕ

-- v is subdivided, asked by its own point
abbrev pub divide_at : List ℕ → Record → List ℕ
divide_at t v = (subdivide_of t v.at.a v.at.b v.at.m.0).bytes

-- "a sequence of accepted subdivisions": from t to the table it ends in; the last first
pub data Run (t : List ℕ) : List Division → List ℕ → Type 0 where
  here : Run t [] t
  next : (l : List Division) (s : List ℕ) → Run t l s → (v : Record) → look_up s v.at ≡ Some v → (subdivide_of s v.at.a v.at.b v.at.m.0).number ≡ 0
      → Run t ((v.at, v.n.0) ∷ l) (divide_at s v)

pub run_on : (t s u : List ℕ) (k l : List Division) → Run t k s → Run s l u → Run t (l ++ k) u
run_on t s _ k _ r here = r
run_on t s _ k _ r (next l u q v e z) = next (l ++ k) u (run_on t s u k l r q) v e z

-- six slots each
pub run-free : (t s : List ℕ) (l : List Division) → Run t l s → free_slots s + 6 * length l ≡ free_slots t
run-free t _ _ here = omega arith
run-free t _ _ (next l s r v e z) =
    let ih = run-free t s l r in
    let f = (accepted s v.at.a v.at.b v.at.m.0 z).free in
    omega arith

-- the counts after it
unfoldable pub plus : List Division → Counts → Counts
plus [] c = c
plus (x ∷ l) c = more x.0 (plus l c)

pub plus-on : (k l : List Division) (c : Counts) → plus (l ++ k) c ≡ plus l (plus k c)
unfolding plus
plus-on k [] c = refl
plus-on k (x ∷ l) c = ap (more x.0) (plus-on k l c)

pub more-le : (q p : Point) (c : Counts) → c p ≤ more q c p
unfolding more
more-le q p c = omega arith

-- one more, at the point itself
more-at : (x q : Point) (c : Counts) → q ≡ x → more x c q ≡ suc (c q)
more-at x q c d = ap (more x c) d ∙ more_same x c ∙ ap (λ (y : Point). suc (c y)) (sym d)

pub plus-le : (l : List Division) (c : Counts) (p : Point) → c p ≤ plus l c p
unfolding plus
plus-le [] c p = omega arith
plus-le (x ∷ l) c p = let a = plus-le l c p in let b = more-le x.0 p (plus l c) in omega arith

-- ---- the mesh of H and c, in a table
pub record Mesh (H : Point → Bool) (c : Counts) (t : List ℕ) : Type 0 where
  pub order : InOrder t
  pub is : (p : Point) → sheet_of t p ≡ mesh_of H c p
  pub good : Good H c

module _ (H : Point → Bool) where
  pub mesh-step : (c : Counts) (t : List ℕ) → Mesh H c t → (v : Record) → look_up t v.at ≡ Some v
      → (subdivide_of t v.at.a v.at.b v.at.m.0).number ≡ 0
      → Mesh H (more v.at c) (divide_at t v) × (v.d ≡ 6) × (v.n.0 ≡ rank_of v.at + c v.at) × (v.n.0 < 12)
  mesh-step c t m v e z =
      let a = accepted t v.at.a v.at.b v.at.m.0 z in
      let same : a.vertex ≡ v = held_same (sym a.looked ∙ own-looked t m.order v e) in
      let x : mesh_of H c v.at ≡ Some v = sym (m.is v.at) ∙ ap as_option e in
      let six : v.d ≡ 6 = ap (λ (r : Record). r.d) (sym same) ∙ a.six in
      let low : v.n.0 < 12 = subst (λ (r : Record). r.n.0 < 12) same a.below in
      let (whole, step, good) = grow-step H c v m.good x six in
      let st : Step (sheet_of t) v (sheet_of (divide_at t v)) = subst (λ (r : Record). Step (sheet_of t) r (sheet_of (divide_at t v))) same a.step in
      let f : sheet_of t ≡ mesh_of H c = fun_ext m.is in (
        record {
          order = a.kept;
          is =
              step-unique (mesh_of H c) v (sheet_of (divide_at t v)) (mesh_of H (more v.at c)) whole
              (subst (λ (S : Sheet). Step S v (sheet_of (divide_at t v))) f st) step;
          good = good;
        },
        six,
        ap (λ (r : Record). r.n.0) (six-record H c v x six).is,
        low,
      )

  -- the mesh after a sequence
  pub run-mesh : (c : Counts) (t s : List ℕ) (l : List Division) → Mesh H c t → Run t l s → Mesh H (plus l c) s
  unfolding plus
  run-mesh c t _ _ m here = m
  run-mesh c t _ _ m (next l s r v e z) = (mesh-step (plus l c) s (run-mesh c t s l m r) v e z).0

  -- its pairs: every level between the counts before and after
  pub run-has : (c : Counts) (t s : List ℕ) (l : List Division) → Mesh H c t → Run t l s → (q : Point) (i : ℕ) → rank_of q + c q ≤ i
      → i < rank_of q + plus l c q → Memᴰ (q, i) l
  unfolding plus
  run-has c t _ _ m here q i lo hi = absurd (omega arith)
  run-has c t _ _ m (next l s r v e z) q i lo hi = go (dec_lt i (rank_of q + plus l c q)) (point? q v.at) (λ h. run-has c t s l m r q i lo h)
    where
      lev : v.n.0 ≡ rank_of v.at + plus l c v.at
      lev = (mesh-step (plus l c) s (run-mesh c t s l m r) v e z).2

      go : Dec (i < rank_of q + plus l c q) → Dec (q ≡ v.at) → (i < rank_of q + plus l c q → Memᴰ (q, i) l) → Memᴰ (q, i) ((v.at, v.n.0) ∷ l)
      go (yes h) d ih = Memᴰ.tail (ih h)
      go (no h) (no d) ih = absurd (h (subst (λ (x : ℕ). i < rank_of q + x) (more-other v.at q (plus l c) d) hi))
      go (no h) (yes d) ih =
          let up = more-at v.at q (plus l c) d in
          let same : rank_of q + plus l c q ≡ rank_of v.at + plus l c v.at = ap (λ (x : Point). rank_of x + plus l c x) d in
          let w : i ≡ v.n.0 = omega (arith, lev) in
          Memᴰ.head (λ j. (d j, w j))

  pub run_in : (c : Counts) (t s : List ℕ) (l : List Division) → Mesh H c t → Run t l s → (q : Point) (i : ℕ) → Memᴰ (q, i) l
      → (rank_of q + c q ≤ i) × (i < rank_of q + plus l c q)
  unfolding plus
  run_in c t _ _ m here q i h = absurd (Memᴰ.not-nil h)
  run_in c t _ _ m (next l s r v e z) q i h = go (Memᴰ.cases_cons h) (λ k. run_in c t s l m r q i k)
    where
      lev : v.n.0 ≡ rank_of v.at + plus l c v.at
      lev = (mesh-step (plus l c) s (run-mesh c t s l m r) v e z).2

      go : (◌≡◌ {A = Division} (q, i) (v.at, v.n.0)) ⊎ Memᴰ (q, i) l → (Memᴰ (q, i) l → (rank_of q + c q ≤ i) × (i < rank_of q + plus l c q))
          → (rank_of q + c q ≤ i) × (i < rank_of q + more v.at (plus l c) q)
      go (inr k) ih = let x = ih k in let lo = x.0 in let hi = x.1 in let a = more-le v.at q (plus l c) in (omega arith, omega arith)
      go (inl k) ih =
          let d : q ≡ v.at = ap (λ (x : Division). x.0) k in
          let w : i ≡ v.n.0 = ap (λ (x : Division). x.1) k in
          let up = more-at v.at q (plus l c) d in
          let same : rank_of q + plus l c q ≡ rank_of v.at + plus l c v.at = ap (λ (x : Point). rank_of x + plus l c x) d in
          let a = plus-le l c q in
          (omega (arith, lev), omega (arith, lev))
