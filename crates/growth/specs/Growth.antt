-- What the floors above cite: the theorems on grown meshes, over sheets (specs/Sheets) and the model (specs/Model). docs/MODEL.md explains them; the
-- other files of this crate prove them.
--   M1  `grow-step`                              a subdivision of the mesh of H and c is the mesh of one more; it is never torn
--   M2  `grown-closed`, `closed-grown`           grown is: the mesh of some H and c
--   M3  `grown-passes`, `passes-grown`           grown is: every record passes `local_test` (specs/Local), of which a list of records
--                                                (`Listed`) is judged by `grown_test`: `test-grown`, `grown-test`, `grown?`
--   M4  `grown-adjacent`                         what a reduced file leaves out is restored
--   and `step-unique`, `grown-valid`, `grown-some`, `grown-alike`, `grown-whole`, `grown-neighbours`, `order-free`.
-- Assumes nothing.
use Rattle.std.specs.Prelude.{◌≡◌, refl, ◌≢◌, ◌⊎◌, Bool, true, false, ◌&&◌, ℕ, ◌+◌, ◌*◌, ◌%◌, ◌<◌, T, Option, Some}
use Rattle.std.proofs.Common.{sym, ◌∙◌, ap, subst, inl, inr, arith}
use Rattle.std.proofs.Math.Path.{fun_ext}
use mathlib.Core.List.Memᴰ
use mathlib.Core.List.{List, [], ◌∷◌, Memᴰ}
use Rattle.laws.specs.Bools.{and_left, and_right, and_both}
use Rattle.lattice.specs.Records.{valid_of}
use Rattle.lattice.specs.Stars.{adjacent_at}
use Rattle.lattice.specs.declared.points.Point.{Point}
use Rattle.lattice.specs.declared.records.Record.{Record}
use Rattle.growth.specs.Sheets.{Sheet, vertex, UntornAt, Step, GrownSheet}
use Rattle.growth.specs.Model.{Counts, mesh_of, more, Good}
use Rattle.growth.specs.Local.{local_test, Local}
use Rattle.growth.specs.LocalTests.{tested, local-tested, there-some}
use Rattle.growth.specs.Subdivide.{closed-whole, closed-step, closed-good, closed-adjacent}
use Rattle.growth.specs.GrownLaws.{Closed}
use Rattle.growth.specs.GrownLocal.{closed-local}
use Rattle.growth.specs.Checked.{Sound}
use Rattle.growth.specs.LocalGrown.{Bounded, checked-closed}
use Rattle.growth.specs.Neighbours.{closed-neighbours}
use Rattle.growth.specs.GrownLaws as Laws
use Rattle.growth.specs.GrownValid as Valid

-- ---- M1: in the mesh of H and c a subdivision is not torn, and gives the mesh with one more; the counts stay good
pub grow-step : (H : Point → Bool) (c : Counts) (v : Record) → Good H c → mesh_of H c v.at ≡ Some v → v.d ≡ 6
    → UntornAt (mesh_of H c) v × Step (mesh_of H c) v (mesh_of H (more v.at c)) × Good H (more v.at c)
grow-step H c v good x d = (closed-whole H c good v x d, closed-step H c good v x d, closed-good H c good v x d)

-- a subdivision has one result
pub step-unique : (R : Sheet) (v : Record) (R₁ R₂ : Sheet) → UntornAt R v → Step R v R₁ → Step R v R₂ → (p : Point) → R₁ p ≡ R₂ p
step-unique = Laws.step-unique

-- ---- M2: grown is to be the mesh of some H and c
pub grown-closed : (R : Sheet) → GrownSheet R → Closed R
grown-closed = Laws.grown-closed

pub closed-grown : (R : Sheet) → Closed R → GrownSheet R
closed-grown = Laws.closed-grown

-- the records are valid, each at its point, and there is one
pub grown-valid : (R : Sheet) → GrownSheet R → Sound R
grown-valid = Valid.grown-sound

pub grown-some : (R : Sheet) → GrownSheet R → (p : Point) × ((r : Record) × (R p ≡ Some r))
grown-some = Valid.grown-some

-- two sheets that answer alike are grown alike
pub grown-alike : (R R' : Sheet) → ((p : Point) → R p ≡ R' p) → GrownSheet R → GrownSheet R'
grown-alike R R' e g = subst GrownSheet (fun_ext e) g

-- ---- M3: grown is that every record passes the local test
pub grown-passes : (R : Sheet) → GrownSheet R → (p : Point) (r : Record) → R p ≡ Some r → T (local_test R r)
grown-passes R g p r x =
    let m = grown-closed R g in
    let e : R ≡ mesh_of m.H m.c = fun_ext m.is in
    let y : R r.at ≡ Some r = ap R (grown-valid R g p r x).0 ∙ x in
    local-tested R r (subst (λ (S : Sheet). Local S r) (sym e) (closed-local m.H m.c m.good r (sym (m.is r.at) ∙ y)))

pub passes-grown : (R : Sheet) → Sound R → Bounded R → (p : Point) (r : Record) → R p ≡ Some r
    → ((p : Point) (r : Record) → R p ≡ Some r → T (local_test R r)) → GrownSheet R
passes-grown R sound bounded p r x all = closed-grown R (checked-closed R sound (λ p r x. tested R r (all p r x)) bounded p r x)

-- ---- the same, of a sheet that is given by a list of valid records, no point twice
pub record Listed (R : Sheet) (rs : List Record) : Type 0 where
  pub holds : (r : Record) → Memᴰ r rs → R r.at ≡ Some r
  pub held : (p : Point) (r : Record) → R p ≡ Some r → (r.at ≡ p) × Memᴰ r rs
  pub valid : (r : Record) → Memᴰ r rs → T (valid_of r)

-- each of them passes
abbrev pub all_pass : Sheet → List Record → Bool
all_pass R [] = true
all_pass R (r ∷ rs) = local_test R r && all_pass R rs

-- "An empty file is 11."
abbrev pub grown_test : Sheet → List Record → Bool
grown_test R [] = false
grown_test R (r ∷ rs) = all_pass R (r ∷ rs)

pass-each : (R : Sheet) (rs : List Record) → T (all_pass R rs) → (r : Record) → Memᴰ r rs → T (local_test R r)
pass-each R [] t r h = absurd (Memᴰ.not-nil h)
pass-each R (x ∷ rs) t r h = go (Memᴰ.cases_cons h) (pass-each R rs (and_right (local_test R x) (all_pass R rs) t) r)
  where
    go : (r ≡ x) ⊎ Memᴰ r rs → (Memᴰ r rs → T (local_test R r)) → T (local_test R r)
    go (inl e) ih = subst (λ (y : Record). T (local_test R y)) (sym e) (and_left (local_test R x) (all_pass R rs) t)
    go (inr m) ih = ih m

each-pass : (R : Sheet) (rs : List Record) → ((r : Record) → Memᴰ r rs → T (local_test R r)) → T (all_pass R rs)
each-pass R [] h = tt
each-pass R (x ∷ rs) h = and_both (local_test R x) (all_pass R rs) (h x (Memᴰ.head refl)) (each-pass R rs (λ r m. h r (Memᴰ.tail m)))

points : List Record → List Point
points [] = []
points (r ∷ rs) = r.at ∷ points rs

points-in : (rs : List Record) (r : Record) (p : Point) → r.at ≡ p → Memᴰ r rs → Memᴰ p (points rs)
unfolding points
points-in [] r p e h = absurd (Memᴰ.not-nil h)
points-in (x ∷ rs) r p e h = go (Memᴰ.cases_cons h) (points-in rs r p e)
  where
    go : (r ≡ x) ⊎ Memᴰ r rs → (Memᴰ r rs → Memᴰ p (points rs)) → Memᴰ p (x.at ∷ points rs)
    go (inl z) ih = Memᴰ.head (sym e ∙ ap (λ (y : Record). y.at) z)
    go (inr m) ih = Memᴰ.tail (ih m)

pub test-grown : (R : Sheet) (rs : List Record) → Listed R rs → T (grown_test R rs) → GrownSheet R
test-grown R [] l t = absurd t
test-grown R (x ∷ rs) l t =
    passes-grown R (λ p r y. (let (e, m) = l.held p r y in (e, l.valid r m)))
    (points (x ∷ rs), λ p r y. (let (e, m) = l.held p r y in points-in (x ∷ rs) r p e m)) x.at x (l.holds x (Memᴰ.head refl))
    (λ p r y. pass-each R (x ∷ rs) t r (l.held p r y).1)

pub grown-test : (R : Sheet) (rs : List Record) → Listed R rs → GrownSheet R → T (grown_test R rs)
grown-test R [] l g = let (p, (r, x)) = grown-some R g in absurd (Memᴰ.not-nil (l.held p r x).1)
grown-test R (x ∷ rs) l g = each-pass R (x ∷ rs) (λ r m. grown-passes R g r.at r (l.holds r m))

-- so it is decided in one pass
pub grown? : (R : Sheet) (rs : List Record) → Listed R rs → Dec (GrownSheet R)
grown? R rs l = go (grown_test R rs) refl
  where
    go : (b : Bool) → grown_test R rs ≡ b → Dec (GrownSheet R)
    go true e = yes (test-grown R rs l (subst T (sym e) tt))
    go false e = no (λ g. subst T e (grown-test R rs l g))

-- ---- on a grown sheet
module _ (R : Sheet) (g : GrownSheet R) where
  -- it is the mesh of its H and c
  mesh : Closed R
  mesh = grown-closed R g

  at-mesh : (p : Point) (o : Option Record) → R p ≡ o → mesh_of mesh.H mesh.c p ≡ o
  at-mesh p o x = sym (mesh.is p) ∙ x

  -- no subdivision is torn
  pub grown-whole : (v : Record) → R v.at ≡ Some v → v.d ≡ 6 → UntornAt R v
  grown-whole v x d = subst (λ (S : Sheet). UntornAt S v) (sym (fun_ext mesh.is))
      (closed-whole mesh.H mesh.c mesh.good v (at-mesh v.at (Some v) x) d)

  -- M4: every adjacent of a vertex of degree 6 is there, and one of degree 3 "as d 3, level n, orientation (6+2j+k) mod 4"
  pub grown-adjacent : (v : Record) → R v.at ≡ Some v → v.d ≡ 6 → (j : ℕ) → j < 6
      → (u : Record) × (R (adjacent_at v j) ≡ Some u) × (u.d ≡ 3 → u ≡ vertex (adjacent_at v j) 3 ((6 + 2 * j + v.k) % 4) v.n.0)
  grown-adjacent v x d j h =
      let (u, y, f) = closed-adjacent mesh.H mesh.c mesh.good v (at-mesh v.at (Some v) x) d j h in
      (u, mesh.is (adjacent_at v j) ∙ y, f)

  -- no neighbour query is torn
  pub grown-neighbours : (r : Record) → R r.at ≡ Some r → r.d ≢ 0 → (j : ℕ) → j < r.d → (u : Record) × (R (adjacent_at r j) ≡ Some u)
  grown-neighbours r x n j h =
      let t = closed-neighbours mesh.H mesh.c mesh.good r (at-mesh r.at (Some r) x) (grown-valid R g r.at r x).1 n j h in
      let (u, y) = there-some (mesh_of mesh.H mesh.c) (adjacent_at r j) t in
      (u, mesh.is (adjacent_at r j) ∙ y)

-- ---- the order of two subdivisions does not matter
-- v is subdivided, and R' is the result
pub record Made (R : Sheet) (v : Record) (R' : Sheet) : Type 0 where
  pub held : R v.at ≡ Some v
  pub six : v.d ≡ 6
  pub step : Step R v R'

-- the mesh of H and c becomes that of one more
made_more : (H : Point → Bool) (c : Counts) → Good H c → (R : Sheet) (v : Record) (R' : Sheet) → ((p : Point) → R p ≡ mesh_of H c p) → Made R v R'
    → ((p : Point) → R' p ≡ mesh_of H (more v.at c) p) × Good H (more v.at c)
made_more H c good R v R' e m =
    let f : R ≡ mesh_of H c = fun_ext e in
    let (whole, step, better) = grow-step H c v good (sym (e v.at) ∙ m.held) m.six in
    (step-unique (mesh_of H c) v R' (mesh_of H (more v.at c)) whole (subst (λ (S : Sheet). Step S v R') f m.step) step, better)

-- where two vertices of a grown mesh can be subdivided in either order, both orders end alike
pub order-free : (R A B A' B' : Sheet) (v w v' w' : Record) → GrownSheet R → Made R v A → Made A w B → Made R w' A' → Made A' v' B' → v.at ≡ v'.at
    → w.at ≡ w'.at → (p : Point) → B p ≡ B' p
order-free R A B A' B' v w v' w' g m n m' n' ev ew p =
    let z = grown-closed R g in
    let (a, ga) = made_more z.H z.c z.good R v A z.is m in
    let (b, gb) = made_more z.H (more v.at z.c) ga A w B a n in
    let (a', ga') = made_more z.H z.c z.good R w' A' z.is m' in
    let (b', gb') = made_more z.H (more w'.at z.c) ga' A' v' B' a' n' in
    let swapped : more w.at (more v.at z.c) ≡ more v'.at (more w'.at z.c) = fun_ext (λ y. swap z.c y) in
    b p ∙ ap (λ (d : Counts). mesh_of z.H d p) swapped ∙ sym (b' p)
  where
    swap : (c : Counts) (y : Point) → more w.at (more v.at c) y ≡ more v'.at (more w'.at c) y
    swap c y = rw (ev, ew) (unfold more in omega arith)
