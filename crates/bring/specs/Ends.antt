-- How a vertex of a grown table is brought to degree 6: the request's own recursion, followed in the model. E is a set of counts that reach some
-- goal, whatever it is; each step is one that all of E need.
-- `On` a mesh, all of whose subdivisions E needs · `Goes` what was done lies below a level · `Ends` the three ends: done, by a sequence of accepted
-- subdivisions; 16, where such a sequence came to a vertex on the rim, and then E is empty; 8, where a subdivision that E needs found fewer than six
-- slots free. Never 7 · `ends-then` one after the other · `divide-ends` one subdivision · `near-ends` one neighbour · `bring-ends` a vertex ·
-- `bring-all` by the level.
-- Why never 7: a parent of p not yet subdivided at p's level b is there (`parent-there`), and is on the rim, or has degree 6 and level b
-- (`six-level`), or a lower degree and level b - 1: were its rank below b, it would be p's creator, which has been subdivided and so has degree 6
-- (`creator-split`).
-- Assumes nothing.
use Rattle.std.specs.Prelude.{◌≡◌, ◌≢◌, ◌⊎◌, false, length, Option, Some}
use Rattle.std.proofs.Math.Path.{refl, sym, ap, fun_ext}
use Rattle.std.proofs.Common.{◌∙◌, subst, mul-le-mul_right, length-append}
use Rattle.std.proofs.Math.Logic.{inl, inr}
use Rattle.std.proofs.Math.Bool.{Bool, true, true≢false}
use mathlib.Core.List.Memᴰ
use mathlib.Core.List.{List, [], ◌∷◌, ◌++◌, Memᴰ}
use Prim.Native.Nat.{ℕ, zero, suc, ◌+◌, ◌*◌, ◌%◌, ◌/◌, ◌≤◌, ◌<◌}
use native.Mathlib.Omega.{arith}
use Rattle.std.proofs.Math.Decide.{dec_lt, ℕ_discrete}
use Rattle.lattice.specs.Stars.{adjacent_at}
use Rattle.lattice.specs.declared.points.Point.{Point}
use Rattle.lattice.specs.declared.records.Record.{Record}
use Rattle.growth.specs.Sheets.{Sheet, UntornAt, vertex, inside_base}
use Rattle.growth.specs.Model.{Counts, by_splits, mesh_of, more}
use Rattle.growth.specs.Normal.{Pt, rank, birth, point?}
use Rattle.growth.specs.Parents.{par, par-rank, par-inj, parent_of, creator_of, creator-ex, creator-is, parents-near}
use Rattle.growth.specs.Directions.{below3}
use Rattle.growth.specs.Closed.{look, T, star_at, bump, T-other, T-same, T-on, T-lo, pres_at, int_at, full_at, rec, rec-at}
use Rattle.growth.specs.Closed.{full-make, full-par, full-zero, int-of-full}
use Rattle.growth.specs.Updates.{look-inside, splits-six, splits-some, splits-at}
use Rattle.growth.specs.OneStep.{rec-full}
use Rattle.growth.specs.Link.{at, record_is, good-in, more-is}
use Rattle.growth.specs.Subdivide.{more-other}
use Rattle.growth.specs.GrownLaws.{more_same}
use Rattle.growth.specs.Growth.{grow-step}
use Rattle.growth.specs.Neighbours.{parent-there}
use Rattle.growth.specs.Bring.{T-le, pres-le, on-six, creator-split, six-level}
use Rattle.table.specs.Entries.{look_up}
use Rattle.table.specs.Slots.{free_slots}
use Rattle.table.specs.MapLaws.{order-test}
use Rattle.mesh.specs.Subdivide.{MeshAfter, subdivide_vertex, subdivide_of}
use Rattle.mesh.specs.CallLaws.{call-vertex}
use Rattle.local.specs.Sheet.{as_option, sheet_of}
use Rattle.grown.specs.Steps.{sheet-held, vertex-short, whole-accepted}
use Rattle.bring.specs.Bring.{places_of, each_of, raised_at, near_of, ends_at, bring_of}
use Rattle.mesh.specs.Subdivide.{and_then}
use Rattle.bring.specs.ChainLaws.{near-rim, near-six, near-lower, bring-is}
use Rattle.mesh.specs.StepLaws.{own-looked, Divided, denied, done, divided, then-on, then-stop}
use Rattle.bring.specs.Costs.{near_most, near-most, cost, cost-one, cost-old, total, total-length}
use Rattle.bring.specs.Ways.{open_of, Ways, way, open-ways, splits-level, Apart, open-apart, open-two, All, all_map, open-off, open-rest}
use Rattle.bring.specs.Runs.{Division, divide_at, Run, here, next, run_on, plus, plus-on, Mesh, mesh-step}
use Rattle.growth.specs.Model as M
use Rattle.bring.specs.Ways as W

pub some_same : {a b : Record} → Some a ≡ Some b → a ≡ b
some_same {a} {b} e = cc

held-some : (l : Option Record) (r : Record) → l ≡ Some r → as_option l ≡ Some r
held-some l r e = ap as_option e

module _ (H : Point → Bool) (E : Counts → Type 0) (E-good : (e : Counts) → E e → M.Good H e) where
  -- a table with the mesh of H and d, and all of E need d
  pub record On (d : Counts) (t : List ℕ) : Type 0 where
    pub mesh : Mesh H d t
    pub needed : (e : Counts) → E e → (p : Point) → d p ≤ e p

  -- more was subdivided, but nothing at level n or above
  pub record Goes (n : ℕ) (d d' : Counts) : Type 0 where
    pub above : (p : Point) → d p ≤ d' p
    pub still : (x : Pt) (i : ℕ) → n ≤ i → T (at d) x i ≡ false → T (at d') x i ≡ false

  -- at most m subdivisions are made; where 8 comes, fewer
  pub data Ends (m n : ℕ) (d : Counts) (t : List ℕ) (P : Counts → Type 0) (o : MeshAfter) : Type 0 where
    made : (l : List Division) → length l ≤ m → o.number ≡ 0 → Run t l o.bytes → On (plus l d) o.bytes → P (plus l d) → Goes n d (plus l d)
        → Ends m n d t P o
    rim : (l : List Division) (u : Record) → length l ≤ m → o.number ≡ 16 → Run t l o.bytes → look_up o.bytes u.at ≡ Some u → u.d ≡ 0
        → ((e : Counts) → E e → ⊥) → Ends m n d t P o
    short : (l : List Division) (q : Point) → length l < m → o.number ≡ 8 → Run t l o.bytes → free_slots o.bytes < 6
        → ((e : Counts) → E e → (p : Point) → more q (plus l d) p ≤ e p) → Ends m n d t P o

  ends_same : {m n : ℕ} {d : Counts} {t : List ℕ} {P : Counts → Type 0} {o o' : MeshAfter} → o ≡ o' → Ends m n d t P o → Ends m n d t P o'
  ends_same {m} {n} {d} {t} {P} e x = subst (Ends m n d t P) e x

  goes_refl : (n : ℕ) (d : Counts) → Goes n d d
  goes_refl n d = record { above = λ p. omega arith; still = λ x i l h. h }

  goes_on : {n : ℕ} {c d e : Counts} → Goes n c d → Goes n d e → Goes n c e
  goes_on {n} {c} {d} {e} g h =
      record { above = λ p. (let a = g.above p in let b = h.above p in omega arith); still = λ x i l z. h.still x i l (g.still x i l z) }

  goes-up : {n m : ℕ} {c d : Counts} → n ≤ m → Goes n c d → Goes m c d
  goes-up l g = record { above = g.above; still = λ x i h z. g.still x i (omega arith) z }

  ends_more : {m m' n : ℕ} {d : Counts} {t : List ℕ} {P : Counts → Type 0} {o : MeshAfter} → m ≤ m' → Ends m n d t P o → Ends m' n d t P o
  ends_more h (made l y z r on p g) = made l (omega arith) z r on p g
  ends_more h (rim l u y z r e i x) = rim l u (omega arith) z r e i x
  ends_more h (short l q y z r f e) = short l q (omega arith) z r f e

  -- ---- one after the other
  ends-after : {m m' n : ℕ} {d : Counts} {t s : List ℕ} {P : Counts → Type 0} {o : MeshAfter} (l : List Division) → length l ≤ m → Run t l s
      → Goes n d (plus l d) → Ends m' n (plus l d) s P o → Ends (m + m') n d t P o
  ends-after {m} {m'} {n} {d} {t} {s} {P} {o} l y r g (made k y' z q on p h) =
      let e = sym (plus-on l k d) in
      let w = length-append k l in
      made (k ++ l) (omega arith) z (run_on t s o.bytes l k r q) (subst (λ (c : Counts). On c o.bytes) e on) (subst P e p)
      (subst (Goes n d) e (goes_on g h))
  ends-after {m} {m'} {n} {d} {t} {s} {P} {o} l y r g (rim k u y' z q e i x) =
      let w = length-append k l in rim (k ++ l) u (omega arith) z (run_on t s o.bytes l k r q) e i x
  ends-after {m} {m'} {n} {d} {t} {s} {P} {o} l y r g (short k q y' z v f e) =
      let w = length-append k l in
      short (k ++ l) q (omega arith) z (run_on t s o.bytes l k r v) f
      (subst (λ (c : Counts). (x : Counts) → E x → (p : Point) → more q c p ≤ x p) (sym (plus-on l k d)) e)

  ends-then : {m m' n : ℕ} {d : Counts} {t : List ℕ} {P Q : Counts → Type 0} (o : MeshAfter) (f : List ℕ → MeshAfter) → Ends m n d t P o
      → ((l : List Division) → On (plus l d) o.bytes → P (plus l d) → Goes n d (plus l d) → Ends m' n (plus l d) o.bytes Q (f o.bytes))
      → Ends (m + m') n d t Q (and_then o f)
  ends-then o f (made l y z r on p g) k = ends_same (then-on o f z) (ends-after l y r g (k l on p g))
  ends-then o f (rim l u y z r e i x) k = ends_same (then-stop o f (λ w. omega arith)) (rim l u (omega arith) z r e i x)
  ends-then o f (short l q y z r h e) k = ends_same (then-stop o f (λ w. omega arith)) (short l q (omega arith) z r h e)

  -- ---- what stands at a point of the mesh
  module _ {d : Counts} {t : List ℕ} (on : On d t) (q : Pt) where
    held-rec : (u : Record) → look_up t q.at ≡ Some u → rec H (at d) q ≡ Some u
    held-rec u e = sym (record_is d H q) ∙ sym (on.mesh.is q.at) ∙ held-some (look_up t q.at) u e

    rec-held : (u : Record) → rec H (at d) q ≡ Some u → look_up t q.at ≡ Some u
    rec-held u e = sheet-held (look_up t q.at) u (on.mesh.is q.at ∙ record_is d H q ∙ e)

  -- ---- one subdivision: q has degree 6 and level b, and E has it subdivided there
  abbrev After : Pt → ℕ → Counts → Counts → Type 0
  After q b d d' = (T (at d') q b ≡ true) × ((x : Pt) → x ≢ q → T (at d) x b ≡ false → T (at d') x b ≡ false)

  plus_one : (x : Division) (d : Counts) → more x.0 d ≡ plus (x ∷ []) d
  unfolding plus
  plus_one x d = refl

  plus_none : (d : Counts) → d ≡ plus [] d
  unfolding plus
  plus_none d = refl

  module _ (d : Counts) (t : List ℕ) (on : On d t) (q : Pt) (full : full_at H (at d) q (rank q) ≡ true) (b : ℕ) (lev : b ≡ rank q + d q.at) (low : b < 12)
      (want : (e : Counts) → E e → T (at e) q b ≡ true) where
    abbrev u : Record
    u = vertex q.at 6 ((rank q + d q.at) % 2) (rank q + d q.at)

    stands : rec H (at d) q ≡ Some u
    stands = rec-full H (at d) q full

    held : look_up t q.at ≡ Some u
    held = rec-held on q u stands

    in-mesh : mesh_of H d q.at ≡ Some u
    in-mesh = record_is d H q ∙ stands

    whole : UntornAt (sheet_of t) u
    whole = subst (λ (S : Sheet). UntornAt S u) (sym (fun_ext on.mesh.is)) (grow-step H d u on.mesh.good in-mesh refl).0

    below : rank q + d q.at < 12
    below = omega (arith, lev)

    call : subdivide_vertex t u ≡ subdivide_of t q.at.a q.at.b q.at.m.0
    call = call-vertex t q.at.a q.at.b q.at.m.0 (order-test t on.mesh.order) u (own-looked t on.mesh.order u held)

    need-more : (e : Counts) → E e → (p : Point) → more q.at d p ≤ e p
    need-more e x p = go (point? p q.at)
      where
        go : Dec (p ≡ q.at) → more q.at d p ≤ e p
        go (yes z) =
            let l = T-lo (at e) q b (want e x) in
            let m = ap (more q.at d) z ∙ more_same q.at d in
            let n = ap e z in omega (arith, lev)
        go (no z) = let m = more-other q.at p d z in let l = on.needed e x p in omega arith

    bumped : {A : Type 0} (F : (Pt → ℕ) → A) → F (at (more q.at d)) ≡ F (bump q (at d))
    bumped F = ap F (more-is q d)

    refused-here : (subdivide_vertex t u).number ≡ 8 → (subdivide_vertex t u).bytes ≡ t
    refused-here z = go (divided t u (record { order = on.mesh.order; held = held }))
      where
        go : Divided t u → (subdivide_vertex t u).bytes ≡ t
        go (denied x k h) = sym (ap (λ (o : MeshAfter). o.bytes) h)
        go (done w h) = let n = ap (λ (o : MeshAfter). o.number) h in absurd (omega arith)

    divide-u : Ends 1 (suc b) d t (After q b d) (subdivide_vertex t u)
    divide-u = go (dec_lt (free_slots t) 6)
      where
        go : Dec (free_slots t < 6) → Ends 1 (suc b) d t (After q b d) (subdivide_vertex t u)
        go (yes few) =
            let z : (subdivide_vertex t u).number ≡ 8 =
            ap (λ (o : MeshAfter). o.number) call
            ∙ vertex-short t on.mesh.order q.at.a q.at.b q.at.m.0 u (own-looked t on.mesh.order u held) refl below whole few in
            let e : t ≡ (subdivide_vertex t u).bytes = sym (refused-here z) in
            short [] q.at (omega arith) z (subst (Run t []) e here) (subst (λ (s : List ℕ). free_slots s < 6) e few)
            (subst (λ (c : Counts). (x : Counts) → E x → (p : Point) → more q.at c p ≤ x p) (plus_none d) need-more)
        go (no more_Room) =
            let room : 6 ≤ free_slots t = omega arith in
            let z = whole-accepted t on.mesh.order u held refl below whole room in
            let (m, six, lv, lw) = mesh-step H d t on.mesh u held z in
            let e : divide_at t u ≡ (subdivide_vertex t u).bytes = ap (λ (o : MeshAfter). o.bytes) (sym call) in
            let c : more q.at d ≡ plus ((q.at, rank q + d q.at) ∷ []) d = plus_one (q.at, rank q + d q.at) d in
            made ((q.at, rank q + d q.at) ∷ []) (omega arith) (ap (λ (o : MeshAfter). o.number) call ∙ z)
            (subst (Run t ((q.at, rank q + d q.at) ∷ [])) e (next [] t here u held z))
            (subst (λ (x : Counts). On x (subdivide_vertex t u).bytes) c (record { mesh = subst (Mesh H (more q.at d)) e m; needed = need-more }))
            (subst (After q b d) c (bumped (λ x. T x q b) ∙ T-on (at d) q b lev, λ x ne off. bumped (λ y. T y x b) ∙ T-other (at d) q x b ne ∙ off))
            (subst (Goes (suc b) d) c
            (record { above = λ p. grows p; still = λ x i l off. bumped (λ y. T y x i) ∙ T-same (at d) q x i (λ z. omega (arith, lev, z)) ∙ off }))
          where
            grows : (p : Point) → d p ≤ more q.at d p
            grows p = unfold more in omega arith

    pub divide-ends : (r : Record) → look_up t q.at ≡ Some r → Ends 1 (suc b) d t (After q b d) (subdivide_vertex t r)
    divide-ends r e = subst (λ (r : Record). Ends 1 (suc b) d t (After q b d) (subdivide_vertex t r)) (some_same (sym stands ∙ held-rec on q r e)) divide-u

  -- ---- a parent of p that is no creator has p's creator for a parent, and that has been subdivided
  creator-beside : (c : Pt → ℕ) (p : Pt) (i k : ℕ) → rank p ≡ suc (suc i) → k < 3 → pres_at H c p (suc (suc i)) ≡ true → rank (par p k (suc i)) ≡ suc i
      → (n : ℕ) × (n < 3) × (T c (par (par p k (suc i)) n i) i ≡ true)
  unfolding pres_at
  creator-beside c p i k f hk pr rk =
      let (t, ht, l) = creator-ex p i f in
      let ne : k ≢ t = λ z. (let y = ap (λ (s : ℕ). rank (par p s (suc i))) z in omega arith) in
      let (h, dh, m) = parents-near p i k t hk ht ne f in
      let y : par (par p k (suc i)) ((h + 6) % 12 / 4) i ≡ creator_of p i =
      ap (λ (z : Pt). par z ((h + 6) % 12 / 4) i) m ∙ parent_of (par p t (suc i)) h i dh l ∙ sym (creator-is p i t ht f l) in
      ((h + 6) % 12 / 4, below3 (h + 6), ap (λ (z : Pt). T c z i) y ∙ pr)

  creator-near : (c : Pt → ℕ) (p : Pt) (b i k : ℕ) → b ≡ suc i → rank p ≡ suc b → k < 3 → pres_at H c p (suc b) ≡ true → rank (par p k b) ≡ suc i
      → (n : ℕ) × (n < 3) × (T c (par (par p k b) n i) i ≡ true)
  creator-near c p b i k e f hk pr rk =
      subst (λ (b : ℕ). rank p ≡ suc b → pres_at H c p (suc b) ≡ true → rank (par p k b) ≡ suc i → (n : ℕ) × (n < 3) × (T c (par (par p k b) n i) i ≡ true))
      (sym e)
      (λ x y z. creator-beside c p i k x hk y z) f pr rk

  -- ---- one neighbour: a parent of p that has not been subdivided at p's birth level b, and that E has subdivided there
  abbrev Six : Pt → Counts → Type 0
  Six p d = full_at H (at d) p (rank p) ≡ true

  -- a vertex of level i and a degree below 6, brought to degree 6
  abbrev pub Bring : ℕ → Type 0
  Bring i =
      (d : Counts) (t : List ℕ) → On d t → (p : Pt) (v : Record) → look_up t p.at ≡ Some v → v.d ≢ 0 → v.d ≢ 6 → rank p ≡ suc i → i < 12
      → ((e : Counts) → E e → Six p e)
      → (m : ℕ) → total p i (open_of (T (at d) (par p 0 i) i) (T (at d) (par p 1 i) i) (T (at d) (par p 2 i) i)) ≤ m → Ends m (suc i) d t (Six p) (bring_of i t v)

  module _ (d : Counts) (t : List ℕ) (on : On d t) (p : Pt) (b : ℕ) (f : rank p ≡ suc b) (low : b < 12) (pr : pres_at H (at d) p (suc b) ≡ true)
      (ip : int_at H p (suc b) ≡ true)
      (k : ℕ) (hk : k < 3) (off : T (at d) (par p k b) b ≡ false) (want : (e : Counts) → E e → T (at e) (par p k b) b ≡ true) where
    abbrev q : Pt
    q = par p k b

    good : (x : Pt) → 0 < at d x → full_at H (at d) x (rank x) ≡ true
    good = good-in d H on.mesh.good

    here-q : pres_at H (at d) q (rank q) ≡ true
    here-q = parent-there H (at d) good p b k f pr ip hk

    -- E has it at degree 6 too
    want-six : (e : Counts) → E e → Six q e
    want-six e x = on-six H (at e) q b (good-in e H (E-good e x)) (par-rank p k b hk f) (want e x)

    rec-q : (i : Bool) → int_at H q (rank q) ≡ i → rec H (at d) q ≡ look true i q.at (star_at (at d) q (rank q))
    rec-q i e = rec-at H (at d) q (rank q) refl ∙ (λ j. look (here-q j) (e j) q.at (star_at (at d) q (rank q)))

    -- on the rim: 16, and E is empty
    near-on-rim : int_at H q (rank q) ≡ false → Ends (cost p b k) (suc b) d t (After q b d) (near_of b t q.at)
    near-on-rim e =
        let r : rec H (at d) q ≡ Some (vertex q.at 0 0 0) = rec-q false e ∙ unfold look in refl in
        let h = rec-held on q (vertex q.at 0 0 0) r in
        ends_same (near-rim b t q.at (vertex q.at 0 0 0) h refl)
        (rim [] (vertex q.at 0 0 0) (omega arith) refl here h refl (λ c x. true≢false (sym (int-of-full H (at c) q (rank q) (want-six c x)) ∙ e)))

    -- of degree 6: it has level b
    near-at-six : Six q d → Ends (cost p b k) (suc b) d t (After q b d) (near_of b t q.at)
    near-at-six full =
        let lev : b ≡ rank q + d q.at = six-level H (at d) p b k good f hk pr full off in
        let r = rec-held on q (vertex q.at 6 ((rank q + d q.at) % 2) (rank q + d q.at)) (rec-full H (at d) q full) in
        ends_same (near-six b t q.at (vertex q.at 6 ((rank q + d q.at) % 2) (rank q + d q.at)) r (omega arith) refl (sym lev))
        (ends_more (cost-one p b k) (divide-ends d t on q full b lev low want (vertex q.at 6 ((rank q + d q.at) % 2) (rank q + d q.at)) r))

    -- of a lower degree: its rank is b
    rank-b : full_at H (at d) q (rank q) ≡ false → b ≡ rank q
    rank-b less = go (ℕ_discrete b (rank q))
      where
        go : Dec (b ≡ rank q) → b ≡ rank q
        go (yes e) = e
        go (no n) =
            let (i, bi, o, l) = creator-split H (at d) p b k f hk pr n in
            let m = T-lo (at d) q i o in
            absurd (true≢false (sym (good q (omega arith)) ∙ less))

    module _ (inside : int_at H q (rank q) ≡ true) (less : full_at H (at d) q (rank q) ≡ false) where
      -- its record
      star-less : (i : ℕ) → rank q ≡ suc i
          → ((star_at (at d) q (suc i)).d ≢ 6) × ((star_at (at d) q (suc i)).d ≢ 0) × ((star_at (at d) q (suc i)).n.0 ≡ i) × ((star_at (at d) q (suc i)).at ≡ q.at)
      unfolding star_at
      star-less i e =
          let six : (by_splits q.at (T (at d) (par q 0 i) i) (T (at d) (par q 1 i) i) (T (at d) (par q 2 i) i) (birth q) i (rank q + d q.at)).d ≢ 6 =
          λ z.
          let (x, y, w) = splits-six q.at (T (at d) (par q 0 i) i) (T (at d) (par q 1 i) i) (T (at d) (par q 2 i) i) (birth q) i (rank q + d q.at) z in
          true≢false (sym (full-make H (at d) q i (ap (int_at H q) (sym e) ∙ inside) x y w) ∙ ap (full_at H (at d) q) (sym e) ∙ less) in (
            six,
            splits-some q.at (T (at d) (par q 0 i) i) (T (at d) (par q 1 i) i) (T (at d) (par q 2 i) i) (birth q) i (rank q + d q.at),
            (splits-level q.at (T (at d) (par q 0 i) i) (T (at d) (par q 1 i) i) (T (at d) (par q 2 i) i) (birth q) i (rank q + d q.at) six).0,
            splits-at q.at (T (at d) (par q 0 i) i) (T (at d) (par q 1 i) i) (T (at d) (par q 2 i) i) (birth q) i (rank q + d q.at),
          )

      rank-some : rank q ≡ 0 → ⊥
      rank-some z = true≢false (sym (ap (int_at H q) (sym z) ∙ inside) ∙ int-zero ∙ sym (full-zero H (at d) q) ∙ ap (full_at H (at d) q) (sym z) ∙ less)
        where
          int-zero : int_at H q 0 ≡ inside_base H q.at
          int-zero = unfold int_at in refl

      module _ (i : ℕ) (bi : b ≡ suc i) (ih : Bring i) where
        rank-i : rank q ≡ suc i
        rank-i = sym (rank-b less) ∙ bi

        abbrev s : Record
        s = star_at (at d) q (suc i)

        held-s : look_up t q.at ≡ Some s
        held-s = rec-held on q s (rec-q true inside ∙ ap (λ (n : ℕ). look true true q.at (star_at (at d) q n)) rank-i ∙ unfold look in refl)

        -- one of its own parents has been subdivided
        beside : total q i (open_of (T (at d) (par q 0 i) i) (T (at d) (par q 1 i) i) (T (at d) (par q 2 i) i)) ≤ 2 * near_most i
        beside =
            let (k', h, e) = creator-near (at d) p b i k bi f hk pr rank-i in
            let two = open-two (λ n. T (at d) (par q n i) i) k' h e in
            let ks : List ℕ = open_of (T (at d) (par q 0 i) i) (T (at d) (par q 1 i) i) (T (at d) (par q 2 i) i) in
            let a = total-length q i ks in
            let c = mul-le-mul_right (near_most i) two in omega arith

        costs : 2 * near_most i + 1 ≤ cost p b k
        costs = let a = near-most b i bi in let c = cost-old p b k (omega (arith, rank-i, bi)) in omega arith

        -- brought to degree 6, it has level b and is subdivided
        raise : (l : List Division) (o : MeshAfter) → On (plus l d) o.bytes → Six q (plus l d) → Goes b d (plus l d)
            → Ends 1 (suc b) (plus l d) o.bytes (After q b d) (raised_at o.bytes (look_up o.bytes s.at))
        raise l o on' full g =
            let d' = plus l d in
            let t' = o.bytes in
            let off' : T (at d') q b ≡ false = g.still q b (omega arith) off in
            let pr' : pres_at H (at d') p (suc b) ≡ true = pres-le H (at d) (at d') p (suc b) (λ x. g.above x.at) pr in
            let lev : b ≡ rank q + d' q.at = six-level H (at d') p b k (good-in d' H on'.mesh.good) f hk pr' full off' in
            let w : Record = vertex q.at 6 ((rank q + d' q.at) % 2) (rank q + d' q.at) in
            let r : look_up t' q.at ≡ Some w = rec-held on' q w (rec-full H (at d') q full) in
            let e : subdivide_vertex t' w ≡ raised_at t' (look_up t' s.at) = ap (raised_at t') (sym r ∙ ap (look_up t') (sym (star-less i rank-i).3)) in
            ends_same e (ends-past d' t' (subdivide_vertex t' w) g (divide-ends d' t' on' q full b lev low want w r))
          where
            -- what was so before the neighbour was brought, is so of the whole
            ends-past : (d' : Counts) (t' : List ℕ) (o : MeshAfter) → Goes b d d' → Ends 1 (suc b) d' t' (After q b d') o → Ends 1 (suc b) d' t' (After q b d) o
            ends-past d' t' o g (made m l z x y (a, h) w) = made m l z x y (a, λ v ne of. h v ne (g.still v b (omega arith) of)) w
            ends-past d' t' o g (rim m u l z r e i x) = rim m u l z r e i x
            ends-past d' t' o g (short m v l z x y w) = short m v l z x y w

        near-below : Ends (cost p b k) (suc b) d t (After q b d) (near_of b t q.at)
        near-below =
            let (six, some-d, lev, at-q) = star-less i rank-i in
            let one : s.n.0 + 1 ≡ b = omega (arith, lev, bi) in
            let bring = ih d t on q s held-s some-d six rank-i (omega (arith, bi, low)) want-six (2 * near_most i) beside in
            let e : bring_of i t s ≡ bring_of s.n.0 t s = ap (λ (n : ℕ). bring_of n t s) (sym lev) in
            let first : Ends (2 * near_most i) b d t (Six q) (bring_of s.n.0 t s) =
            ends_same e (subst (λ (n : ℕ). Ends (2 * near_most i) n d t (Six q) (bring_of i t s)) (sym bi) bring) in
            ends_same (near-lower b t q.at s held-s some-d six one)
            (ends_more costs (after-bring (bring_of s.n.0 t s) first))
          where
            after-bring : (o : MeshAfter) → Ends (2 * near_most i) b d t (Six q) o
                → Ends (2 * near_most i + 1) (suc b) d t (After q b d) (and_then o (λ x. raised_at x (look_up x s.at)))
            after-bring o (made l y z r on' full g) =
                ends_same (then-on o (λ x. raised_at x (look_up x s.at)) z) (ends-after l y r (goes-up (omega arith) g) (raise l o on' full g))
            after-bring o (rim l u y z r e k x) =
                ends_same (then-stop o (λ x. raised_at x (look_up x s.at)) (λ w. omega arith)) (rim l u (omega arith) z r e k x)
            after-bring o (short l v y z r h x) =
                ends_same (then-stop o (λ x. raised_at x (look_up x s.at)) (λ w. omega arith)) (short l v (omega arith) z r h x)

    pub near-ends : ((i : ℕ) → b ≡ suc i → Bring i) → Ends (cost p b k) (suc b) d t (After q b d) (near_of b t q.at)
    near-ends ih = inner (int_at H q (rank q)) refl (full_at H (at d) q (rank q)) refl
      where
        below : int_at H q (rank q) ≡ true → full_at H (at d) q (rank q) ≡ false → (n : ℕ) → b ≡ n
            → Ends (cost p b k) (suc b) d t (After q b d) (near_of b t q.at)
        below x y zero e = absurd (rank-some x y (sym (rank-b y) ∙ e))
        below x y (suc i) e = near-below x y i e (ih i e)

        inner : (x : Bool) → int_at H q (rank q) ≡ x → (y : Bool) → full_at H (at d) q (rank q) ≡ y
            → Ends (cost p b k) (suc b) d t (After q b d) (near_of b t q.at)
        inner false x y z = near-on-rim x
        inner true x true z = near-at-six z
        inner true x false z = below x z b refl

  -- ---- the places in turn
  module _ (p : Pt) (b : ℕ) (f : rank p ≡ suc b) (low : b < 12) (ip : int_at H p (suc b) ≡ true) (v : Record) (want : (e : Counts) → E e → Six p e)
      (ih : (i : ℕ) → b ≡ suc i → Bring i) where
    abbrev Off : Counts → ℕ → Type 0
    Off d k = (k < 3) × (T (at d) (par p k b) b ≡ false)

    abbrev Rest : Counts → List ℕ → Type 0
    Rest d ks = (k : ℕ) → k < 3 → (T (at d) (par p k b) b ≡ true) ⊎ Memᴰ k ks

    abbrev Loop : List ℕ → List ℕ → Type 0
    Loop js ks =
        (d : Counts) (t : List ℕ) → On d t → pres_at H (at d) p (suc b) ≡ true → Apart ks → All (Off d) ks → Rest d ks
        → Ends (total p b ks) (suc b) d t (Six p) (each_of (near_of b) v t js)

    want-par : (k : ℕ) → k < 3 → (e : Counts) → E e → T (at e) (par p k b) b ≡ true
    want-par k h e x = full-par H (at e) p b k h (ap (full_at H (at e) p) (sym f) ∙ want e x)

    -- none is left
    all_done : Loop [] []
    unfolding each_of
    all_done d t on pr a o rest =
        made [] (omega arith) refl here (subst (λ (c : Counts). On c t) (plus_none d) on) (subst (Six p) (plus_none d) six)
        (subst (Goes (suc b) d) (plus_none d) (goes_refl (suc b) d))
      where
        on-k : (k : ℕ) → k < 3 → T (at d) (par p k b) b ≡ true
        on-k k h = go (rest k h)
          where
            go : (T (at d) (par p k b) b ≡ true) ⊎ Memᴰ k [] → T (at d) (par p k b) b ≡ true
            go (inl e) = e
            go (inr m) = absurd (Memᴰ.not-nil m)

        six : Six p d
        six = ap (full_at H (at d) p) f ∙ full-make H (at d) p b ip (on-k 0 (omega arith)) (on-k 1 (omega arith)) (on-k 2 (omega arith))

    one-total : (k : ℕ) (ks : List ℕ) → cost p b k + total p b ks ≤ total p b (k ∷ ks)
    unfolding total
    one-total k ks = omega arith

    one_more : (j k : ℕ) (js ks : List ℕ) → adjacent_at v j ≡ (par p k b).at → Loop js ks → Loop (j ∷ js) (k ∷ ks)
    unfolding each_of
    one_more j k js ks e loop d t on pr (W.cons _ _ fresh a) (W.cons _ _ (hk, off) os) rest =
        ends_more (one-total k ks)
        (ends-then (near_of b t (adjacent_at v j)) (λ u. each_of (near_of b) v u js)
        (subst (λ (x : Point). Ends (cost p b k) (suc b) d t (After (par p k b) b d) (near_of b t x)) (sym e)
        (near-ends d t on p b f low pr ip k hk off (want-par k hk) ih))
        (λ l on' y g. loop (plus l d) (near_of b t (adjacent_at v j)).bytes on' (pres-le H (at d) (at (plus l d)) p (suc b) (λ x. g.above x.at) pr) a
        (all_map (Off d) (Off (plus l d)) ks (λ n m z. (z.0, y.1 (par p n b) (λ w. fresh n m (par-inj p n k b z.0 hk f w)) z.1)) os)
        (λ n h. later l y.0 g n h (rest n h))))
      where
        later : (l : List Division) → T (at (plus l d)) (par p k b) b ≡ true → Goes (suc b) d (plus l d) → (n : ℕ) → n < 3
            → (T (at d) (par p n b) b ≡ true) ⊎ Memᴰ n (k ∷ ks)
            → (T (at (plus l d)) (par p n b) b ≡ true) ⊎ Memᴰ n ks
        later l now g n h (inl x) = inl (T-le H (at d) (at (plus l d)) (par p n b) b (λ y. g.above y.at) x)
        later l now g n h (inr m) = by (Memᴰ.cases_cons m)
          where
            by : (n ≡ k) ⊎ Memᴰ n ks → (T (at (plus l d)) (par p n b) b ≡ true) ⊎ Memᴰ n ks
            by (inl z) = inl (ap (λ (i : ℕ). T (at (plus l d)) (par p i b) b) z ∙ now)
            by (inr z) = inr z

    loop : (js ks : List ℕ) → Ways v p b js ks → Loop js ks
    loop _ _ W.none = all_done
    loop _ _ (way j k js ks e w) = one_more j k js ks e (loop js ks w)

  -- ---- a vertex
  module _ (b : ℕ) (ih : (i : ℕ) → b ≡ suc i → Bring i) where
    bring-ends : Bring b
    unfolding star_at
    bring-ends d t on p v e rim-not six-not f low want m hm =
        let s : ℕ → Bool = λ k. T (at d) (par p k b) b in
        let (pr, ip, is) =
        look-inside (pres_at H (at d) p (suc b)) (int_at H p (suc b)) p.at (star_at (at d) p (suc b)) v
        (sym (rec-at H (at d) p (suc b) f) ∙ held-rec on p v e) rim-not in
        let ways = open-ways p b f v (s 0) (s 1) (s 2) (rank p + d p.at) is six-not in
        let at_p : v.at ≡ p.at = ap (λ (r : Record). r.at) is ∙ splits-at p.at (s 0) (s 1) (s 2) (birth p) b (rank p + d p.at) in
        ends_same (bring-is b t v)
        (ends_more (most (total p b (open_of (s 0) (s 1) (s 2))) hm)
        (ends-then (each_of (near_of b) v t (places_of v.d)) (λ u. ends_at u (look_up u v.at))
        (loop p b f low ip v want ih (places_of v.d) (open_of (s 0) (s 1) (s 2)) ways d t on pr (open-apart (s 0) (s 1) (s 2))
        (open-off s (s 0) (s 1) (s 2) refl refl refl) (open-rest s (s 0) (s 1) (s 2) refl refl refl))
        (λ l on' full g. last (plus l d) (each_of (near_of b) v t (places_of v.d)).bytes on' full at_p)))
      where
        most : (n : ℕ) → n ≤ m → n + 0 ≤ m
        most n h = omega arith

        last : (d' : Counts) (u : List ℕ) → On d' u → Six p d' → v.at ≡ p.at → Ends 0 (suc b) d' u (Six p) (ends_at u (look_up u v.at))
        last d' u on' full at_p =
            let w : Record = vertex p.at 6 ((rank p + d' p.at) % 2) (rank p + d' p.at) in
            let r : look_up u v.at ≡ Some w = ap (look_up u) at_p ∙ rec-held on' p w (rec-full H (at d') p full) in
            ends_same (ap (ends_at u) (sym r))
            (made [] (omega arith) refl here (subst (λ (c : Counts). On c u) (plus_none d') on') (subst (Six p) (plus_none d') full)
            (subst (Goes (suc b) d') (plus_none d') (goes_refl (suc b) d')))

  -- by the level
  pub bring-all : (b : ℕ) → Bring b
  bring-all zero = bring-ends zero (λ i e. absurd (omega arith))
  bring-all (suc b) = bring-ends (suc b) (lower (bring-all b))
    where
      lower : Bring b → (i : ℕ) → suc b ≡ suc i → Bring i
      lower x i e = let z : b ≡ i = omega arith in subst Bring z x
