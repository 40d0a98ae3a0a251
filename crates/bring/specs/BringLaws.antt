-- Document 02, ticket 4, on grown tables, over the definition that the promise cites.
-- `Alike` the same records, whatever the room · `Six` a vertex of degree 6 stands at a point · `Reaching` the sequences that reach the goal · `risen`
-- the vertex at its own level and one more · `Finish` how the request ends at a vertex below degree 6 and level 12: done; 16, and no sequence reaches
-- the goal in any room; 8, and every sequence that does is longer than the free slots allow · `Request`, `request-end` how every request ends.
-- Why: Ends follows the request in the model, with all counts that reach the goal in view; each step it makes is one that they all have.
-- Assumes nothing.
use Rattle.std.specs.Prelude.{◌≡◌, ◌≢◌, Bool, true, ℤ, Option, Some, None}
use Rattle.std.proofs.Math.Path.{refl}
use Rattle.std.proofs.Common.{sym, ◌∙◌, ap, subst}
use mathlib.Core.List.{List, ◌∷◌, Memᴰ}
use Prim.Native.Nat.{ℕ, zero, suc, ◌+◌, ◌*◌, ◌%◌, ◌≤◌, ◌<◌}
use native.Mathlib.Omega.{arith}
use Rattle.std.proofs.Math.Decide.{dec_lt, ℕ_discrete}
use Rattle.std.proofs.Math.ListN.{length}
use Rattle.laws.specs.Choices.{of-true}
use Rattle.lattice.specs.Points.{normal_of}
use Rattle.lattice.specs.RecordLaws.{valid-level}
use Rattle.lattice.specs.declared.points.Point.{Point}
use Rattle.lattice.specs.declared.records.Record.{Record}
use Rattle.geometry.specs.SubdivisionLaws.{sited}
use Rattle.growth.specs.Sheets.{vertex}
use Rattle.growth.specs.Model.{Counts}
use Rattle.growth.specs.Normal.{Pt, rank, birth}
use Rattle.growth.specs.Parents.{par}
use Rattle.growth.specs.Closed.{T-off, T-hi, star_at, pres_at, int_at, full_at, rec, rec-at}
use Rattle.growth.specs.Updates.{look-inside}
use Rattle.growth.specs.OneStep.{rec-full}
use Rattle.growth.specs.Link.{at, record_is, good-in}
use Rattle.growth.specs.Growth.{grown-closed}
use Rattle.growth.specs.GrownLaws.{Closed}
use Rattle.table.specs.Entries.{look_up}
use Rattle.table.specs.Order.{InOrder}
use Rattle.table.specs.Slots.{free_slots}
use Rattle.table.specs.MapLaws.{lookup-valid, lookup-point, order-test}
use Rattle.mesh.specs.Grown.{Grown}
use Rattle.mesh.specs.Subdivide.{MeshAfter, mesh_after}
use Rattle.local.specs.Sheet.{as_option, sheet_of}
use Rattle.grown.specs.Steps.{sheet-held}
use Rattle.grown.specs.Tables.{grown-sheet}
use Rattle.grown.specs.Untorn.{divided-grown}
use Rattle.bring.specs.Bring.{bring_of, request_of}
use Rattle.mesh.specs.Subdivide.{all_or}
use Rattle.bring.specs.CallLaws.{vertex-14, vertex-0, vertex-5, vertex-on, request-3, request-on}
use Rattle.mesh.specs.StepLaws.{all_made, all_back}
use Rattle.bring.specs.Ways.{splits-level}
use Rattle.bring.specs.Runs.{Division, Run, here, next, run-free, plus, plus-le, Mesh, run-mesh, run-has, run_in}
use Rattle.bring.specs.Least.{plus-length}
use Rattle.bring.specs.Costs.{near_most, total-most}
use Rattle.bring.specs.Ends.{some_same, Ends, bring-all}
use Rattle.growth.specs.Closed as C
use Rattle.growth.specs.Model as M
use Rattle.growth.specs.OneStep as One
use Rattle.bring.specs.Ends as E

-- ---- the goal, and the sequences that reach it
-- t' holds the same records, and has whatever room
pub record Alike (t t' : List ℕ) : Type 0 where
  pub order : InOrder t'
  pub same : (p : Point) → look_up t' p ≡ look_up t p

-- a vertex of degree 6 stands at p
abbrev pub Six : List ℕ → Point → Type 0
Six t p = (w : Record) × (look_up t p ≡ Some w) × (w.d ≡ 6)

-- a sequence of accepted subdivisions, from the records of t in whatever room, after which the vertex at p has degree 6
pub record Reaching (t : List ℕ) (p : Point) (l : List Division) : Type 0 where
  pub first : List ℕ
  pub last : List ℕ
  pub alike : Alike t first
  pub run : Run first l last
  pub six : Six last p

-- a vertex of level n, brought: degree 6 at its own level and one more, where the model has the orientation level mod 2
abbrev pub risen : Point → ℕ → Record
risen p n = vertex p 6 (suc n % 2) (suc n)

-- how the request ends for a vertex of level n, with the number and the table of o
pub data Finish (t : List ℕ) (p : Point) (n : ℕ) (o : MeshAfter) : Type 0 where
  -- done, by a sequence of accepted subdivisions in t's own room; the vertex has risen, the table is grown, and x was made exactly where every sequence
  -- reaching the goal has it
  done : (l : List Division) → o.number ≡ 0 → Run t l o.bytes → look_up o.bytes p ≡ Some (risen p n) → Grown o.bytes
      → ((x : Division) → Memᴰ x l → (k : List Division) → Reaching t p k → Memᴰ x k)
      → ((x : Division) → ((k : List Division) → Reaching t p k → Memᴰ x k) → Memᴰ x l)
      → Finish t p n o
  -- 16 (where the chain reaches a boundary vertex: Boundary): no sequence reaches the goal, in no room
  rim : (l : List Division) (s : List ℕ) (u : Record) → o.number ≡ 16 → o.bytes ≡ t → Run t l s → look_up s u.at ≡ Some u → u.d ≡ 0
      → ((k : List Division) → Reaching t p k → ⊥) → Finish t p n o
  -- 8: after some accepted subdivisions fewer than six slots were free; then each sequence that reaches the goal wants more slots than t has free
  short : (l : List Division) (s : List ℕ) → o.number ≡ 8 → o.bytes ≡ t → Run t l s → free_slots s < 6 → free_slots t < 12 * near_most n + 6
      → ((k : List Division) → Reaching t p k → free_slots t < 6 * length k) → Finish t p n o

-- a sequence leaves a grown table grown
run-grown : (t s : List ℕ) (l : List Division) → Grown t → Run t l s → Grown s
run-grown t _ _ g here = g
run-grown t _ _ g (next l s r v e z) = divided-grown s (run-grown t s l g r) v.at.a v.at.b v.at.m.0 z

-- ---- a vertex of a grown table, below degree 6 and level 12
module _ (t : List ℕ) (g : Grown t) (v : Record) (held : look_up t v.at ≡ Some v) (rim-not : v.d ≢ 0) (six-not : v.d ≢ 6) (low : v.n.0 < 12) where
  closed : Closed (sheet_of t)
  closed = grown-closed (sheet_of t) (grown-sheet t g)

  abbrev H : Point → Bool
  H = closed.H

  abbrev c : Counts
  c = closed.c

  mesh : Mesh H c t
  mesh = record { order = g.order; is = closed.is; good = closed.good }

  abbrev p : Pt
  p = record { at = v.at; normal = (sited v (of-true (lookup-valid t g.order v.at v held))).normal }

  -- the counts that reach the goal
  abbrev Goal : Counts → Type 0
  Goal e = M.Good H e × ((x : Point) → c x ≤ e x) × (full_at H (at e) p (rank p) ≡ true)

  -- a sequence that reaches it has such counts
  alike-mesh : (t' : List ℕ) → Alike t t' → Mesh H c t'
  alike-mesh t' a = record { order = a.order; is = λ x. ap as_option (a.same x) ∙ closed.is x; good = closed.good }

  reaching-goal : (k : List Division) → Reaching t v.at k → Goal (plus k c)
  reaching-goal k r =
      let m = run-mesh H c r.first r.last k (alike-mesh r.first r.alike) r.run in
      let (w, e, d) = r.six in
      let x : rec H (at (plus k c)) p ≡ Some w = sym (record_is (plus k c) H p) ∙ sym (m.is v.at) ∙ ap as_option e in
      (m.good, plus-le k c, (One.six H (at (plus k c)) p w x d).1)

  in-mesh : rec H (at c) p ≡ Some v
  in-mesh = sym (record_is c H p) ∙ sym (closed.is v.at) ∙ ap as_option held

  -- the vertex has level rank - 1
  ranked : rank p ≡ suc v.n.0
  ranked = go (rank p) refl
    where
      star-0 : (star_at (at c) p 0).d ≡ 6
      star-0 = unfold star_at in refl

      star-n : (b : ℕ) → (star_at (at c) p (suc b)).d ≢ 6 → (star_at (at c) p (suc b)).n.0 ≡ b
      star-n b n =
          unfold star_at in
          (splits-level p.at (C.T (at c) (par p 0 b) b) (C.T (at c) (par p 1 b) b) (C.T (at c) (par p 2 b) b) (birth p) b (rank p + c p.at) n).0

      go : (f : ℕ) → rank p ≡ f → rank p ≡ suc v.n.0
      go f e = by f e (look-inside (pres_at H (at c) p f) (int_at H p f) p.at (star_at (at c) p f) v (sym (rec-at H (at c) p f e) ∙ in-mesh) rim-not).2
        where
          by : (f : ℕ) → rank p ≡ f → v ≡ star_at (at c) p f → rank p ≡ suc v.n.0
          by zero e s = absurd (six-not (ap (λ (r : Record). r.d) s ∙ star-0))
          by (suc b) e s = e ∙ ap suc (sym (ap (λ (r : Record). r.n.0) s ∙ star-n b (λ z. six-not (ap (λ (r : Record). r.d) s ∙ z))))

  ended : Ends H Goal (λ e x. x.0) (2 * near_most v.n.0 + 1) (suc v.n.0) c t (λ d. full_at H (at d) p (rank p) ≡ true) (bring_of v.n.0 t v)
  ended =
      bring-all H Goal (λ e x. x.0) v.n.0 c t (record { mesh = mesh; needed = λ e x. x.1 }) p v held rim-not six-not ranked low (λ e x. x.2)
      (2 * near_most v.n.0 + 1)
      (total-most p v.n.0 ranked (C.T (at c) (par p 0 v.n.0) v.n.0) (C.T (at c) (par p 1 v.n.0) v.n.0)
      (C.T (at c) (par p 2 v.n.0) v.n.0))

  -- it has not been subdivided, and is not on the way
  unsplit : c v.at ≡ 0
  unsplit = go (dec_lt 0 (c v.at))
    where
      go : Dec (0 < c v.at) → c v.at ≡ 0
      go (no h) = omega arith
      go (yes h) = absurd (six-not (ap (λ (r : Record). r.d) (some_same (sym in-mesh ∙ rec-full H (at c) p (good-in c H closed.good p h)))))

  level-after : (d : Counts) → E.Goes H Goal (λ e x. x.0) (suc v.n.0) c d → rank p + d v.at ≡ suc v.n.0
  level-after d goes =
      let n = suc v.n.0 in
      let z = unsplit in
      let f = ranked in
      let hi = T-hi (at d) p n (goes.still p n (omega arith) (T-off (at c) p n (omega arith))) in omega arith

  number : {x y : MeshAfter} → x ≡ y → y.number ≡ x.number
  number e = ap (λ (o : MeshAfter). o.number) (sym e)

  bytes : {x y : MeshAfter} → x ≡ y → y.bytes ≡ x.bytes
  bytes e = ap (λ (o : MeshAfter). o.bytes) (sym e)

  pub vertex-finish : Finish t v.at v.n.0 (all_or t (bring_of v.n.0 t v))
  vertex-finish = go (bring_of v.n.0 t v) ended
    where
      self : Alike t t
      self = record { order = g.order; same = λ x. refl }

      go : (o : MeshAfter) → Ends H Goal (λ e x. x.0) (2 * near_most v.n.0 + 1) (suc v.n.0) c t (λ d. full_at H (at d) p (rank p) ≡ true) o
          → Finish t v.at v.n.0 (all_or t o)
      go o (E.made l y z r on full goes) = subst (Finish t v.at v.n.0) (all_made t o z) (done l z r rises (run-grown t o.bytes l g r) needed exact)
        where
          rises : look_up o.bytes v.at ≡ Some (risen v.at v.n.0)
          rises =
              let n = rank p + plus l c v.at in
              let w = vertex v.at 6 (n % 2) n in
              sheet-held (look_up o.bytes v.at) w (on.mesh.is v.at ∙ record_is (plus l c) H p ∙ rec-full H (at (plus l c)) p full)
              ∙ ap (λ (i : ℕ). Some (vertex v.at 6 (i % 2) i)) (level-after (plus l c) goes)

          six : Six o.bytes v.at
          six = (risen v.at v.n.0, rises, refl)

          needed : (x : Division) → Memᴰ x l → (k : List Division) → Reaching t v.at k → Memᴰ x k
          needed (q, i) m k y =
              let (lo, hi) = run_in H c t o.bytes l mesh r q i m in
              let le = on.needed (plus k c) (reaching-goal k y) q in
              run-has H c y.first y.last k (alike-mesh y.first y.alike) y.run q i lo (omega arith)

          exact : (x : Division) → ((k : List Division) → Reaching t v.at k → Memᴰ x k) → Memᴰ x l
          exact x f = f l (record { first = t; last = o.bytes; alike = self; run = r; six = six })
      go o (E.rim l u y z r h i none) =
          let e = all_back t o (λ y. omega arith) in
          rim l o.bytes u (number e ∙ z) (bytes e) r h i (λ k y. none (plus k c) (reaching-goal k y))
      go o (E.short l q y z r few need) =
          let e = all_back t o (λ y. omega arith) in
          short l o.bytes (number e ∙ z) (bytes e) r few (small y) (λ k y. longer k (reaching-goal k y))
        where
          small : length l < 2 * near_most v.n.0 + 1 → free_slots t < 12 * near_most v.n.0 + 6
          small h = let f = run-free t o.bytes l r in omega arith

          longer : (k : List Division) → Goal (plus k c) → free_slots t < 6 * length k
          longer k y =
              let one : List Division = (q, 0) ∷ l in
              let n : length one ≤ length k = plus-length c one k (λ x. unfold plus in need (plus k c) y x) in
              let m : length one ≡ suc (length l) = refl in
              let f = run-free t o.bytes l r in omega arith

-- ---- the request
pub data Request (t : List ℕ) (a b : ℤ) (m : ℕ) : Type 0 where
  missing : look_up t (normal_of a b m) ≡ None → mesh_after 3 t ≡ request_of t a b m → Request t a b m
  boundary : (v : Record) → look_up t (normal_of a b m) ≡ Some v → v.d ≡ 0 → mesh_after 14 t ≡ request_of t a b m → Request t a b m
  already : (v : Record) → look_up t (normal_of a b m) ≡ Some v → v.d ≡ 6 → mesh_after 0 t ≡ request_of t a b m → Request t a b m
  top : (v : Record) → look_up t (normal_of a b m) ≡ Some v → v.d ≢ 0 → v.d ≢ 6 → v.n.0 ≡ 12 → mesh_after 5 t ≡ request_of t a b m → Request t a b m
  asked : (v : Record) → look_up t (normal_of a b m) ≡ Some v → v.d ≢ 0 → v.d ≢ 6 → v.n.0 < 12 → Finish t v.at v.n.0 (request_of t a b m)
      → Request t a b m

module _ (t : List ℕ) (g : Grown t) (a b : ℤ) (m : ℕ) where
  pub request-end : Request t a b m
  request-end = looked (look_up t (normal_of a b m)) refl
    where
      at-vertex : (v : Record) → look_up t (normal_of a b m) ≡ Some v → Dec (v.d ≡ 0) → Dec (v.d ≡ 6) → Dec (v.n.0 ≡ 12) → Request t a b m
      at-vertex v e (yes d) six n = boundary v e d (vertex-14 t v d ∙ request-on t a b m (order-test t g.order) v e)
      at-vertex v e (no d) (yes six) n = already v e six (vertex-0 t v d six ∙ request-on t a b m (order-test t g.order) v e)
      at-vertex v e (no d) (no six) (yes n) = top v e d six n (vertex-5 t v d six n ∙ request-on t a b m (order-test t g.order) v e)
      at-vertex v e (no d) (no six) (no n) =
          let l = valid-level v (of-true (lookup-valid t g.order (normal_of a b m) v e)) in
          let low : v.n.0 < 12 = omega arith in
          let own : look_up t v.at ≡ Some v = ap (look_up t) (lookup-point t g.order (normal_of a b m) v e) ∙ e in
          asked v e d six low
          (subst (Finish t v.at v.n.0) (vertex-on t v d six n ∙ request-on t a b m (order-test t g.order) v e)
          (vertex-finish t g v own d six low))

      looked : (l : Option Record) → look_up t (normal_of a b m) ≡ l → Request t a b m
      looked None e = missing e (request-3 t a b m (order-test t g.order) e)
      looked (Some v) e = at-vertex v e (ℕ_discrete v.d 0) (ℕ_discrete v.d 6) (ℕ_discrete v.n.0 12)
