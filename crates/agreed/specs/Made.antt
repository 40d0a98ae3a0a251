-- The calls that make several subdivisions leave such a list too: whatever they answer, the table after is that before with accepted subdivisions made, one
-- after the other (everywhere's `Run`).
-- `run-left` a sequence over a list that was left · `asked_of`, `Done`, `all-run` by `subdivide_all`, a pair for each triple that is done · `bring-run` by
-- bringing a vertex to degree 6.
-- Assumes nothing.
use Rattle.std.specs.Prelude.{◌≡◌, Bool, true, false, List, [], ◌∷◌, ◌++◌, map, eqb, ℤ, pos, nat_abs, get_or}
use Rattle.std.proofs.Math.Path.{refl}
use Rattle.std.proofs.Common.{sym, ◌∙◌, ap, subst, arith, eqb-true}
use Prim.Native.Nat.{ℕ, zero, suc, ◌+◌, ◌*◌}
use Rattle.laws.specs.Choices.{unless}
use Rattle.laws.specs.Triples.{triples_in, is_byte}
use Rattle.lattice.specs.Points.{normal_of}
use Rattle.lattice.specs.declared.points.Point.{Point}
use Rattle.lattice.specs.declared.records.Record.{Record}
use Rattle.table.specs.Entries.{look_up}
use Rattle.table.specs.MapLaws.{lookup-point, order-test}
use Rattle.table.specs.Order.{in_order_of}
use Rattle.mesh.specs.Subdivide.{MeshAfter, mesh_after, Many, subdivide_of, subdivide_triple, subdivide_from, subdivide_all_of}
use Rattle.mesh.specs.CallLaws.{call-vertex}
use Rattle.mesh.specs.StepLaws.{own-looked}
use Rattle.grown.specs.Steps.{accepted}
use Rattle.bring.specs.Bring.{BringAfter, bring_to_six}
use Rattle.everywhere.specs.Runs.{Division, Run, here, next}
use Rattle.everywhere.specs.Everywhere.{Answers, bring-answers, bring-done}
use Rattle.everywhere.specs.Everywhere as bringing
use Rattle.agreed.specs.Tables.{Left, divided}

-- over a list that was left
pub run-left : (cs : List ℤ) (l : List Division) (t s : List ℕ) (k : List Division) → Left cs l t → Run t k s → Left cs (k ++ l) s
run-left cs l t _ _ h here = h
run-left cs l t _ _ h (next k s r v e z) =
    let o = (accepted s v.at.a v.at.b v.at.m.0 z).order in
    divided (k ++ l) s (run-left cs l t s k h r) v.at.a v.at.b v.at.m.0 v (own-looked s o v e) z

-- ---- one subdivision, however its point is spelled
run-next : (t : List ℕ) (k : List Division) (s : List ℕ) → Run t k s → (a b : ℤ) (m : ℕ) → (subdivide_of s a b m).number ≡ 0
    → (n : ℕ) × Run t ((normal_of a b m, n) ∷ k) (subdivide_of s a b m).bytes
run-next t k s r a b m z =
    let x = accepted s a b m z in
    let v = x.vertex in
    let o = x.order in
    let own = own-looked s o v x.held in
    let same : subdivide_of s v.at.a v.at.b v.at.m.0 ≡ subdivide_of s a b m
    = sym (call-vertex s v.at.a v.at.b v.at.m.0 (order-test s o) v own) ∙ call-vertex s a b m (order-test s o) v x.looked in
    let point : v.at ≡ normal_of a b m = lookup-point s o (normal_of a b m) v x.looked in (
      v.n.0,
      subst (λ (p : Point). Run t ((p, v.n.0) ∷ k) (subdivide_of s a b m).bytes) point
          (subst (λ (u : MeshAfter). Run t ((v.at, v.n.0) ∷ k) u.bytes) same
          (next k s r v x.held (ap (λ (u : MeshAfter). u.number) same ∙ z))),
    )

-- ---- `subdivide_all`
module _ (qs : List ℤ) where
  -- the points of the first n triples, the last first
  unfoldable pub asked_of : ℕ → List Point
  asked_of zero = []
  asked_of (suc n) = normal_of (get_or qs (3 * n) (pos 0)) (get_or qs (3 * n + 1) (pos 0)) (nat_abs (get_or qs (3 * n + 2) (pos 0))) ∷ asked_of n

  -- n triples are done, from t to u
  pub record Done (t : List ℕ) (n : ℕ) (u : List ℕ) : Type 0 where
    pub made : List Division
    pub points : map (λ (x : Division). x.0) made ≡ asked_of n
    pub run : Run t made u

  module _ (t : List ℕ) where
    triple-run : (i : ℕ) (u : List ℕ) → Done t i u → (subdivide_triple u qs i).number ≡ 0 → Done t (i + 1) (subdivide_triple u qs i).bytes
    unfolding subdivide_triple asked_of
    triple-run i u d = go (is_byte (get_or qs (3 * i + 2) (pos 0)))
      where
        o : MeshAfter
        o = subdivide_of u (get_or qs (3 * i) (pos 0)) (get_or qs (3 * i + 1) (pos 0)) (nat_abs (get_or qs (3 * i + 2) (pos 0)))

        go : (b : Bool) → (unless b (mesh_after 3 u) o).number ≡ 0 → Done t (i + 1) (unless b (mesh_after 3 u) o).bytes
        go false z = absurd (omega arith)
        go true z =
            let a = get_or qs (3 * i) (pos 0) in
            let b = get_or qs (3 * i + 1) (pos 0) in
            let m = nat_abs (get_or qs (3 * i + 2) (pos 0)) in
            let (n, r) = run-next t d.made u d.run a b m z in
            let s : suc i ≡ i + 1 = omega arith in
            record {
              made = (normal_of a b m, n) ∷ d.made;
              points = ap (λ (l : List Point). normal_of a b m ∷ l) d.points ∙ ap asked_of s;
              run = r;
            }

    from-run : (left i : ℕ) (u : List ℕ) → Done t i u → Done t (subdivide_from u qs i left).done (subdivide_from u qs i left).bytes
    unfolding subdivide_from
    from-run zero i u d = d
    from-run (suc left) i u d = go (eqb o.number 0) refl (λ x y. from-run left (i + 1) x y)
      where
        o : MeshAfter
        o = subdivide_triple u qs i

        after : Bool → Many
        after b = unless b (record { number = o.number; done = i; bytes = u }) (subdivide_from o.bytes qs (i + 1) left)

        go : (b : Bool) → eqb o.number 0 ≡ b
            → ((x : List ℕ) → Done t (i + 1) x → Done t (subdivide_from x qs (i + 1) left).done (subdivide_from x qs (i + 1) left).bytes)
            → Done t (after b).done (after b).bytes
        go false e ih = d
        go true e ih = ih o.bytes (triple-run i u d (eqb-true o.number 0 e))

    pub all-run : Done t (subdivide_all_of t qs).done (subdivide_all_of t qs).bytes
    unfolding subdivide_all_of asked_of
    all-run = go (in_order_of t)
      where
        start : Done t 0 t
        start = record { made = []; points = refl; run = here }

        go : (b : Bool)
            → Done t (unless b (record { number = 1; done = 0; bytes = t }) (subdivide_from t qs 0 (triples_in qs))).done
            (unless b (record { number = 1; done = 0; bytes = t }) (subdivide_from t qs 0 (triples_in qs))).bytes
        go false = start
        go true = from-run (triples_in qs) 0 t start

-- ---- a vertex brought to degree 6: whatever it answers, and whatever scratch was lent
pub bring-run : (t s : List ℕ) (a b : ℤ) (m : ℕ) → (k : List Division) × Run t k (bring_to_six t s a b m).table
bring-run t s a b m = go (bring-answers t s a b m)
  where
    call : BringAfter
    call = bring_to_six t s a b m

    Runs : Type 0
    Runs = (k : List Division) × Run t k call.table

    same : {o : BringAfter} → call ≡ o → o.table ≡ t → Runs
    same e u = ([], subst (Run t []) (sym (ap (λ (o : BringAfter). o.table) e ∙ u)) here)

    go : Answers t s (look_up t (normal_of a b m)) call → Runs
    go (bringing.unfit f e) = same e refl
    go (bringing.unordered f i e) = same e refl
    go (bringing.missing f i x e) = same e refl
    go (bringing.boundary v w d e) = same e refl
    go (bringing.already v w d e) = same e refl
    go (bringing.top v w d x n e) = same e refl
    go (bringing.met v w x k e) = same e refl
    go (bringing.done v w r g e) =
        let d = bring-done t s a b m v w.asked.held (ap (λ (o : BringAfter). o.number) e) in
        (d.list, d.run)
