-- Refining round an outline makes a sequence too: what a pass makes it makes by accepted subdivisions, and a refused pass leaves the table as it was.
-- `each-run` a list that is made in turn · `pass-run` a pass · `passes-run` the passes · `refine-run` the call, whatever it answers.
-- Assumes nothing.
use Rattle.std.specs.Prelude.{◌≡◌, refl, Bool, true, false, eqb, Some}
use Rattle.std.proofs.Common.{sym, ◌∙◌}
use Rattle.std.proofs.Math.Path.{ap, subst}
use mathlib.Core.List.{List, [], ◌∷◌}
use Prim.Native.Nat.{ℕ, zero, suc, ◌+◌}
use Rattle.std.proofs.Math.Decide.{ℕ_discrete}
use Rattle.laws.specs.Choices.{unless}
use Rattle.lattice.specs.Points.{normal_of}
use Rattle.lattice.specs.declared.points.Point.{Point}
use Rattle.lattice.specs.declared.records.Record.{Record}
use Rattle.table.specs.Entries.{look_up}
use Rattle.table.specs.MapLaws.{order-test, test-order}
use Rattle.table.specs.Order.{InOrder, in_order_of}
use Rattle.table.specs.Slots.{lengths_fit}
use Rattle.mesh.specs.Subdivide.{MeshAfter, mesh_after, subdivided, subdivide_looked, subdivide_of, all_or}
use Rattle.mesh.specs.SubdivideLaws.{Intact, subdivided-order}
use Rattle.mesh.specs.CallLaws.{call-vertex}
use Rattle.mesh.specs.StepLaws.{own-looked, all_made, all_back}
use Rattle.outlines.specs.declared.values.Outline.{Outline}
use Rattle.outlines.specs.Outlines.{list_of, step_at, each_of, pass_of, many, passes_from, request_fits, request_of, refine_after, cleared, refine_of}
use Rattle.outlines.specs.PassLaws.{Stepped, refused, made, stepped}
use Rattle.outlines.specs.TurnLaws.{each_on, each-stop, pass-order}
use Rattle.everywhere.specs.Runs.{Division, Run, here, next}

module _ (t₀ : List ℕ) where
  -- t is t₀ with some subdivisions made
  abbrev Ran : List ℕ → Type 0
  Ran t = (k : List Division) × Run t₀ k t

  -- ---- one subdivision of a pass is one of the vertex by its own point
  step_run : (k : List Division) (t : List ℕ) → Run t₀ k t → (p : Point) (v : Record) → p ≡ v.at → Intact t v → mesh_after 0 (subdivided t v) ≡ step_at t p
      → Run t₀ ((v.at, v.n.0) ∷ k) (subdivided t v)
  step_run k t h p v q w e =
      subst (Run t₀ ((v.at, v.n.0) ∷ k)) (sym (ap (λ (o : MeshAfter). o.bytes) is))
      (next k t h v w.ready.held (sym (ap (λ (o : MeshAfter). o.number) is)))
    where
      order : InOrder t
      order = w.ready.order

      looked : look_up t (normal_of v.at.a v.at.b v.at.m.0) ≡ Some v
      looked = own-looked t order v w.ready.held

      is : mesh_after 0 (subdivided t v) ≡ subdivide_of t v.at.a v.at.b v.at.m.0
      is =
          e ∙ ap (step_at t) q ∙ ap (subdivide_looked t) w.ready.held
          ∙ call-vertex t v.at.a v.at.b v.at.m.0 (order-test t order) v looked

  each-run : (vs : List Record) (t : List ℕ) → InOrder t → Ran t → (each_of t vs).number ≡ 0 → Ran (each_of t vs).bytes
  each-run [] t i h z = unfold each_of in h
  each-run (v ∷ vs) t i (k, h) z = turn (stepped t i v.at) (λ u j g y. each-run vs u j g y)
    where
      turn : Stepped t v.at → ((u : List ℕ) → InOrder u → Ran u → (each_of u vs).number ≡ 0 → Ran (each_of u vs).bytes) → Ran (each_of t (v ∷ vs)).bytes
      turn (refused x n e) ih =
          let st = each-stop t v vs (λ q. n (ap (λ (o : MeshAfter). o.number) e ∙ q)) in
          absurd (n (ap (λ (o : MeshAfter). o.number) (e ∙ st) ∙ z))
      turn (made w p a e) ih =
          let on = ap (λ (o : MeshAfter). each_of o.bytes vs) e ∙ each_on t v vs (sym (ap (λ (o : MeshAfter). o.number) e)) in
          let g : Ran (subdivided t w) = ((w.at, w.n.0) ∷ k, step_run k t h v.at w p a e) in
          let f = ih (subdivided t w) (subdivided-order t w a) g (ap (λ (o : MeshAfter). o.number) on ∙ z) in
          subst (λ (o : MeshAfter). Ran o.bytes) on f

  -- ---- the passes
  module _ (o : Outline) (level : ℕ) where
    pass-run : (t : List ℕ) → InOrder t → Ran t → Ran (pass_of o level t).bytes
    unfolding pass_of
    pass-run t i h = go (ℕ_discrete a.number 0)
      where
        a : MeshAfter
        a = each_of t (list_of o level t)

        go : Dec (a.number ≡ 0) → Ran (all_or t a).bytes
        go (yes z) = subst (λ (m : MeshAfter). Ran m.bytes) (all_made t a z) (each-run (list_of o level t) t i h z)
        go (no n) = subst (λ (m : MeshAfter). Ran m.bytes) (all_back t a n) h

    passes-run : (t : List ℕ) → InOrder t → Ran t → (i left : ℕ) → Ran (passes_from o level t i left).bytes
    unfolding passes_from
    passes-run t q h i zero = h
    passes-run t q h i (suc left) = go (eqb a.number 0) (pass-run t q h) (λ g. passes-run a.bytes (pass-order o level t q) g (i + 1) left)
      where
        a : MeshAfter
        a = pass_of o level t

        go : (b : Bool) → Ran a.bytes → (Ran a.bytes → Ran (passes_from o level a.bytes (i + 1) left).bytes)
            → Ran (unless b (many a.number i a.bytes) (passes_from o level a.bytes (i + 1) left)).bytes
        go false f ih = f
        go true f ih = ih f

-- whatever it answers, and whatever scratch was lent
pub refine-run : (t s : List ℕ) (o : Outline) (passes level : ℕ) → (k : List Division) × Run t k (refine_of t s o passes level).table
unfolding refine_of request_of
refine-run t s o passes level = go (lengths_fit t s) (in_order_of t) refl (request_fits o passes level)
  where
    none : Ran t t
    none = ([], here)

    go : (f i : Bool) → in_order_of t ≡ i → (r : Bool)
        → Ran t (unless f (refine_after 1 0 t s) (cleared (unless i (many 1 0 t) (unless r (many 17 0 t) (passes_from o level t 0 passes))) s)).table
    go false i e r = none
    go true false e r = none
    go true true e false = none
    go true true e true = passes-run t o level t (test-order t e) none 0 passes
