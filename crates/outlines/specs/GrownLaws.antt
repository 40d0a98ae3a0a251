-- Passes of a grown table: 8 alone can come, exactly where the list wants more slots than are free; and it stays grown.
-- `GrownEnd`, `each-grown` a list in turn · `PassEnd`, `pass-grown` a pass · `passes-grown` the passes.
-- Assumes nothing.
use Rattle.std.specs.Prelude.{◌≡◌, ◌⊎◌, Bool, cond, ℕ, zero, suc, ◌+◌, ◌*◌, ◌≤◌, ◌<◌, eqb, length, Some, None}
use Rattle.std.proofs.Math.Path.{refl}
use Rattle.std.proofs.Common.{sym, ◌∙◌, ap, subst, inl, inr, arith, eq-eqb, ne_eqb}
use mathlib.Core.List.{List, [], ◌∷◌, Memᴰ}
use Rattle.lattice.specs.declared.records.Record.{Record}
use Rattle.table.specs.Entries.{look_up}
use Rattle.table.specs.Slots.{free_slots}
use Rattle.table.specs.MapLaws.{order-test}
use Rattle.mesh.specs.Grown.{Grown}
use Rattle.mesh.specs.Subdivide.{MeshAfter, mesh_after, subdivided, subdivide_looked, subdivide_of, all_or, Many}
use Rattle.mesh.specs.SubdivideLaws.{Intact, subdivided-free}
use Rattle.mesh.specs.CallLaws.{call-vertex}
use Rattle.mesh.specs.StepLaws as step
use Rattle.mesh.specs.StepLaws.{own-looked, all_made, all_back}
use Rattle.grown.specs.Untorn.{End, missing, lesser, top, short, done, subdivision-end, divided-grown}
use Rattle.outlines.specs.declared.values.Outline.{Outline}
use Rattle.outlines.specs.Outlines.{list_of, step_at, each_of, pass_of, many, passes_from}
use Rattle.outlines.specs.TurnLaws.{Fine, list-fine, fine-rest, each_on, each-stop}

-- ---- a grown table: 8 alone, where the list wants more slots than are free
pub data GrownEnd (t : List ℕ) (vs : List Record) (a : MeshAfter) : Type 0 where
  all : a.number ≡ 0 → Grown a.bytes → free_slots a.bytes + 6 * length vs ≡ free_slots t → GrownEnd t vs a
  lacking : a.number ≡ 8 → free_slots t < 6 * length vs → GrownEnd t vs a

-- the subdivision of v, asked by its own point
abbrev own : List ℕ → Record → MeshAfter
own t v = subdivide_of t v.at.a v.at.b v.at.m.0

pub each-grown : (t : List ℕ) → Grown t → (vs : List Record) → Fine t vs → GrownEnd t vs (each_of t vs)
each-grown t g [] f = unfold each_of in all refl g (omega arith)
each-grown t g (v ∷ vs) f =
    turn (subdivision-end t g v.at.a v.at.b v.at.m.0) (step.divided t v (record { order = g.order; held = at }))
    (λ w h. each-grown (subdivided t v) h vs (fine-rest t v vs f w))
  where
    here : Memᴰ v (v ∷ vs)
    here = Memᴰ.head refl

    at : look_up t v.at ≡ Some v
    at = f.held v here

    is : step_at t v.at ≡ own t v
    is = ap (subdivide_looked t) at ∙ call-vertex t v.at.a v.at.b v.at.m.0 (order-test t g.order) v (own-looked t g.order v at)

    stop : (own t v).number ≡ 8 → free_slots t < 6 → GrownEnd t (v ∷ vs) (each_of t (v ∷ vs))
    stop z few =
        let n : (step_at t v.at).number ≡ 8 = ap (λ (o : MeshAfter). o.number) is ∙ z in
        let e = each-stop t v vs (λ q. omega arith) in
        lacking (sym (ap (λ (o : MeshAfter). o.number) e) ∙ n) (omega arith)

    go_on : (w : Intact t v) → mesh_after 0 (subdivided t v) ≡ step_at t v.at → GrownEnd (subdivided t v) vs (each_of (subdivided t v) vs)
        → GrownEnd t (v ∷ vs) (each_of t (v ∷ vs))
    go_on w e r = last (ap (λ (u : List ℕ). each_of u vs) b ∙ each_on t v vs z) r
      where
        b : subdivided t v ≡ (step_at t v.at).bytes
        b = ap (λ (o : MeshAfter). o.bytes) e

        z : (step_at t v.at).number ≡ 0
        z = sym (ap (λ (o : MeshAfter). o.number) e)

        last : each_of (subdivided t v) vs ≡ each_of t (v ∷ vs) → GrownEnd (subdivided t v) vs (each_of (subdivided t v) vs)
            → GrownEnd t (v ∷ vs) (each_of t (v ∷ vs))
        last q (all x h y) =
            let fr = subdivided-free t v w in
            let more = ap (λ (o : MeshAfter). free_slots o.bytes) q in
            all (sym (ap (λ (o : MeshAfter). o.number) q) ∙ x) (subst (λ (o : MeshAfter). Grown o.bytes) q h) (omega arith)
        last q (lacking x y) = let fr = subdivided-free t v w in lacking (sym (ap (λ (o : MeshAfter). o.number) q) ∙ x) (omega arith)

    turn : End t v.at.a v.at.b v.at.m.0 → step.Divided t v
        → (Intact t v → Grown (subdivided t v) → GrownEnd (subdivided t v) vs (each_of (subdivided t v) vs))
        → GrownEnd t (v ∷ vs) (each_of t (v ∷ vs))
    turn (missing e z) d ih = absurd (let x : None ≡ Some v = sym e ∙ own-looked t g.order v at in let q : ◌≡◌ {A = ℕ} 0 1 = cc in omega arith)
    turn (lesser u e n z) d ih =
        let same : u ≡ v = step.held_same (sym e ∙ own-looked t g.order v at) in absurd (n (ap (λ (r : Record). r.d) same ∙ f.six v here))
    turn (top u e s n z) d ih =
        let same : u ≡ v = step.held_same (sym e ∙ own-looked t g.order v at) in
        let l = f.low v here in
        let q = ap (λ (r : Record). r.n.0) same in absurd (omega arith)
    turn (short u e s n few z) d ih = stop z few
    turn (done u e s n r z) (step.denied x nz h) ih =
        absurd (nz (ap (λ (o : MeshAfter). o.number) (h ∙ sym (ap (subdivide_looked t) at) ∙ is) ∙ z))
    turn (done u e s n r z) (step.done w h) ih =
        let st : mesh_after 0 (subdivided t v) ≡ step_at t v.at = h ∙ sym (ap (subdivide_looked t) at) in
        let b : (own t v).bytes ≡ subdivided t v = sym (ap (λ (o : MeshAfter). o.bytes) (st ∙ is)) in
        go_on w st (ih w (subst Grown b (divided-grown t g v.at.a v.at.b v.at.m.0 z)))

-- a pass of a grown table: made where six slots are free for each listed vertex; else 8, and the table as it was
pub data PassEnd (o : Outline) (level : ℕ) (t : List ℕ) : Type 0 where
  whole : (pass_of o level t).number ≡ 0 → Grown (pass_of o level t).bytes
      → free_slots (pass_of o level t).bytes + 6 * length (list_of o level t) ≡ free_slots t → PassEnd o level t
  full : (pass_of o level t).number ≡ 8 → (pass_of o level t).bytes ≡ t → free_slots t < 6 * length (list_of o level t) → PassEnd o level t

pub pass-grown : (o : Outline) (level : ℕ) → level ≤ 12 → (t : List ℕ) → Grown t → PassEnd o level t
unfolding pass_of
pass-grown o level l t g = go (each-grown t g (list_of o level t) (list-fine o level l t g.order))
  where
    a : MeshAfter
    a = each_of t (list_of o level t)

    go : GrownEnd t (list_of o level t) a → PassEnd o level t
    go (all z h f) =
        let e : a ≡ all_or t a = all_made t a z in
        whole (sym (ap (λ (m : MeshAfter). m.number) e) ∙ z) (subst (λ (m : MeshAfter). Grown m.bytes) e h)
        (subst (λ (m : MeshAfter). free_slots m.bytes + 6 * length (list_of o level t) ≡ free_slots t) e f)
    go (lacking z f) =
        let e : mesh_after a.number t ≡ all_or t a = all_back t a (λ q. omega arith) in
        full (sym (ap (λ (m : MeshAfter). m.number) e) ∙ z) (sym (ap (λ (m : MeshAfter). m.bytes) e)) f

-- ---- the passes of a grown table: 0 or 8, and it stays grown
abbrev Good : Many → Type 0
Good m = Grown m.bytes × ((m.number ≡ 0) ⊎ (m.number ≡ 8))

good-pass : (o : Outline) (level : ℕ) (t : List ℕ) → Grown t → (i : ℕ) (rest : Many) → PassEnd o level t → (Grown (pass_of o level t).bytes → Good rest)
    → Good (cond (eqb (pass_of o level t).number 0) rest (many (pass_of o level t).number i (pass_of o level t).bytes))
good-pass o level t g i rest (whole z h f) ih =
    subst (λ (b : Bool). Good (cond b rest (many (pass_of o level t).number i (pass_of o level t).bytes))) (sym (eq-eqb (pass_of o level t).number 0 z)) (ih h)
good-pass o level t g i rest (full z b f) ih =
    subst (λ (b : Bool). Good (cond b rest (many (pass_of o level t).number i (pass_of o level t).bytes)))
    (sym (ne_eqb (pass_of o level t).number 0 (λ q. omega arith))) (subst Grown (sym b) g, inr z)

pub passes-grown : (o : Outline) (level : ℕ) → level ≤ 12 → (t : List ℕ) → Grown t → (i left : ℕ)
    → Grown (passes_from o level t i left).bytes × (((passes_from o level t i left).number ≡ 0) ⊎ ((passes_from o level t i left).number ≡ 8))
unfolding passes_from
passes-grown o level l t g i zero = (g, inl refl)
passes-grown o level l t g i (suc left) =
    good-pass o level t g i (passes_from o level (pass_of o level t).bytes (i + 1) left) (pass-grown o level l t g)
    (λ h. passes-grown o level l (pass_of o level t).bytes h (i + 1) left)
