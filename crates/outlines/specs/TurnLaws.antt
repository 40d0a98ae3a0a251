-- A pass's list subdivided in turn, on every table in order, torn ones too. The reason of all: an accepted subdivision leaves every other vertex of degree 6
-- as it is (`others-six`), for one that were adjacent would have made it torn. So a listed vertex still stands when its turn comes.
-- `Fine`, `list-fine` a list whose vertices all stand there · `Refusal`, `each_number`, `pass-number` refused by 7 or 8 alone, never 3, 4, 5 ·
-- `FirstMet`, `pass-first` the first in the list that is refused decides · `each-once`, `pass-once` each listed vertex is subdivided once, `pass-others` no
-- other of degree 6 is · `pass-order` in order after · `refused-back` refused, the table as it was.
-- Assumes nothing.
use Rattle.std.specs.Prelude.{◌≡◌, ◌⊎◌, Bool, true, false, cond, ◌&&◌, ℕ, ◌≤◌, ◌<◌, eqb, ltb, Some, None}
use Rattle.std.proofs.Math.Path.{refl, sym, ap}
use Rattle.std.proofs.Common.{◌∙◌, subst, inr, arith, eq-eqb, ne_eqb, eqb-true, ltb-true}
use Rattle.std.proofs.Math.Logic.{inl}
use mathlib.Core.List.{List, [], ◌∷◌, ◌++◌, Memᴰ}
use Rattle.std.proofs.Math.Decide.{ℕ_discrete}
use Rattle.laws.specs.Each.{not-both, and-false, both_left, both_right}
use Rattle.laws.specs.Rules.{among}
use Rattle.lattice.specs.Subdivision.{centre_of, back_of, accepts_of}
use Rattle.lattice.specs.declared.records.Record.{Record}
use Rattle.table.specs.Entries.{look_up}
use Rattle.table.specs.Order.{InOrder}
use Rattle.table.specs.Slots.{free_slots}
use Rattle.table.specs.MapLaws.{Apart}
use Rattle.text.specs.LineOrder.{order_of, Close, order-earlier}
use Rattle.sorting.specs.SortLaws.{Rising}
use Rattle.writers.specs.FileLaws.{Before}
use Rattle.mesh.specs.Subdivide.{MeshAfter, mesh_after, torn, subdivided, subdivide_vertex, subdivide_looked}
use Rattle.mesh.specs.SubdivideLaws.{Intact, old, subdivided-order, subdivided-rest, subdivided-centre}
use Rattle.mesh.specs.StepLaws as step
use Rattle.mesh.specs.StepLaws.{all_made, all_back, all-number}
use Rattle.outlines.specs.declared.values.Outline.{Outline}
use Rattle.outlines.specs.Outlines.{crosses_at, wanted, list_of, step_at, each_of, pass_of}
use Rattle.outlines.specs.PassLaws.{Stepped, refused, made, stepped}
use Rattle.outlines.specs.ListLaws.{listed-stands, list-rises, list_close}

-- ---- an accepted subdivision leaves every other vertex of degree 6
six-torn : (k' n : ℕ) (u : Record) → u.d ≡ 6 → accepts_of k' n u ≡ true → ⊥
unfolding accepts_of
six-torn k' n u six h = let z : eqb u.n.0 n && false ≡ true = rw six at h in not-both z (and-false (eqb u.n.0 n))

pub others-six : (t : List ℕ) (v : Record) → Intact t v → (r : Record) → look_up t r.at ≡ Some r → r.d ≡ 6 → (r.at ≡ v.at → ⊥)
    → look_up (subdivided t v) r.at ≡ Some r
others-six t v w r h six ne =
    subdivided-rest t v w r.at ne
    (λ j l e. (let x : None ≡ Some r = sym (w.fresh j l) ∙ ap (look_up t) (sym e) ∙ h in let z : ◌≡◌ {A = ℕ} 0 1 = cc in omega arith))
    (λ j l e.
    let (u, at, a) = old t v w j l in
    let same : u ≡ r = step.held_same (sym at ∙ ap (look_up t) (sym e) ∙ h) in
    six-torn (back_of v.k j) v.n.0 r six (subst (λ (x : Record). accepts_of (back_of v.k j) v.n.0 x ≡ true) same a))
    ∙ h

-- ---- a list whose vertices all stand there, of degree 6, below level 12, no two at one point
pub record Fine (t : List ℕ) (vs : List Record) : Type 0 where
  pub held : (r : Record) → Memᴰ r vs → look_up t r.at ≡ Some r
  pub six : (r : Record) → Memᴰ r vs → r.d ≡ 6
  pub low : (r : Record) → Memᴰ r vs → r.n.0 < 12
  pub apart : Apart vs

-- one made, the others still stand
pub fine-rest : (t : List ℕ) (v : Record) (vs : List Record) → Fine t (v ∷ vs) → Intact t v → Fine (subdivided t v) vs
fine-rest t v vs f w =
    record {
      held = λ r m. others-six t v w r (f.held r (Memᴰ.tail m)) (f.six r (Memᴰ.tail m)) (f.apart.0 r m);
      six = λ r m. f.six r (Memᴰ.tail m);
      low = λ r m. f.low r (Memᴰ.tail m);
      apart = f.apart.1;
    }

wanted-six : (o : Outline) (level : ℕ) (v : Record) → wanted o level v ≡ true → v.d ≡ 6
unfolding wanted
wanted-six o level v h = eqb-true v.d 6 (both_left (eqb v.d 6) (ltb v.n.0 level && among 6 (crosses_at o v)) h)

wanted-low : (o : Outline) (level : ℕ) (v : Record) → wanted o level v ≡ true → v.n.0 < level
unfolding wanted
wanted-low o level v h =
    ltb-true v.n.0 level
    (both_left (ltb v.n.0 level) (among 6 (crosses_at o v)) (both_right (eqb v.d 6) (ltb v.n.0 level && among 6 (crosses_at o v)) h))

rising-apart : (vs : List Record) → ((r : Record) → Memᴰ r vs → Close r.at) → Rising Before vs → Apart vs
rising-apart [] c h = tt
rising-apart (v ∷ vs) c h = (
  λ q m e.
      let b = h.0 q m in
      let x = ltb-true (order_of v.at) (order_of q.at) (sym (order-earlier v.at q.at (c v (Memᴰ.head refl)) (c q (Memᴰ.tail m))) ∙ b) in
      let y = ap order_of e in
      omega arith,
  rising-apart vs (λ r m. c r (Memᴰ.tail m)) h.1,
)

pub list-fine : (o : Outline) (level : ℕ) → level ≤ 12 → (t : List ℕ) → InOrder t → Fine t (list_of o level t)
list-fine o level l t i =
    record {
      held = λ r m. (listed-stands o level t i r m).0;
      six = λ r m. wanted-six o level r (listed-stands o level t i r m).1;
      low = λ r m. (let x = wanted-low o level r (listed-stands o level t i r m).1 in omega arith);
      apart = rising-apart (list_of o level t) (list_close o level t i) (list-rises o level t i);
    }

-- ---- every table: 7 and 8 alone
-- the number is 0, 7 or 8
abbrev pub Refusal : ℕ → Type 0
Refusal x = (x ≡ 0) ⊎ ((x ≡ 7) ⊎ (x ≡ 8))

vertex-number : (t : List ℕ) (v : Record) → v.d ≡ 6 → v.n.0 < 12 → Refusal (subdivide_vertex t v).number
vertex-number t v six low = go (torn t v) (ltb (free_slots t) 6) past
  where
    past : subdivide_vertex t v ≡ cond (torn t v) (mesh_after 7 t) (cond (ltb (free_slots t) 6) (mesh_after 8 t) (mesh_after 0 (subdivided t v)))
    past = rw (eq-eqb v.d 6 six, ne_eqb v.n.0 12 (λ e. omega arith))

    go : (b c : Bool) → subdivide_vertex t v ≡ cond b (mesh_after 7 t) (cond c (mesh_after 8 t) (mesh_after 0 (subdivided t v)))
        → Refusal (subdivide_vertex t v).number
    go true c e = inr (inl (ap (λ (o : MeshAfter). o.number) e))
    go false true e = inr (inr (ap (λ (o : MeshAfter). o.number) e))
    go false false e = inl (ap (λ (o : MeshAfter). o.number) e)

module _ (t : List ℕ) (v : Record) (vs : List Record) where
  pub each_on : (step_at t v.at).number ≡ 0 → each_of (step_at t v.at).bytes vs ≡ each_of t (v ∷ vs)
  unfolding each_of
  each_on e = step.then-on (step_at t v.at) (λ u. each_of u vs) e

  pub each-stop : ((step_at t v.at).number ≡ 0 → ⊥) → step_at t v.at ≡ each_of t (v ∷ vs)
  unfolding each_of
  each-stop e = step.then-stop (step_at t v.at) (λ u. each_of u vs) e

-- "7, 8 as the subdivisions, in list order, meet them": never 3, 4, 5
pub each_number : (t : List ℕ) → InOrder t → (vs : List Record) → Fine t vs → Refusal (each_of t vs).number
each_number t i [] f = unfold each_of in inl refl
each_number t i (v ∷ vs) f =
    turn (step.divided t v (record { order = i; held = at })) (vertex-number t v (f.six v here) (f.low v here))
    (λ w. each_number (subdivided t v) (subdivided-order t v w) vs (fine-rest t v vs f w))
  where
    here : Memᴰ v (v ∷ vs)
    here = Memᴰ.head refl

    at : look_up t v.at ≡ Some v
    at = f.held v here

    is : step_at t v.at ≡ subdivide_vertex t v
    is = ap (subdivide_looked t) at

    turn : step.Divided t v → Refusal (subdivide_vertex t v).number → (Intact t v → Refusal (each_of (subdivided t v) vs).number)
        → Refusal (each_of t (v ∷ vs)).number
    turn (step.denied x n e) r ih =
        let z : (subdivide_vertex t v).number ≡ 0 → ⊥ = λ q. n (ap (λ (o : MeshAfter). o.number) e ∙ q) in
        let same = sym (ap (λ (o : MeshAfter). o.number) is) in
        subst Refusal (same ∙ ap (λ (o : MeshAfter). o.number) (each-stop t v vs (λ q. z (same ∙ q)))) r
    turn (step.done w e) r ih =
        let b : subdivided t v ≡ (step_at t v.at).bytes = ap (λ (o : MeshAfter). o.bytes) (e ∙ sym is) in
        let z : (step_at t v.at).number ≡ 0 = sym (ap (λ (o : MeshAfter). o.number) (e ∙ sym is)) in
        subst Refusal (ap (λ (u : List ℕ). (each_of u vs).number) b ∙ ap (λ (o : MeshAfter). o.number) (each_on t v vs z)) (ih w)

pub pass-number : (o : Outline) (level : ℕ) → level ≤ 12 → (t : List ℕ) → InOrder t → Refusal (pass_of o level t).number
unfolding pass_of
pass-number o level l t i = subst Refusal (sym (all-number t (each_of t (list_of o level t)))) (each_number t i (list_of o level t) (list-fine o level l t i))

-- the first in the list whose subdivision is refused, after those before it were made, and the number x that it gives
pub record FirstMet (t : List ℕ) (vs : List Record) (x : ℕ) : Type 0 where
  pub before : List Record
  pub vertex : Record
  pub after : List Record
  pub parts : vs ≡ before ++ (vertex ∷ after)
  pub made : (each_of t before).number ≡ 0
  pub met : (step_at (each_of t before).bytes vertex.at).number ≡ x

each_first : (t : List ℕ) (vs : List Record) → ((each_of t vs).number ≡ 0 → ⊥) → FirstMet t vs (each_of t vs).number
each_first t [] n = absurd (n (unfold each_of in refl))
each_first t (v ∷ vs) n = go (ℕ_discrete (step_at t v.at).number 0) (λ u m. each_first u vs m)
  where
    go : Dec ((step_at t v.at).number ≡ 0) → ((u : List ℕ) → ((each_of u vs).number ≡ 0 → ⊥) → FirstMet u vs (each_of u vs).number)
        → FirstMet t (v ∷ vs) (each_of t (v ∷ vs)).number
    go (no k) ih =
        record {
          before = [];
          vertex = v;
          after = vs;
          parts = refl;
          made = unfold each_of in refl;
          met = unfold each_of in ap (λ (o : MeshAfter). o.number) (each-stop t v vs k);
        }
    go (yes z) ih =
        let u = (step_at t v.at).bytes in
        let e = each_on t v vs z in
        let f = ih u (λ q. n (sym (ap (λ (o : MeshAfter). o.number) e) ∙ q)) in
        let g = each_on t v f.before z in
        record {
          before = v ∷ f.before;
          vertex = f.vertex;
          after = f.after;
          parts = ap (λ (ws : List Record). v ∷ ws) f.parts;
          made = sym (ap (λ (o : MeshAfter). o.number) g) ∙ f.made;
          met =
              ap (λ (o : MeshAfter). (step_at o.bytes f.vertex.at).number) (sym g)
              ∙ f.met ∙ ap (λ (o : MeshAfter). o.number) e;
        }

pub pass-first : (o : Outline) (level : ℕ) (t : List ℕ) → ((pass_of o level t).number ≡ 0 → ⊥) → FirstMet t (list_of o level t) (pass_of o level t).number
unfolding pass_of
pass-first o level t n =
    let same = all-number t (each_of t (list_of o level t)) in
    subst (FirstMet t (list_of o level t)) (sym same) (each_first t (list_of o level t) (λ q. n (same ∙ q)))

-- where a whole list is made, so is its first
record FirstMade (t : List ℕ) (v : Record) (vs : List Record) : Type 0 where
  whole : Intact t v
  rest : each_of (subdivided t v) vs ≡ each_of t (v ∷ vs)
  ends : (each_of (subdivided t v) vs).number ≡ 0

first_made : (t : List ℕ) → InOrder t → (v : Record) (vs : List Record) → Fine t (v ∷ vs) → (each_of t (v ∷ vs)).number ≡ 0 → FirstMade t v vs
first_made t i v vs f z = go (step.divided t v (record { order = i; held = at }))
  where
    at : look_up t v.at ≡ Some v
    at = f.held v (Memᴰ.head refl)

    is : step_at t v.at ≡ subdivide_vertex t v
    is = ap (subdivide_looked t) at

    go : step.Divided t v → FirstMade t v vs
    go (step.denied x n e) =
        let x : (step_at t v.at).number ≡ 0 → ⊥ = λ q. n (ap (λ (o : MeshAfter). o.number) (e ∙ sym is) ∙ q) in
        absurd (x (ap (λ (o : MeshAfter). o.number) (each-stop t v vs x) ∙ z))
    go (step.done w e) =
        let m = e ∙ sym is in
        let rest = ap (λ (u : List ℕ). each_of u vs) (ap (λ (o : MeshAfter). o.bytes) m) ∙ each_on t v vs (sym (ap (λ (o : MeshAfter). o.number) m)) in
        record { whole = w; rest = rest; ends = ap (λ (o : MeshAfter). o.number) rest ∙ z }

-- ---- "and then subdivides them all": each once
-- an accepted list leaves every vertex of degree 6 that is not on it
each_keeps : (t : List ℕ) → InOrder t → (vs : List Record) → Fine t vs → (each_of t vs).number ≡ 0 → (r : Record) → look_up t r.at ≡ Some r → r.d ≡ 6
    → ((v : Record) → Memᴰ v vs → r.at ≡ v.at → ⊥) → look_up (each_of t vs).bytes r.at ≡ Some r
each_keeps t i [] f z r h six off = unfold each_of in h
each_keeps t i (v ∷ vs) f z r h six off =
    turn (first_made t i v vs f z)
    (λ w y. each_keeps (subdivided t v) (subdivided-order t v w) vs (fine-rest t v vs f w) y r
    (others-six t v w r h six (off v (Memᴰ.head refl))) six (λ u m. off u (Memᴰ.tail m)))
  where
    turn : FirstMade t v vs → (Intact t v → (each_of (subdivided t v) vs).number ≡ 0 → look_up (each_of (subdivided t v) vs).bytes r.at ≡ Some r)
        → look_up (each_of t (v ∷ vs)).bytes r.at ≡ Some r
    turn x ih = ap (λ (o : MeshAfter). look_up o.bytes r.at) (sym x.rest) ∙ ih x.whole x.ends

-- each vertex of an accepted list has its next star: it was subdivided, and once
pub each-once : (t : List ℕ) → InOrder t → (vs : List Record) → Fine t vs → (each_of t vs).number ≡ 0 → (r : Record) → Memᴰ r vs
    → look_up (each_of t vs).bytes r.at ≡ Some (centre_of r)
each-once t i [] f z r m = elim m [ ]
each-once t i (v ∷ vs) f z r m =
    let x = first_made t i v vs f z in
    let o = subdivided-order t v x.whole in
    let g = fine-rest t v vs f x.whole in
    ap (λ (o : MeshAfter). look_up o.bytes r.at) (sym x.rest)
    ∙ go x o g m (λ m'. each-once (subdivided t v) o vs g x.ends r m')
  where
    go : (x : FirstMade t v vs) → InOrder (subdivided t v) → Fine (subdivided t v) vs → Memᴰ r (v ∷ vs)
        → (Memᴰ r vs → look_up (each_of (subdivided t v) vs).bytes r.at ≡ Some (centre_of r))
        → look_up (each_of (subdivided t v) vs).bytes r.at ≡ Some (centre_of r)
    go x o g (Memᴰ.head e) ih =
        subst (λ (u : Record). look_up (each_of (subdivided t v) vs).bytes u.at ≡ Some (centre_of u)) (sym e)
        (each_keeps (subdivided t v) o vs g x.ends (centre_of v) (subdivided-centre t v x.whole) (f.six v (Memᴰ.head refl))
        (λ u m e. f.apart.0 u m (sym e)))
    go x o g (Memᴰ.tail m) ih = ih m

pub pass-once : (o : Outline) (level : ℕ) → level ≤ 12 → (t : List ℕ) → InOrder t → (pass_of o level t).number ≡ 0 → (r : Record)
    → Memᴰ r (list_of o level t) → look_up (pass_of o level t).bytes r.at ≡ Some (centre_of r)
unfolding pass_of
pass-once o level l t i z r m =
    let a = each_of t (list_of o level t) in
    let y : a.number ≡ 0 = sym (all-number t a) ∙ z in
    ap (λ (x : MeshAfter). look_up x.bytes r.at) (sym (all_made t a y))
    ∙ each-once t i (list_of o level t) (list-fine o level l t i) y r m

-- no other vertex of degree 6 is subdivided
pub pass-others : (o : Outline) (level : ℕ) → level ≤ 12 → (t : List ℕ) → InOrder t → (pass_of o level t).number ≡ 0 → (r : Record)
    → look_up t r.at ≡ Some r → r.d ≡ 6 → (Memᴰ r (list_of o level t) → ⊥) → look_up (pass_of o level t).bytes r.at ≡ Some r
unfolding pass_of
pass-others o level l t i z r h six off =
    let a = each_of t (list_of o level t) in
    let y : a.number ≡ 0 = sym (all-number t a) ∙ z in
    let fine = list-fine o level l t i in
    ap (λ (x : MeshAfter). look_up x.bytes r.at) (sym (all_made t a y))
    ∙ each_keeps t i (list_of o level t) fine y r h six
    (λ v m e. off
    (subst (λ (x : Record). Memᴰ x (list_of o level t)) (step.held_same (sym (fine.held v m) ∙ ap (look_up t) (sym e) ∙ h)) m))

-- ---- every table in order stays in order; refused, it is as it was
pub each-order : (t : List ℕ) → InOrder t → (vs : List Record) → InOrder (each_of t vs).bytes
each-order t i [] = unfold each_of in i
each-order t i (v ∷ vs) = turn (stepped t i v.at) (λ u h. each-order u h vs)
  where
    turn : Stepped t v.at → ((u : List ℕ) → InOrder u → InOrder (each_of u vs).bytes) → InOrder (each_of t (v ∷ vs)).bytes
    turn (refused x n e) ih =
        let st = each-stop t v vs (λ q. n (ap (λ (o : MeshAfter). o.number) e ∙ q)) in
        subst InOrder (ap (λ (o : MeshAfter). o.bytes) (e ∙ st)) i
    turn (made w p z e) ih =
        let on = each_on t v vs (sym (ap (λ (o : MeshAfter). o.number) e)) in
        subst InOrder (ap (λ (u : List ℕ). (each_of u vs).bytes) (ap (λ (o : MeshAfter). o.bytes) e) ∙ ap (λ (o : MeshAfter). o.bytes) on)
        (ih (subdivided t w) (subdivided-order t w z))

pub pass-order : (o : Outline) (level : ℕ) (t : List ℕ) → InOrder t → InOrder (pass_of o level t).bytes
unfolding pass_of
pass-order o level t i = go (eqb (each_of t (list_of o level t)).number 0)
  where
    go : (b : Bool) → InOrder (cond b (each_of t (list_of o level t)) (mesh_after (each_of t (list_of o level t)).number t)).bytes
    go true = each-order t i (list_of o level t)
    go false = i

pub refused-back : (o : Outline) (level : ℕ) (t : List ℕ) → ((pass_of o level t).number ≡ 0 → ⊥) → (pass_of o level t).bytes ≡ t
unfolding pass_of
refused-back o level t n =
    let a = each_of t (list_of o level t) in
    let e = all_back t a (λ z. n (all-number t a ∙ z)) in
    sym (ap (λ (m : MeshAfter). m.bytes) e)
