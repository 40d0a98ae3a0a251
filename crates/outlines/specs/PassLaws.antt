-- A pass, as the code goes: the list's points stand as sorted keys in scratch; they are subdivided in turn; where one is refused, those made are undone
-- from the last.
-- `point_in`, `made_from` the subdivisions from a key on, `Points`, `made_each` they are the list's · `Stepped`, `stepped` one subdivision, refused or made ·
-- `LastMade`, `last-held`, `last-undone` the last one undone · `Steps` those made so far, `steps-more`, `steps-last` · `Making`, `making-..` the loop.
-- Assumes nothing.
use Rattle.std.specs.Prelude.{◌≡◌, refl, List, [], ◌∷◌, length, Option, Some, None}
use Rattle.std.proofs.Common.{sym, ◌∙◌, subst}
use Rattle.std.proofs.Math.Path.{ap}
use Prim.Native.Nat.{ℕ, zero, suc, ◌+◌, ◌-◌, ◌≤◌, ◌<◌}
use native.Mathlib.Omega.{arith}
use Rattle.laws.specs.Choices.{of-true}
use Rattle.lattice.specs.RecordLaws.{Inner, inner}
use Rattle.lattice.specs.Subdivision.{centre_of}
use Rattle.lattice.specs.declared.points.Point.{Point}
use Rattle.lattice.specs.declared.records.Record.{Record}
use Rattle.table.specs.Entries.{look_up}
use Rattle.table.specs.Order.{InOrder}
use Rattle.table.specs.Search.{find_of}
use Rattle.table.specs.Slots.{Table, free_slots}
use Rattle.table.specs.MapLaws.{lookup-point, table_same}
use Rattle.text.specs.LineOrder.{point_of}
use Rattle.sorting.specs.Sorting.{key_in}
use Rattle.mesh.specs.Subdivide.{MeshAfter, mesh_after, subdivided, subdivide_looked, and_then, all_or}
use Rattle.mesh.specs.SubdivideLaws.{Intact, subdivided-order, subdivided-free, subdivided-centre, centre-good}
use Rattle.mesh.specs.WriteLaws.{subdivided-length, subdivided-stays}
use Rattle.mesh.specs.CallLaws.{looked-standing}
use Rattle.mesh.specs.StepLaws.{Given, Stays, After, after-here, Divided, denied, done, divided, then-on, then-stop, held_same, all_made, all_back}
use Rattle.undoing.specs.AgainLaws.{Bytes}
use Rattle.undoing.specs.Undo.{undone}
use Rattle.undoing.specs.UndoLaws.{subdivide-undo, subdivided-bytes}
use Rattle.outlines.specs.Outlines.{step_at, each_of}

-- ---- the list as keys
-- the point of key i
abbrev pub point_in : List ℕ → ℕ → Point
point_in s i = point_of (key_in s i)

-- from key i on, so many
unfoldable pub made_from : List ℕ → List ℕ → ℕ → ℕ → MeshAfter
made_from t s i zero = mesh_after 0 t
made_from t s i (suc left) = and_then (step_at t (point_in s i)) (λ u. made_from u s (i + 1) left)

-- the keys from i on have the points of these records
abbrev pub Points : List ℕ → ℕ → List Record → Type 0
Points s i [] = Unit
Points s i (v ∷ vs) = (point_in s i ≡ v.at) × Points s (i + 1) vs

pub made_each : (t s : List ℕ) (i : ℕ) (vs : List Record) → Points s i vs → made_from t s i (length vs) ≡ each_of t vs
unfolding made_from each_of
made_each t s i [] h = refl
made_each t s i (v ∷ vs) h = λ k. and_then (step_at t (h.0 k)) (λ u. made_each u s (i + 1) vs h.1 k)

made_none : (t s : List ℕ) (i : ℕ) → mesh_after 0 t ≡ made_from t s i 0
unfolding made_from
made_none t s i = refl

module _ (t s : List ℕ) (i : ℕ) where
  made_more : (k : ℕ) → 0 < k → (step_at t (point_in s i)).number ≡ 0 → made_from (step_at t (point_in s i)).bytes s (i + 1) (k - 1) ≡ made_from t s i k
  unfolding made_from
  made_more zero h e = absurd (omega arith)
  made_more (suc k) h e =
      let p : suc k - 1 ≡ k = omega arith in
      ap (made_from (step_at t (point_in s i)).bytes s (i + 1)) p ∙ then-on (step_at t (point_in s i)) (λ u. made_from u s (i + 1) k) e

  made-stop : (k : ℕ) → 0 < k → ((step_at t (point_in s i)).number ≡ 0 → ⊥) → step_at t (point_in s i) ≡ made_from t s i k
  unfolding made_from
  made-stop zero h e = absurd (omega arith)
  made-stop (suc k) h e = then-stop (step_at t (point_in s i)) (λ u. made_from u s (i + 1) k) e

-- ---- one subdivision
pub data Stepped (t : List ℕ) (p : Point) : Type 0 where
  refused : (x : ℕ) → (x ≡ 0 → ⊥) → mesh_after x t ≡ step_at t p → Stepped t p
  made : (v : Record) → p ≡ v.at → Intact t v → mesh_after 0 (subdivided t v) ≡ step_at t p → Stepped t p

pub stepped : (t : List ℕ) → InOrder t → (p : Point) → Stepped t p
stepped t o p = go (look_up t p) refl
  where
    vertex : (v : Record) → look_up t p ≡ Some v → Divided t v → Stepped t p
    vertex v e (denied x n h) = refused x n (h ∙ ap (subdivide_looked t) (sym e))
    vertex v e (done w h) = made v (sym (lookup-point t o p v e)) w (h ∙ ap (subdivide_looked t) (sym e))

    go : (l : Option Record) → look_up t p ≡ l → Stepped t p
    go None e = refused 3 (omega arith) (ap (subdivide_looked t) (sym e))
    go (Some v) e = vertex v e (divided t v (looked-standing t o p v e))

-- ---- the last one undone
-- u was subdivided at p, which left t
pub record LastMade (p : Point) (t u : List ℕ) : Type 0 where
  pub vertex : Record
  pub point : p ≡ vertex.at
  pub whole : Intact u vertex
  pub bytes : Bytes u
  pub is : t ≡ subdivided u vertex

module _ (p : Point) (t u : List ℕ) (m : LastMade p t u) where
  abbrev c : Record
  c = centre_of m.vertex

  pub last-held : look_up t p ≡ Some c
  last-held = (λ i. look_up (m.is i) (m.point i)) ∙ subdivided-centre u m.vertex m.whole

  pub last-undone : undone t c ≡ u
  last-undone = ap (λ (x : List ℕ). undone x c) m.is ∙ subdivide-undo u m.vertex m.whole m.bytes

  pub last-absent : look_up t p ≡ None → ⊥
  last-absent e = let x : None ≡ Some c = sym e ∙ last-held in let z : ◌≡◌ {A = ℕ} 0 1 = cc in omega arith

  pub last-table : (n : ℕ) → Table t n → Table u n
  last-table n w = table_same t u n (sym (ap length m.is ∙ subdivided-length u m.vertex)) w

  module _ (r : Record) (e : look_up t p ≡ Some r) where
    last-same : c ≡ r
    last-same = held_same (sym last-held ∙ e)

    pub last-back : undone t r ≡ u
    last-back = ap (undone t) (sym last-same) ∙ last-undone

    pub last_inner : Inner r × ((r.d ≡ 6) × (0 < r.n.0))
    last_inner =
        let s = m.whole.ready.six in
        subst (λ (x : Record). Inner x × ((x.d ≡ 6) × (0 < x.n.0))) last-same
        (inner c (of-true (centre-good u m.vertex m.whole)) (omega arith), (s, omega arith))

-- ---- those made so far
-- the points of the first i keys were subdivided in turn, which led from t₀ to t
abbrev pub Steps : List ℕ → List ℕ → ℕ → List ℕ → Type 0
Steps s t₀ zero t = t ≡ t₀
Steps s t₀ (suc i) t = (u : List ℕ) × Steps s t₀ i u × LastMade (point_in s i) t u

pub steps-more : (s t₀ : List ℕ) (i : ℕ) (u t : List ℕ) → Steps s t₀ i u → LastMade (point_in s i) t u → Steps s t₀ (i + 1) t
steps-more s t₀ i u t w m = let e : suc i ≡ i + 1 = omega arith in subst (λ (k : ℕ). Steps s t₀ k t) e (u, w, m)

pub steps-last : (s t₀ : List ℕ) (i : ℕ) (t : List ℕ) → 0 < i → Steps s t₀ i t → (u : List ℕ) × Steps s t₀ (i - 1) u × LastMade (point_in s (i - 1)) t u
steps-last s t₀ zero t h w = absurd (omega arith)
steps-last s t₀ (suc i) t h w =
    let e : i ≡ suc i - 1 = omega arith in
    subst (λ (k : ℕ). (u : List ℕ) × Steps s t₀ k u × LastMade (point_in s k) t u) e w

pub steps-none : (s t₀ : List ℕ) (i : ℕ) (t : List ℕ) → i ≡ 0 → Steps s t₀ i t → t ≡ t₀
steps-none s t₀ i t e w = subst (λ (k : ℕ). Steps s t₀ k t) e w

-- the last of them undone
pub steps-undone : (s x : List ℕ) (i : ℕ) (t t' : List ℕ) (p : Point) → p ≡ point_in s (i - 1) → 0 < i → ((u : List ℕ) → LastMade p t u → t' ≡ u) → Steps s x i t
    → Steps s x (i - 1) t'
steps-undone s x i t t' p e h f w =
    let (u, before, m) = steps-last s x i t h w in
    subst (Steps s x (i - 1)) (sym (f u (subst (λ (q : Point). LastMade q t u) (sym e) m))) before

pub steps-table : (s x : List ℕ) (i : ℕ) (t t' : List ℕ) (p : Point) (n : ℕ) → p ≡ point_in s (i - 1) → 0 < i → ((u : List ℕ) → LastMade p t u → t' ≡ u)
    → Steps s x i t → Table t n → Table t' n
steps-table s x i t t' p n e h f w k =
    let (u, before, m) = steps-last s x i t h w in
    let q = subst (λ (q : Point). LastMade q t u) (sym e) m in
    subst (λ (z : List ℕ). Table z n) (sym (f u q)) (last-table p t u q n k)

-- ---- the loop: t is the table when key i's turn comes, f of its n slots are free
pub record Making (s t₀ : List ℕ) (n k : ℕ) (t : List ℕ) (f i : ℕ) : Type 0 where
  pub within : i ≤ k
  pub given : Given t n f
  pub long : length t ≡ length t₀
  pub stays : Stays t₀ t
  pub bytes : Bytes t
  pub steps : Steps s t₀ i t
  pub left : made_from t s i (k - i) ≡ made_from t₀ s 0 k

pub making-start : (s t : List ℕ) (n k f : ℕ) → Given t n f → Bytes t → Making s t n k t f 0
making-start s t n k f g b =
    let z : k - 0 ≡ k = omega arith in
    record { within = omega arith; given = g; long = refl; stays = λ p i h. h; bytes = b; steps = refl; left = ap (made_from t s 0) z }

module _ (s t₀ : List ℕ) (n k : ℕ) (t : List ℕ) (f i : ℕ) (g : Making s t₀ n k t f i) where
  abbrev all : MeshAfter
  all = made_from t₀ s 0 k

  pub making-end : k ≤ i → After t₀ (all_or t₀ all) 0 f t
  making-end h =
      let z : 0 ≡ k - i = omega (arith, g.within) in
      let e : mesh_after 0 t ≡ all = made_none t s i ∙ ap (made_from t s i) z ∙ g.left in
      let n0 = sym (ap (λ (o : MeshAfter). o.number) e) in
      let a = after-here g.given 0 (e ∙ all_made t₀ all n0) in
      record { number = a.number; bytes = a.bytes; order = a.order; free = a.free; long = g.long; stays = g.stays }

  module _ (h : i < k) where
    pub making-stop : (f₀ : ℕ) → Given t₀ n f₀ → (x : ℕ) → x ≡ (step_at t (point_in s i)).number → (x ≡ 0 → ⊥) → (t' : List ℕ) → t' ≡ t₀
        → After t₀ (all_or t₀ all) x (free_slots t') t'
    making-stop f₀ g₀ x e nz t' same =
        let st : step_at t (point_in s i) ≡ all = made-stop t s i (k - i) (omega arith) (λ z. nz (e ∙ z)) ∙ g.left in
        let num : x ≡ all.number = e ∙ ap (λ (o : MeshAfter). o.number) st in
        let a = after-here g₀ x (ap (λ (y : ℕ). mesh_after y t₀) num ∙ all_back t₀ all (λ z. nz (num ∙ z))) in
        record {
          number = a.number;
          bytes = same ∙ a.bytes;
          order = subst InOrder (sym same) a.order;
          free = refl;
          long = ap length same;
          stays = λ p i h. ap (λ (u : List ℕ). find_of u p) same ∙ h;
        }

    -- refused, the table is as it stood
    pub making-kept : ((step_at t (point_in s i)).number ≡ 0 → ⊥) → (step_at t (point_in s i)).bytes ≡ t
    making-kept nz = go (stepped t g.given.order (point_in s i))
      where
        go : Stepped t (point_in s i) → (step_at t (point_in s i)).bytes ≡ t
        go (refused x n e) = sym (ap (λ (o : MeshAfter). o.bytes) e)
        go (made v p w e) = absurd (nz (sym (ap (λ (o : MeshAfter). o.number) e)))

    pub making-more : (step_at t (point_in s i)).number ≡ 0 → (t' : List ℕ) → t' ≡ (step_at t (point_in s i)).bytes
        → (6 ≤ f) × Making s t₀ n k t' (f - 6) (i + 1)
    making-more z t' b = go (stepped t g.given.order (point_in s i))
      where
        go : Stepped t (point_in s i) → (6 ≤ f) × Making s t₀ n k t' (f - 6) (i + 1)
        go (refused x nz e) = absurd (nz (ap (λ (o : MeshAfter). o.number) e ∙ z))
        go (made v p w e) =
            let is : t' ≡ subdivided t v = b ∙ sym (ap (λ (o : MeshAfter). o.bytes) e) in
            let fr = subdivided-free t v w in
            let more = ap free_slots is in
            let was = g.given.free in
            let room = w.room in
            let long = ap length is ∙ subdivided-length t v in
            let stays : Stays t t' = λ q j h. ap (λ (u : List ℕ). find_of u q) is ∙ subdivided-stays t v w q j h in
            let step : k - (i + 1) ≡ k - i - 1 = omega arith in (
              omega arith,
              record {
                within = omega arith;
                given = record {
                  table = table_same t t' n long g.given.table;
                  order = subst InOrder (sym is) (subdivided-order t v w);
                  free = omega arith;
                };
                long = long ∙ g.long;
                stays = λ q j h. stays q j (g.stays q j h);
                bytes = subst Bytes (sym is) (subdivided-bytes t v w g.bytes);
                steps = steps-more s t₀ i t t' g.steps (record { vertex = v; point = p; whole = w; bytes = g.bytes; is = is });
                left = (λ j. made_from (b j) s (i + 1) (step j)) ∙ made_more t s i (k - i) (omega arith) z ∙ g.left;
              },
            )
