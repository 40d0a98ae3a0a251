-- Document 02, ticket 4: "unless the chain reaches a boundary vertex". For every table, torn ones too.
-- `Turns t v js s` the places of v gone through in turn from table t on, each neighbour subdivided: js are still to come, and the table is s then ·
-- `Chain t v s w` what is brought on the way: bringing v from table t on comes to bringing w from table s on · `AtBoundary` the chain comes to a boundary
-- vertex · `sixteen-boundary`, `boundary-sixteen` it ends with 16 there, and nowhere else.
-- By the definition's own recursion: of all that it answers, only a boundary neighbour gives 16, and 16 is handed up.
-- Assumes nothing.
use Rattle.std.specs.Prelude.{◌≡◌, refl, Bool, true, false, cond, ℕ, zero, suc, ◌+◌, eqb, ltb, Option, Some, None}
use Rattle.std.proofs.Common.{sym, ◌∙◌, ap, arith}
use mathlib.Core.List.{List, [], ◌∷◌}
use Rattle.std.proofs.Math.Decide.{ℕ_discrete}
use Rattle.lattice.specs.Stars.{adjacent_at}
use Rattle.lattice.specs.declared.records.Record.{Record}
use Rattle.table.specs.Entries.{look_up}
use Rattle.table.specs.Slots.{free_slots}
use Rattle.mesh.specs.Subdivide.{MeshAfter, mesh_after, torn, subdivided, subdivide_vertex}
use Rattle.bring.specs.Bring.{places_of, each_of, raised_at, near_of, is_six, ends_at, bring_of}
use Rattle.mesh.specs.Subdivide.{and_then}
use Rattle.bring.specs.ChainLaws.{near-absent, near-rim, near-six, near-other, near-far, near-lower, bring-is}
use Rattle.mesh.specs.StepLaws.{then-on, then-stop}

pub data Turns (t : List ℕ) (v : Record) : List ℕ → List ℕ → Type 0 where
  first : Turns t v (places_of v.d) t
  later : (j : ℕ) (js s : List ℕ) → Turns t v (j ∷ js) s → (near_of v.n.0 s (adjacent_at v j)).number ≡ 0
      → Turns t v js (near_of v.n.0 s (adjacent_at v j)).bytes

-- the one asked, and each neighbour whose turn comes while it is of another degree than 6 and a level lower
pub data Chain (t : List ℕ) (v : Record) : List ℕ → Record → Type 0 where
  asked : Chain t v t v
  lower : (s : List ℕ) (w : Record) (j : ℕ) (js r : List ℕ) (u : Record) → Chain t v s w → Turns s w (j ∷ js) r → look_up r (adjacent_at w j) ≡ Some u
      → (u.d ≡ 0 → ⊥) → (u.d ≡ 6 → ⊥) → u.n.0 + 1 ≡ w.n.0
      → Chain t v r u

-- the neighbour of `at` whose turn comes is a boundary vertex
pub record AtBoundary (t : List ℕ) (v : Record) : Type 0 where
  pub from : List ℕ
  pub at : Record
  pub chain : Chain t v from at
  pub place : ℕ
  pub rest : List ℕ
  pub table : List ℕ
  pub turns : Turns from at (place ∷ rest) table
  pub neighbour : Record
  pub looked : look_up table (adjacent_at at place) ≡ Some neighbour
  pub boundary : neighbour.d ≡ 0

-- a chain from a vertex of v's chain is v's
chain-on : {t s : List ℕ} {v w : Record} {r : List ℕ} {u : Record} → Chain t v s w → Chain s w r u → Chain t v r u
chain-on c asked = c
chain-on c (lower s w j js r u d m e z x l) = lower s w j js r u (chain-on c d) m e z x l

boundary-on : {t s : List ℕ} {v w : Record} → Chain t v s w → AtBoundary s w → AtBoundary t v
boundary-on c b =
    record {
      from = b.from;
      at = b.at;
      chain = chain-on c b.chain;
      place = b.place;
      rest = b.rest;
      table = b.table;
      turns = b.turns;
      neighbour = b.neighbour;
      looked = b.looked;
      boundary = b.boundary;
    }

-- ---- 16 comes from nowhere else
vertex-not : (t : List ℕ) (u : Record) → (subdivide_vertex t u).number ≡ 16 → ⊥
vertex-not t u e = go (eqb u.d 6) (eqb u.n.0 12) (torn t u) (ltb (free_slots t) 6) e
  where
    go : (a b c d : Bool)
        → (cond a (cond b (mesh_after 5 t) (cond c (mesh_after 7 t) (cond d (mesh_after 8 t) (mesh_after 0 (subdivided t u))))) (mesh_after 4 t)).number ≡ 16 → ⊥
    go false b c d e = omega arith
    go true true c d e = omega arith
    go true false true d e = omega arith
    go true false false true e = omega arith
    go true false false false e = omega arith

raised-not : (t : List ℕ) (l : Option Record) → (raised_at t l).number ≡ 16 → ⊥
raised-not t None e = omega arith
raised-not t (Some u) e = vertex-not t u e

ends-not : (t : List ℕ) (l : Option Record) → (ends_at t l).number ≡ 16 → ⊥
ends-not t l e = go (is_six l) e
  where
    go : (b : Bool) → (cond b (mesh_after 0 t) (mesh_after 7 t)).number ≡ 16 → ⊥
    go true e = omega arith
    go false e = omega arith

-- one after the other: the first, or what follows it
then-sixteen : {A : Type 0} (o : MeshAfter) (k : List ℕ → MeshAfter) → (and_then o k).number ≡ 16
    → (o.number ≡ 16 → A) → (o.number ≡ 0 → (k o.bytes).number ≡ 16 → A) → A
then-sixteen {A} o k e f g = go (ℕ_discrete o.number 0)
  where
    go : Dec (o.number ≡ 0) → A
    go (yes z) = g z (ap (λ (x : MeshAfter). x.number) (then-on o k z) ∙ e)
    go (no z) = f (ap (λ (x : MeshAfter). x.number) (then-stop o k z) ∙ e)

-- ---- the chain down to it
module _ (t : List ℕ) (v : Record)
    (before : (s : List ℕ) (u : Record) → u.n.0 + 1 ≡ v.n.0 → (bring_of u.n.0 s u).number ≡ 16 → AtBoundary s u) where
  module _ (j : ℕ) (js s : List ℕ) (m : Turns t v (j ∷ js) s) (e : (near_of v.n.0 s (adjacent_at v j)).number ≡ 16) where
    told : {x : MeshAfter} → x ≡ near_of v.n.0 s (adjacent_at v j) → x.number ≡ 16
    told h = ap (λ (o : MeshAfter). o.number) h ∙ e

    lesser : (u : Record) → look_up s (adjacent_at v j) ≡ Some u → (u.d ≡ 0 → ⊥) → (u.d ≡ 6 → ⊥) → Dec (u.n.0 + 1 ≡ v.n.0) → AtBoundary t v
    lesser u h z x (no k) = let w = told (near-far v.n.0 s (adjacent_at v j) u h z x k) in absurd (omega arith)
    lesser u h z x (yes k) =
        then-sixteen (bring_of u.n.0 s u) (λ r. raised_at r (look_up r u.at)) (told (near-lower v.n.0 s (adjacent_at v j) u h z x k))
        (λ w. boundary-on (lower t v j js s u asked m h z x k) (before s u k w))
        (λ y w. absurd (raised-not (bring_of u.n.0 s u).bytes (look_up (bring_of u.n.0 s u).bytes u.at) w))

    six : (u : Record) → look_up s (adjacent_at v j) ≡ Some u → (u.d ≡ 0 → ⊥) → u.d ≡ 6 → Dec (u.n.0 ≡ v.n.0) → AtBoundary t v
    six u h z x (yes k) = absurd (vertex-not s u (told (near-six v.n.0 s (adjacent_at v j) u h z x k)))
    six u h z x (no k) = let w = told (near-other v.n.0 s (adjacent_at v j) u h z x k) in absurd (omega arith)

    held : (u : Record) → look_up s (adjacent_at v j) ≡ Some u → Dec (u.d ≡ 0) → Dec (u.d ≡ 6) → AtBoundary t v
    held u h (yes z) x =
        record { from = t; at = v; chain = asked; place = j; rest = js; table = s; turns = m; neighbour = u; looked = h; boundary = z }
    held u h (no z) (yes x) = six u h z x (ℕ_discrete u.n.0 v.n.0)
    held u h (no z) (no x) = lesser u h z x (ℕ_discrete (u.n.0 + 1) v.n.0)

    at-neighbour : AtBoundary t v
    at-neighbour = go (look_up s (adjacent_at v j)) refl
      where
        go : (l : Option Record) → look_up s (adjacent_at v j) ≡ l → AtBoundary t v
        go None h = let w = told (near-absent v.n.0 s (adjacent_at v j) h) in absurd (omega arith)
        go (Some u) h = held u h (ℕ_discrete u.d 0) (ℕ_discrete u.d 6)

  at_places : (js s : List ℕ) → Turns t v js s → (each_of (near_of v.n.0) v s js).number ≡ 16 → AtBoundary t v
  unfolding each_of
  at_places [] s m e = absurd (omega arith)
  at_places (j ∷ js) s m e =
      then-sixteen (near_of v.n.0 s (adjacent_at v j)) (λ u. each_of (near_of v.n.0) v u js) e
      (at-neighbour j js s m)
      (λ z w. at_places js (near_of v.n.0 s (adjacent_at v j)).bytes (later j js s m z) w)

  brought : (bring_of v.n.0 t v).number ≡ 16 → AtBoundary t v
  brought e =
      let o = each_of (near_of v.n.0) v t (places_of v.d) in
      then-sixteen o (λ s. ends_at s (look_up s v.at)) (ap (λ (x : MeshAfter). x.number) (bring-is v.n.0 t v) ∙ e)
      (at_places (places_of v.d) t first)
      (λ z w. absurd (ends-not o.bytes (look_up o.bytes v.at) w))

down : (n : ℕ) (t : List ℕ) (v : Record) → v.n.0 ≡ n → (bring_of v.n.0 t v).number ≡ 16 → AtBoundary t v
down zero t v l e = brought t v (λ s u k w. absurd (omega arith)) e
down (suc n) t v l e = brought t v (λ s u k w. down n s u (omega arith) w) e

pub sixteen-boundary : (t : List ℕ) (v : Record) → (bring_of v.n.0 t v).number ≡ 16 → AtBoundary t v
sixteen-boundary t v e = down v.n.0 t v refl e

-- ---- and up again
stopped : (o : MeshAfter) (k : List ℕ → MeshAfter) → o.number ≡ 16 → (and_then o k).number ≡ 16
stopped o k e = ap (λ (x : MeshAfter). x.number) (sym (then-stop o k (λ z. omega arith))) ∙ e

-- what is answered at a turn is answered of all places
turns_up : {t : List ℕ} {v : Record} (js s : List ℕ) → Turns t v js s → (each_of (near_of v.n.0) v s js).number ≡ 16
    → (each_of (near_of v.n.0) v t (places_of v.d)).number ≡ 16
unfolding each_of
turns_up _ _ first e = e
turns_up {t} {v} _ _ (later j js s m z) e =
    turns_up (j ∷ js) s m (ap (λ (x : MeshAfter). x.number)
    (sym (then-on (near_of v.n.0 s (adjacent_at v j)) (λ u. each_of (near_of v.n.0) v u js) z)) ∙ e)

turn_up : {t : List ℕ} {v : Record} (j : ℕ) (js s : List ℕ) → Turns t v (j ∷ js) s → (near_of v.n.0 s (adjacent_at v j)).number ≡ 16
    → (bring_of v.n.0 t v).number ≡ 16
unfolding each_of
turn_up {t} {v} j js s m e =
    ap (λ (x : MeshAfter). x.number) (sym (bring-is v.n.0 t v))
    ∙ stopped (each_of (near_of v.n.0) v t (places_of v.d)) (λ r. ends_at r (look_up r v.at))
    (turns_up (j ∷ js) s m (stopped (near_of v.n.0 s (adjacent_at v j)) (λ u. each_of (near_of v.n.0) v u js) e))

chain-up : {t : List ℕ} {v : Record} {s : List ℕ} {w : Record} → Chain t v s w → (bring_of w.n.0 s w).number ≡ 16 → (bring_of v.n.0 t v).number ≡ 16
chain-up asked e = e
chain-up (lower s w j js r u c m h z x l) e =
    chain-up c (turn_up j js r m (ap (λ (o : MeshAfter). o.number) (sym (near-lower w.n.0 r (adjacent_at w j) u h z x l))
    ∙ stopped (bring_of u.n.0 r u) (λ s. raised_at s (look_up s u.at)) e))

pub boundary-sixteen : (t : List ℕ) (v : Record) → AtBoundary t v → (bring_of v.n.0 t v).number ≡ 16
boundary-sixteen t v b =
    chain-up b.chain (turn_up b.place b.rest b.table b.turns
    (ap (λ (o : MeshAfter). o.number) (sym (near-rim b.at.n.0 b.table (adjacent_at b.at b.place) b.neighbour b.looked b.boundary))))
