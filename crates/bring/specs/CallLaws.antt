-- The request by cases, as the code tests them. `RequestLeaves` what a call leaves · `tried-on`, `tried-back` all or nothing ·
-- `vertex-14`, `vertex-0`, `vertex-5`, `vertex-on` · `request-1`, `request-3`, `request-on` · `call_none`, `call-other`, `call-on`, `call-request` the
-- call.
-- Assumes nothing.
use Rattle.std.specs.Prelude.{◌≡◌, refl, Bool, true, false, List, ℕ, ℤ, length, replicate, Option, Some, None}
use Rattle.std.proofs.Common.{sym, ◌∙◌}
use Rattle.std.proofs.Math.Path.{ap}
use Rattle.std.proofs.Math.Bool.{cond}
use borrow.Author.Tests.{eq-eqb, ne_eqb}
use Rattle.lattice.specs.Points.{normal_of}
use Rattle.lattice.specs.declared.records.Record.{Record}
use Rattle.table.specs.Entries.{look_up}
use Rattle.table.specs.Order.{in_order_of}
use Rattle.table.specs.Slots.{Table, lengths_fit, slots_of, cleared_of}
use Rattle.table.specs.SlotLaws.{table-lengths, lengths_none, lengths-other}
use Rattle.mesh.specs.Subdivide.{MeshAfter, mesh_after, all_or}
use Rattle.mesh.specs.StepLaws.{After, all_made, all_back}
use Rattle.bring.specs.Bring.{bring_of, bring_vertex, bring_looked, request_of, bring_after, cleared, bring_to_six}

-- what the table comes to is o, by the number x and the table t'; scratch keeps its length
pub record RequestLeaves (o : MeshAfter) (s : List ℕ) (x : ℕ) (t' s' : List ℕ) : Type 0 where
  pub number : x ≡ o.number
  pub bytes : t' ≡ o.bytes
  pub long : length s' ≡ length s

pub comes-same : {o p : MeshAfter} {s : List ℕ} {x : ℕ} {t' s' : List ℕ} → o ≡ p → RequestLeaves o s x t' s' → RequestLeaves p s x t' s'
comes-same e c = record { number = c.number ∙ ap (λ (o : MeshAfter). o.number) e; bytes = c.bytes ∙ ap (λ (o : MeshAfter). o.bytes) e; long = c.long }

pub comes-here : {o : MeshAfter} {t : List ℕ} (x : ℕ) (s : List ℕ) → mesh_after x t ≡ o → RequestLeaves o s x t s
comes-here x s e = record { number = ap (λ (o : MeshAfter). o.number) e; bytes = ap (λ (o : MeshAfter). o.bytes) e; long = refl }

-- ---- all or nothing
module _ (t s s' : List ℕ) (l : length s' ≡ length s) (o : MeshAfter) (x f : ℕ) (t' : List ℕ) (a : After t o x f t') where
  pub tried-on : x ≡ 0 → RequestLeaves (all_or t o) s x t' s'
  tried-on z = comes-same (all_made t o (sym a.number ∙ z)) (record { number = a.number; bytes = a.bytes; long = l })

  pub tried-back : (x ≡ 0 → ⊥) → (t'' : List ℕ) → t'' ≡ t → RequestLeaves (all_or t o) s x t'' s'
  tried-back n t'' e = comes-same (all_back t o (λ z. n (a.number ∙ z))) (record { number = a.number; bytes = e; long = l })

-- ---- the vertex
module _ (t : List ℕ) (v : Record) where
  pub vertex-14 : v.d ≡ 0 → mesh_after 14 t ≡ bring_vertex t v
  unfolding bring_vertex
  vertex-14 h = rw (eq-eqb v.d 0 h)

  module _ (rim : v.d ≡ 0 → ⊥) where
    pub vertex-0 : v.d ≡ 6 → mesh_after 0 t ≡ bring_vertex t v
    unfolding bring_vertex
    vertex-0 h = rw (ne_eqb v.d 0 rim, eq-eqb v.d 6 h)

    module _ (less : v.d ≡ 6 → ⊥) where
      pub vertex-5 : v.n.0 ≡ 12 → mesh_after 5 t ≡ bring_vertex t v
      unfolding bring_vertex
      vertex-5 h = rw (ne_eqb v.d 0 rim, ne_eqb v.d 6 less, eq-eqb v.n.0 12 h)

      pub vertex-on : (v.n.0 ≡ 12 → ⊥) → all_or t (bring_of v.n.0 t v) ≡ bring_vertex t v
      unfolding bring_vertex
      vertex-on h = rw (ne_eqb v.d 0 rim, ne_eqb v.d 6 less, ne_eqb v.n.0 12 h)

-- ---- the request
module _ (t : List ℕ) (a b : ℤ) (m : ℕ) where
  pub request-1 : in_order_of t ≡ false → mesh_after 1 t ≡ request_of t a b m
  unfolding request_of
  request-1 h = ap (λ (x : Bool). cond x (bring_looked t (look_up t (normal_of a b m))) (mesh_after 1 t)) (sym h)

  request-looked : in_order_of t ≡ true → (l : Option Record) → look_up t (normal_of a b m) ≡ l → bring_looked t l ≡ request_of t a b m
  unfolding request_of
  request-looked h l e = ap (bring_looked t) (sym e) ∙ ap (λ (x : Bool). cond x (bring_looked t (look_up t (normal_of a b m))) (mesh_after 1 t)) (sym h)

  pub request-3 : in_order_of t ≡ true → look_up t (normal_of a b m) ≡ None → mesh_after 3 t ≡ request_of t a b m
  request-3 h e = request-looked h None e

  pub request-on : in_order_of t ≡ true → (v : Record) → look_up t (normal_of a b m) ≡ Some v → bring_vertex t v ≡ request_of t a b m
  request-on h v e = request-looked h (Some v) e

-- ---- the call
module _ (t s : List ℕ) (a b : ℤ) (m : ℕ) where
  by_lengths : (x : Bool) → lengths_fit t s ≡ x → cond x (cleared (request_of t a b m) s) (bring_after 1 t s) ≡ bring_to_six t s a b m
  unfolding bring_to_six
  by_lengths x h = ap (λ (x : Bool). cond x (cleared (request_of t a b m) s) (bring_after 1 t s)) (sym h)

  pub call_none : slots_of t ≡ 0 → bring_after 1 t s ≡ bring_to_six t s a b m
  call_none e = by_lengths false (lengths_none t s e)

  pub call-other : (length s ≡ length t → ⊥) → bring_after 1 t s ≡ bring_to_six t s a b m
  call-other e = by_lengths false (lengths-other t s e)

  -- lengths that fit
  pub call-request : (n : ℕ) → Table t n → length s ≡ length t → cleared (request_of t a b m) s ≡ bring_to_six t s a b m
  call-request n w l = by_lengths true (table-lengths t s n w l)

  pub call-on : (n : ℕ) → Table t n → length s ≡ length t → (x : ℕ) (t' s' s'' : List ℕ) → RequestLeaves (request_of t a b m) s x t' s' → s'' ≡ cleared_of s'
      → bring_after x t' s'' ≡ bring_to_six t s a b m
  call-on n w l x t' s' s'' c e = (λ i. bring_after (c.number i) (c.bytes i) (scratch i)) ∙ call-request n w l
    where
      scratch : s'' ≡ cleared_of s
      scratch = e ∙ ap (λ (k : ℕ). replicate k 255) c.long
