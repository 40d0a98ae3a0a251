-- A subdivision is either refused, with nothing changed, or made: `Subdivision`, `subdivision`. And the same of a triple in a list: `triple`.
-- `triple-kept`, `triple-refused` the table after a triple · `Going` how far a list has been gone through, `going_start`, `going_more`, `going-stop`,
-- `going_end`.
-- Assumes nothing.
use Rattle.std.specs.Prelude.{◌≡◌, refl, Bool, true, false, List, ℕ, zero, suc, ◌+◌, ◌*◌, ◌≤◌, ◌<◌, ◌-◌, ℤ, pos, nat_abs, length, get_or, Option, Some, None}
use Rattle.std.proofs.Common.{sym, ◌∙◌, subst, arith, ne_eqb}
use Rattle.std.proofs.Math.Path.{ap}
use Rattle.std.proofs.Math.Bool.{cond}
use Rattle.std.proofs.Math.Decide.{ℕ_discrete, dec_lt}
use Rattle.laws.specs.Rules.{upto}
use Rattle.lattice.specs.Points.{normal_of}
use Rattle.table.specs.OrderLaws.{order-test}
use Rattle.table.specs.Entries.{look_up}
use Rattle.table.specs.MapLaws.{test-order}
use Rattle.table.specs.Order.{in_order_of}
use Rattle.table.specs.Slots.{free_slots, Table}
use Rattle.lattice.specs.Refusals.{number_of}
use Rattle.lattice.specs.declared.records.Record.{Record}
use Rattle.lattice.specs.declared.refusals.Refusal.{Refusal}
use Rattle.lattice.specs.declared.refusals.Refusal.TheVariants as refusal
use Rattle.table.specs.SlotLaws.{table_same}
use Rattle.mesh.specs.SubdivideLaws.{Ready, Intact, subdivided-order, subdivided-free}
use Rattle.mesh.specs.WriteLaws.{subdivided-length}
use Rattle.mesh.specs.CallLaws.{standing-ready, ready-whole, vertex-4, vertex-5, vertex-7-old, vertex-7-new, vertex-8, vertex-0}
use Rattle.mesh.specs.CallLaws.{call-1, call-3, call-vertex, looked-standing}
use Rattle.mesh.specs.Subdivide.{adjacent_fits, new_fits, subdivided, MeshAfter, mesh_after, subdivide_vertex, subdivide_of}
use Rattle.laws.specs.Triples.{triples_in, is_byte}
use Rattle.mesh.specs.Subdivide.{subdivide_triple, subdivide_from, subdivide_all_of, Many}

pub data Subdivision (t : List ℕ) (a b : ℤ) (m : ℕ) : Type 0 where
  -- some other number than 0, and the table as it was
  refused : (x : ℕ) → (x ≡ 0 → ⊥) → mesh_after x t ≡ subdivide_of t a b m → Subdivision t a b m
  -- 0, of a table in order and a vertex in it, which is whole
  made : (v : Record) → in_order_of t ≡ true → look_up t (normal_of a b m) ≡ Some v → Intact t v → mesh_after 0 (subdivided t v) ≡ subdivide_of t a b m
      → Subdivision t a b m

module _ (t : List ℕ) (a b : ℤ) (m : ℕ) where
  -- past 4 and 5
  module _ (h : in_order_of t ≡ true) (v : Record) (e : look_up t (normal_of a b m) ≡ Some v) (six : v.d ≡ 6) (low : v.n.0 ≡ 12 → ⊥) where
    is : {x : MeshAfter} → x ≡ subdivide_vertex t v → x ≡ subdivide_of t a b m
    is p = p ∙ call-vertex t a b m h v e

    r : Ready t v
    r = standing-ready t v (looked-standing t (test-order t h) (normal_of a b m) v e) six low

    tested : (o : Bool) → upto 6 (adjacent_fits t v) ≡ o → (n : Bool) → upto 6 (new_fits t v) ≡ n → Dec (free_slots t < 6) → Subdivision t a b m
    tested false p n q f = refused 7 (omega arith) (is (vertex-7-old t v six low p))
    tested true p false q f = refused 7 (omega arith) (is (vertex-7-new t v six low p q))
    tested true p true q (yes f) = refused 8 (omega arith) (is (vertex-8 t v six low p q f))
    tested true p true q (no f) =
        let room : 6 ≤ free_slots t = omega arith in
        made v h e (ready-whole t v r p q room) (is (vertex-0 t v six low p q room))

  at-vertex : in_order_of t ≡ true → (v : Record) → look_up t (normal_of a b m) ≡ Some v → Dec (v.d ≡ 6) → Dec (v.n.0 ≡ 12) → Subdivision t a b m
  at-vertex h v e (no d) n = refused 4 (omega arith) (vertex-4 t v d ∙ call-vertex t a b m h v e)
  at-vertex h v e (yes d) (yes n) = refused 5 (omega arith) (vertex-5 t v d n ∙ call-vertex t a b m h v e)
  at-vertex h v e (yes d) (no n) = tested h v e d n (upto 6 (adjacent_fits t v)) refl (upto 6 (new_fits t v)) refl (dec_lt (free_slots t) 6)

  at-point : in_order_of t ≡ true → (l : Option Record) → look_up t (normal_of a b m) ≡ l → Subdivision t a b m
  at-point h None e = refused 3 (omega arith) (call-3 t a b m h e)
  at-point h (Some v) e = at-vertex h v e (ℕ_discrete v.d 6) (ℕ_discrete v.n.0 12)

  pub subdivision : Subdivision t a b m
  subdivision = go (in_order_of t) refl
    where
      go : (x : Bool) → in_order_of t ≡ x → Subdivision t a b m
      go false h = refused 1 (omega arith) (call-1 t a b m h)
      go true h = at-point h (look_up t (normal_of a b m)) refl

-- ---- a triple of a list
pub data Triple (t : List ℕ) (ps : List ℤ) (i : ℕ) : Type 0 where
  refused : (x : ℕ) → (x ≡ 0 → ⊥) → mesh_after x t ≡ subdivide_triple t ps i → Triple t ps i
  made : (v : Record) → Intact t v → mesh_after 0 (subdivided t v) ≡ subdivide_triple t ps i → Triple t ps i

module _ (t : List ℕ) (ps : List ℤ) (i : ℕ) where
  abbrev A : ℤ
  A = get_or ps (3 * i) (pos 0)

  abbrev B : ℤ
  B = get_or ps (3 * i + 1) (pos 0)

  abbrev M : ℤ
  M = get_or ps (3 * i + 2) (pos 0)

  pub triple-3 : is_byte M ≡ false → mesh_after 3 t ≡ subdivide_triple t ps i
  unfolding subdivide_triple
  triple-3 h = ap (λ (x : Bool). cond x (subdivide_of t A B (nat_abs M)) (mesh_after 3 t)) (sym h)

  pub triple-one : is_byte M ≡ true → subdivide_of t A B (nat_abs M) ≡ subdivide_triple t ps i
  unfolding subdivide_triple
  triple-one h = ap (λ (x : Bool). cond x (subdivide_of t A B (nat_abs M)) (mesh_after 3 t)) (sym h)

  pub triple : Triple t ps i
  triple = go (is_byte M) refl (subdivision t A B (nat_abs M))
    where
      go : (x : Bool) → is_byte M ≡ x → Subdivision t A B (nat_abs M) → Triple t ps i
      go false h s = refused 3 (omega arith) (triple-3 h)
      go true h (refused x n e) = refused x n (e ∙ triple-one h)
      go true h (made v o l w e) = made v w (e ∙ triple-one h)

  -- ---- what a loop over the list keeps
  pub record Kept : Type 0 where
    pub order : in_order_of (subdivide_triple t ps i).bytes ≡ true
    pub free : free_slots (subdivide_triple t ps i).bytes + 6 ≡ free_slots t
    pub long : length (subdivide_triple t ps i).bytes ≡ length t

  pub triple-kept : (subdivide_triple t ps i).number ≡ 0 → Kept
  triple-kept z = go triple
    where
      go : Triple t ps i → Kept
      go (refused x n e) = absurd (n (ap (λ (o : MeshAfter). o.number) e ∙ z))
      go (made v w e) =
          let b = ap (λ (o : MeshAfter). o.bytes) e in
          record {
            order = ap in_order_of (sym b) ∙ order-test (subdivided t v) (subdivided-order t v w);
            free = subst (λ (u : List ℕ). free_slots u + 6 ≡ free_slots t) b (subdivided-free t v w);
            long = ap length (sym b) ∙ subdivided-length t v;
          }

  pub triple-refused : ((subdivide_triple t ps i).number ≡ 0 → ⊥) → (subdivide_triple t ps i).bytes ≡ t
  triple-refused n = go triple
    where
      go : Triple t ps i → (subdivide_triple t ps i).bytes ≡ t
      go (refused x k e) = sym (ap (λ (o : MeshAfter). o.bytes) e)
      go (made v w e) = absurd (n (sym (ap (λ (o : MeshAfter). o.number) e)))

-- ---- the list
pub many-end : (t : List ℕ) (ps : List ℤ) (i : ℕ) → record { number = 0; done = i; bytes = t } ≡ subdivide_from t ps i 0
unfolding subdivide_from
many-end t ps i = refl

pub many_more : (t : List ℕ) (ps : List ℤ) (i left : ℕ) → 0 < left → (subdivide_triple t ps i).number ≡ 0
    → subdivide_from (subdivide_triple t ps i).bytes ps (i + 1) (left - 1) ≡ subdivide_from t ps i left
unfolding subdivide_from
many_more t ps i zero h e = absurd (omega arith)
many_more t ps i (suc left) h e = let p : suc left - 1 ≡ left = omega arith in rw (p, e)

pub many-stop : (t : List ℕ) (ps : List ℤ) (i left : ℕ) → 0 < left → ((subdivide_triple t ps i).number ≡ 0 → ⊥)
    → record { number = (subdivide_triple t ps i).number; done = i; bytes = t } ≡ subdivide_from t ps i left
unfolding subdivide_from
many-stop t ps i zero h e = absurd (omega arith)
many-stop t ps i (suc left) h e = rw (ne_eqb (subdivide_triple t ps i).number 0 e)

pub many-1 : (t : List ℕ) (ps : List ℤ) → in_order_of t ≡ false → record { number = 1; done = 0; bytes = t } ≡ subdivide_all_of t ps
unfolding subdivide_all_of
many-1 t ps h = ap (λ (x : Bool). cond x (subdivide_from t ps 0 (triples_in ps)) (record { number = 1; done = 0; bytes = t })) (sym h)

pub many-from : (t : List ℕ) (ps : List ℤ) → in_order_of t ≡ true → subdivide_from t ps 0 (triples_in ps) ≡ subdivide_all_of t ps
unfolding subdivide_all_of
many-from t ps h = ap (λ (x : Bool). cond x (subdivide_from t ps 0 (triples_in ps)) (record { number = 1; done = 0; bytes = t })) (sym h)

-- the list gone through as far as triple i: t is the table then, and f of its n slots are free
pub record Going (t₀ : List ℕ) (ps : List ℤ) (n : ℕ) (t : List ℕ) (f i : ℕ) : Type 0 where
  pub within : i ≤ triples_in ps
  pub table : Table t n
  pub order : in_order_of t ≡ true
  pub free : f ≡ free_slots t
  pub long : length t ≡ length t₀
  pub left : subdivide_from t ps i (triples_in ps - i) ≡ subdivide_all_of t₀ ps

pub going_start : (t : List ℕ) (ps : List ℤ) (n f : ℕ) → Table t n → in_order_of t ≡ true → f ≡ free_slots t → Going t ps n t f 0
going_start t ps n f w o e =
    let z : triples_in ps - 0 ≡ triples_in ps = omega arith in
    record { within = omega arith; table = w; order = o; free = e; long = refl; left = ap (subdivide_from t ps 0) z ∙ many-from t ps o }

module _ (t₀ : List ℕ) (ps : List ℤ) (n : ℕ) (t : List ℕ) (f i : ℕ) (g : Going t₀ ps n t f i) where
  pub going_end : triples_in ps ≤ i → record { number = 0; done = i; bytes = t } ≡ subdivide_all_of t₀ ps
  going_end h = let z : 0 ≡ triples_in ps - i = omega (arith, g.within) in many-end t ps i ∙ ap (subdivide_from t ps i) z ∙ g.left

  module _ (h : i < triples_in ps) where
    pub going-stop : ((subdivide_triple t ps i).number ≡ 0 → ⊥) → record { number = (subdivide_triple t ps i).number; done = i; bytes = t } ≡ subdivide_all_of t₀ ps
    going-stop e = many-stop t ps i (triples_in ps - i) (omega arith) e ∙ g.left

    pub going-room : (subdivide_triple t ps i).number ≡ 0 → 6 ≤ f
    going-room e = omega (arith, (triple-kept t ps i e).free, g.free)

    pub going_more : (subdivide_triple t ps i).number ≡ 0 → Going t₀ ps n (subdivide_triple t ps i).bytes (f - 6) (i + 1)
    going_more e =
        let k = triple-kept t ps i e in
        let z : triples_in ps - (i + 1) ≡ triples_in ps - i - 1 = omega arith in
        record {
          within = omega arith;
          table = table_same t (subdivide_triple t ps i).bytes n k.long g.table;
          order = k.order;
          free = omega (arith, k.free, g.free);
          long = k.long ∙ g.long;
          left = ap (subdivide_from (subdivide_triple t ps i).bytes ps (i + 1)) z ∙ many_more t ps i (triples_in ps - i) (omega arith) e ∙ g.left;
        }

pub many-parts : {x y : Many} → x ≡ y → (x.number ≡ y.number) × ((x.done ≡ y.done) × (x.bytes ≡ y.bytes))
many-parts e = (ap (λ (o : Many). o.number) e, (ap (λ (o : Many). o.done) e, ap (λ (o : Many). o.bytes) e))
