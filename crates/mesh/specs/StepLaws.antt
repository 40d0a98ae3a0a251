-- Subdivisions one after the other, as code goes that keeps the count of free slots: what each step is given and leaves.
-- `Given` a table in order and its free slots · `Stays` no record has moved · `After` what a step leaves: number and table as the definition has them, in
-- order, its free slots, no record moved; `after-here`, `given-after`, `after_same`, `after_then` · `Leaves` the same of a step that answers with a result;
-- `leaves-here`, `leaves_same`, `leaves_then` · `own-looked` a record is found by its own point · `Divided`, `divided` a vertex's subdivision, refused or
-- made, `held-refused`, `held-made` the same as a step · `then-on`, `then-stop` one after the other · `all_made`, `all_back`, `all-number` all or nothing.
-- Assumes nothing.
use Rattle.std.specs.Prelude.{◌≡◌, refl, Bool, true, false, cond, List, ℕ, ◌-◌, ◌≤◌, eqb, length, Result, Ok, Err, Some}
use Rattle.std.proofs.Common.{sym, ◌∙◌, ap, subst, arith, eq-eqb, ne_eqb}
use Rattle.laws.specs.Choices.{of-true}
use Rattle.lattice.specs.Points.{normal_of}
use Rattle.lattice.specs.Refusals.{number_of}
use Rattle.lattice.specs.declared.refusals.Refusal.{Refusal}
use Rattle.lattice.specs.declared.points.Point.{Point}
use Rattle.lattice.specs.declared.records.Record.{Record}
use Rattle.geometry.specs.SubdivisionLaws.{sited}
use Rattle.geometry.specs.Forms.{point-own}
use Rattle.table.specs.Entries.{look_up}
use Rattle.table.specs.Order.{InOrder}
use Rattle.table.specs.Search.{find_of}
use Rattle.table.specs.Slots.{Table, free_slots}
use Rattle.table.specs.MapLaws.{table_same, lookup-valid, order-test}
use Rattle.table.specs.declared.probe.Found.TheVariants as found
use Rattle.mesh.specs.Subdivide.{MeshAfter, mesh_after, subdivided, subdivide_vertex, subdivide_of, onwards, and_then, all_or}
use Rattle.mesh.specs.SubdivideLaws.{Intact, subdivided-order, subdivided-free}
use Rattle.mesh.specs.WriteLaws.{Standing, subdivided-length, subdivided-stays}
use Rattle.mesh.specs.CallLaws.{call-vertex}
use Rattle.mesh.specs.CaseLaws.{Subdivision, refused, made, subdivision}

-- a table of n slots in order, f of them free
pub record Given (t : List ℕ) (n f : ℕ) : Type 0 where
  pub table : Table t n
  pub order : InOrder t
  pub free : f ≡ free_slots t

-- no record has moved: each search that ended at its point ends there still
abbrev pub Stays : List ℕ → List ℕ → Type 0
Stays t t' = (p : Point) (i : ℕ) → find_of t p ≡ found.At i → find_of t' p ≡ found.At i

-- what a step that comes to o leaves of the table t: the number x, the table t' and its free slots
pub record After (t : List ℕ) (o : MeshAfter) (x f : ℕ) (t' : List ℕ) : Type 0 where
  pub number : x ≡ o.number
  pub bytes : t' ≡ o.bytes
  pub order : InOrder t'
  pub free : f ≡ free_slots t'
  pub long : length t' ≡ length t
  pub stays : Stays t t'

module _ {t : List ℕ} {n f : ℕ} (g : Given t n f) where
  -- refused where it stands
  pub after-here : {o : MeshAfter} (x : ℕ) → mesh_after x t ≡ o → After t o x f t
  after-here x e =
      record {
        number = ap (λ (o : MeshAfter). o.number) e;
        bytes = ap (λ (o : MeshAfter). o.bytes) e;
        order = g.order;
        free = g.free;
        long = refl;
        stays = λ p i h. h;
      }

  -- what follows is given the table after
  pub given-after : {o : MeshAfter} {x f' : ℕ} {t' : List ℕ} → After t o x f' t' → Given t' n f'
  given-after {o} {x} {f'} {t'} a = record { table = table_same t t' n a.long g.table; order = a.order; free = a.free }

-- the same under another name
pub after_same : {t : List ℕ} {o p : MeshAfter} {x f : ℕ} {t' : List ℕ} → o ≡ p → After t o x f t' → After t p x f t'
after_same {t} {o} {p} {x} {f} {t'} e a = subst (λ (q : MeshAfter). After t q x f t') e a

-- one step after another
pub after_then : {t t₁ : List ℕ} {o : MeshAfter} {x f : ℕ} {t' : List ℕ} → length t₁ ≡ length t → Stays t t₁ → After t₁ o x f t' → After t o x f t'
after_then l s a =
    record {
      number = a.number;
      bytes = a.bytes;
      order = a.order;
      free = a.free;
      long = a.long ∙ l;
      stays = λ p i h. a.stays p i (s p i h);
    }

-- ---- one subdivision
-- a record is found by its own point
pub own-looked : (t : List ℕ) → InOrder t → (v : Record) → look_up t v.at ≡ Some v → look_up t (normal_of v.at.a v.at.b v.at.m.0) ≡ Some v
own-looked t o v e = ap (look_up t) (point-own v.at (sited v (of-true (lookup-valid t o v.at v e))).normal) ∙ e

pub data Divided (t : List ℕ) (v : Record) : Type 0 where
  denied : (x : ℕ) → (x ≡ 0 → ⊥) → mesh_after x t ≡ subdivide_vertex t v → Divided t v
  done : Intact t v → mesh_after 0 (subdivided t v) ≡ subdivide_vertex t v → Divided t v

pub held_same : {a b : Record} → Some a ≡ Some b → a ≡ b
held_same {a} {b} e = cc

pub divided : (t : List ℕ) (v : Record) → Standing t v → Divided t v
divided t v s = go (subdivision t v.at.a v.at.b v.at.m.0)
  where
    looked : look_up t (normal_of v.at.a v.at.b v.at.m.0) ≡ Some v
    looked = own-looked t s.order v s.held

    back : subdivide_vertex t v ≡ subdivide_of t v.at.a v.at.b v.at.m.0
    back = call-vertex t v.at.a v.at.b v.at.m.0 (order-test t s.order) v looked

    go : Subdivision t v.at.a v.at.b v.at.m.0 → Divided t v
    go (refused x n e) = denied x n (e ∙ sym back)
    go (made u o l w e) =
        let z : u ≡ v = held_same (sym l ∙ looked) in
        done (subst (Intact t) z w) (ap (λ (r : Record). mesh_after 0 (subdivided t r)) (sym z) ∙ e ∙ sym back)

module _ {t : List ℕ} {n f : ℕ} (g : Given t n f) (v : Record) (s : Standing t v) where
  pub held-refused : (x : ℕ) (t' : List ℕ) → (x ≡ 0 → ⊥) → x ≡ (subdivide_vertex t v).number → t' ≡ (subdivide_vertex t v).bytes
      → After t (subdivide_vertex t v) x f t'
  held-refused x t' nz e b = go (divided t v s)
    where
      go : Divided t v → After t (subdivide_vertex t v) x f t'
      go (denied y k h) =
          let z : t' ≡ t = b ∙ sym (ap (λ (o : MeshAfter). o.bytes) h) in
          record {
            number = e;
            bytes = b;
            order = subst InOrder (sym z) g.order;
            free = g.free ∙ ap free_slots (sym z);
            long = ap length z;
            stays = λ p i k. ap (λ (u : List ℕ). find_of u p) z ∙ k;
          }
      go (done w h) = absurd (nz (e ∙ sym (ap (λ (o : MeshAfter). o.number) h)))

  pub held-made : (x : ℕ) (t' : List ℕ) → x ≡ 0 → x ≡ (subdivide_vertex t v).number → t' ≡ (subdivide_vertex t v).bytes
      → (6 ≤ f) × After t (subdivide_vertex t v) 0 (f - 6) t'
  held-made x t' zz e b = go (divided t v s)
    where
      go : Divided t v → (6 ≤ f) × After t (subdivide_vertex t v) 0 (f - 6) t'
      go (denied y k h) = absurd (k (ap (λ (o : MeshAfter). o.number) h ∙ sym e ∙ zz))
      go (done w h) =
          let z : subdivided t v ≡ t' = ap (λ (o : MeshAfter). o.bytes) h ∙ sym b in
          let fr = subdivided-free t v w in
          let more = ap free_slots z in
          let is = g.free in
          let order = subst InOrder z (subdivided-order t v w) in
          let long = ap length (sym z) ∙ subdivided-length t v in
          let stays : Stays t t' = λ p i k. ap (λ (u : List ℕ). find_of u p) (sym z) ∙ subdivided-stays t v w p i k in
          (omega arith, record { number = sym zz ∙ e; bytes = b; order = order; free = omega arith; long = long; stays = stays })

-- ---- a step that answers with the free slots after, or why it is refused
abbrev pub Leaves : List ℕ → MeshAfter → Result ℕ Refusal → List ℕ → Type 0
Leaves t o (Ok f) t' = After t o 0 f t'
Leaves t o (Err why) t' = After t o (number_of why) (free_slots t') t'

pub leaves_same : (t : List ℕ) (o p : MeshAfter) (r : Result ℕ Refusal) (t' : List ℕ) → o ≡ p → Leaves t o r t' → Leaves t p r t'
leaves_same t o p (Ok f) t' e a = after_same e a
leaves_same t o p (Err why) t' e a = after_same e a

pub leaves_then : (t t₁ : List ℕ) (o : MeshAfter) (r : Result ℕ Refusal) (t' : List ℕ) → length t₁ ≡ length t → Stays t t₁ → Leaves t₁ o r t' → Leaves t o r t'
leaves_then t t₁ o (Ok f) t' l s a = after_then l s a
leaves_then t t₁ o (Err why) t' l s a = after_then l s a

-- refused where it stands, with its free slots as they were
pub leaves-here : (t : List ℕ) (n f : ℕ) → Given t n f → (o : MeshAfter) (why : Refusal) → mesh_after (number_of why) t ≡ o
    → After t o (number_of why) (free_slots t) t
leaves-here t n f g o why e = after-here (record { table = g.table; order = g.order; free = refl }) (number_of why) e

-- ---- one after the other
pub then-on : (o : MeshAfter) (k : List ℕ → MeshAfter) → o.number ≡ 0 → k o.bytes ≡ and_then o k
unfolding onwards
then-on o k e = ap (λ (b : Bool). onwards b o k) (sym (eq-eqb o.number 0 e))

pub then-stop : (o : MeshAfter) (k : List ℕ → MeshAfter) → (o.number ≡ 0 → ⊥) → o ≡ and_then o k
unfolding onwards
then-stop o k e = ap (λ (b : Bool). onwards b o k) (sym (ne_eqb o.number 0 e))

-- ---- all or nothing
pub all_made : (t : List ℕ) (o : MeshAfter) → o.number ≡ 0 → o ≡ all_or t o
all_made t o z = ap (λ (b : Bool). cond b o (mesh_after o.number t)) (sym (eq-eqb o.number 0 z))

pub all_back : (t : List ℕ) (o : MeshAfter) → (o.number ≡ 0 → ⊥) → mesh_after o.number t ≡ all_or t o
all_back t o n = ap (λ (b : Bool). cond b o (mesh_after o.number t)) (sym (ne_eqb o.number 0 n))

pub all-number : (t : List ℕ) (o : MeshAfter) → (all_or t o).number ≡ o.number
all-number t o = go (eqb o.number 0)
  where
    go : (b : Bool) → (cond b o (mesh_after o.number t)).number ≡ o.number
    go true = refl
    go false = refl
