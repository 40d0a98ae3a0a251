-- On a grown table no subdivision and no neighbours query is torn: a subdivision is refused by 3, 4, 5 and 8 alone, the neighbours query by 3 and 14 alone.
-- `End`, `subdivision-end` how a subdivision ends · `never-torn` so 7 never comes · `neighbours-given`, `neighbours-untorn` the query.
-- `reached-grown`, `base-grown`, `divided-grown` the tables that the calls make are grown.
-- Assumes nothing.
use Rattle.std.specs.Prelude.{◌≡◌, refl, ◌≢◌, Bool, true, cond, List, ℕ, ◌≤◌, ◌<◌, ℤ, Option, Some, None}
use Rattle.std.proofs.Common.{sym, ◌∙◌, arith, eq-eqb, ne_eqb}
use Rattle.std.proofs.Math.Path.{ap}
use Rattle.std.proofs.Math.Decide.{ℕ_discrete, dec_lt}
use Rattle.laws.specs.Each.{each-upto}
use Rattle.laws.specs.Choices.{of-true}
use Rattle.lattice.specs.Points.{normal_of}
use Rattle.lattice.specs.RecordLaws.{valid-level}
use Rattle.lattice.specs.Stars.{adjacent_at, given, refused}
use Rattle.lattice.specs.declared.records.Record.{Record}
use Rattle.lattice.specs.declared.stars.Answer.{Answer}
use Rattle.growth.specs.Growth.{grown-whole, grown-neighbours}
use Rattle.growth.specs.Sheets.{grow, GrownSheet}
use Rattle.table.specs.Entries.{look_up, is_held, holds}
use Rattle.table.specs.MapLaws.{lookup-point, lookup-valid, order-test}
use Rattle.table.specs.Order.{InOrder}
use Rattle.table.specs.Slots.{free_slots}
use Rattle.base.specs.Base.{base_of}
use Rattle.mesh.specs.CallLaws.{vertex-4, vertex-5, call-3, call-vertex}
use Rattle.mesh.specs.Grown.{Reached, laid, Grown}
use Rattle.mesh.specs.Subdivide.{MeshAfter, subdivide_of}
use Rattle.queries.specs.Queries.{adjacents_there, neighbours_at, query_looked, neighbours_of}
use Rattle.queries.specs.QueryLaws.{neighbours-looked}
use Rattle.local.specs.Sheet.{as_option, sheet_of}
use Rattle.grown.specs.Steps.{sheet-held, accepted, vertex-accepted, vertex-short}
use Rattle.grown.specs.Reach.{sheet-reached}
use Rattle.grown.specs.Tables.{reached-order, grown-sheet}

-- ---- how a subdivision of a grown table ends
pub data End (t : List ℕ) (a b : ℤ) (m : ℕ) : Type 0 where
  missing : look_up t (normal_of a b m) ≡ None → (subdivide_of t a b m).number ≡ 3 → End t a b m
  lesser : (v : Record) → look_up t (normal_of a b m) ≡ Some v → v.d ≢ 6 → (subdivide_of t a b m).number ≡ 4 → End t a b m
  top : (v : Record) → look_up t (normal_of a b m) ≡ Some v → v.d ≡ 6 → v.n.0 ≡ 12 → (subdivide_of t a b m).number ≡ 5 → End t a b m
  short : (v : Record) → look_up t (normal_of a b m) ≡ Some v → v.d ≡ 6 → v.n.0 < 12 → free_slots t < 6 → (subdivide_of t a b m).number ≡ 8 → End t a b m
  done : (v : Record) → look_up t (normal_of a b m) ≡ Some v → v.d ≡ 6 → v.n.0 < 12 → 6 ≤ free_slots t → (subdivide_of t a b m).number ≡ 0 → End t a b m

-- t is in order, and its sheet is grown
module _ (t : List ℕ) (o : InOrder t) (g : GrownSheet (sheet_of t)) (a b : ℤ) (m : ℕ) where
  -- the record at the point, by its own point
  own : (v : Record) → look_up t (normal_of a b m) ≡ Some v → sheet_of t v.at ≡ Some v
  own v e = ap as_option (ap (look_up t) (lookup-point t o (normal_of a b m) v e) ∙ e)

  sheet-end : End t a b m
  sheet-end = looked (look_up t (normal_of a b m)) refl
    where
      number : {x : MeshAfter} → x ≡ subdivide_of t a b m → (subdivide_of t a b m).number ≡ x.number
      number h = ap (λ (x : MeshAfter). x.number) (sym h)

      room : (v : Record) → look_up t (normal_of a b m) ≡ Some v → v.d ≡ 6 → v.n.0 < 12 → Dec (free_slots t < 6) → End t a b m
      room v e six low (yes f) = short v e six low f (vertex-short t o a b m v e six low (grown-whole (sheet_of t) g v (own v e) six) f)
      room v e six low (no f) =
          let r : 6 ≤ free_slots t = omega arith in
          done v e six low r (vertex-accepted t o a b m v e six low (grown-whole (sheet_of t) g v (own v e) six) r)

      at : (v : Record) → look_up t (normal_of a b m) ≡ Some v → Dec (v.d ≡ 6) → Dec (v.n.0 ≡ 12) → End t a b m
      at v e (no d) n = lesser v e d (number (vertex-4 t v d ∙ call-vertex t a b m (order-test t o) v e))
      at v e (yes d) (yes n) = top v e d n (number (vertex-5 t v d n ∙ call-vertex t a b m (order-test t o) v e))
      at v e (yes d) (no n) =
          let l = valid-level v (of-true (lookup-valid t o (normal_of a b m) v e)) in
          room v e d (omega arith) (dec_lt (free_slots t) 6)

      looked : (l : Option Record) → look_up t (normal_of a b m) ≡ l → End t a b m
      looked None e = missing e (number (call-3 t a b m (order-test t o) e))
      looked (Some v) e = at v e (ℕ_discrete v.d 6) (ℕ_discrete v.n.0 12)

  -- ---- the neighbours query
  asked : (l : Option Record) → look_up t (normal_of a b m) ≡ l → query_looked (neighbours_at t) l ≡ neighbours_of t a b m
  asked = neighbours-looked t a b m (order-test t o)

  all_there : (v : Record) → look_up t (normal_of a b m) ≡ Some v → v.d ≢ 0 → adjacents_there t v ≡ true
  unfolding adjacents_there
  all_there v e n =
      each-upto (λ j. holds t (adjacent_at v j)) v.d
      (λ j h. let (u, x) = grown-neighbours (sheet_of t) g v (own v e) n j h in ap is_held (sheet-held (look_up t (adjacent_at v j)) u x))

  sheet-given : (v : Record) → look_up t (normal_of a b m) ≡ Some v → v.d ≢ 0 → neighbours_of t a b m ≡ given v
  sheet-given v e n =
      sym (asked (Some v) e)
      ∙ ap (λ (z : Bool). cond z (refused 14) (neighbours_at t v)) (ne_eqb v.d 0 n)
      ∙ ap (λ (z : Bool). cond z (given v) (refused 7)) (all_there v e n)

  sheet-untorn : (neighbours_of t a b m).number ≢ 7
  sheet-untorn = looked (look_up t (normal_of a b m)) refl
    where
      is : {x : Answer} → x ≡ neighbours_of t a b m → x.number ≡ (neighbours_of t a b m).number
      is h = ap (λ (x : Answer). x.number) h

      at : (v : Record) → look_up t (normal_of a b m) ≡ Some v → Dec (v.d ≡ 0) → (neighbours_of t a b m).number ≢ 7
      at v e (yes z) k =
          let x = is (sym (ap (λ (z : Bool). cond z (refused 14) (neighbours_at t v)) (eq-eqb v.d 0 z)) ∙ asked (Some v) e) in
          omega arith
      at v e (no n) k = let x = is (sym (sheet-given v e n)) in omega arith

      looked : (l : Option Record) → look_up t (normal_of a b m) ≡ l → (neighbours_of t a b m).number ≢ 7
      looked None e k = let x = is (asked None e) in omega arith
      looked (Some v) e k = at v e (ℕ_discrete v.d 0) k

-- ---- the same of a grown table
module _ (t : List ℕ) (g : Grown t) (a b : ℤ) (m : ℕ) where
  pub subdivision-end : End t a b m
  subdivision-end = sheet-end t g.order (grown-sheet t g) a b m

  -- "Torn, subdivision": never
  pub never-torn : (subdivide_of t a b m).number ≢ 7
  never-torn k = go subdivision-end
    where
      go : End t a b m → ⊥
      go (missing e z) = omega arith
      go (lesser v e d z) = omega arith
      go (top v e d n z) = omega arith
      go (short v e d n f z) = omega arith
      go (done v e d n f z) = omega arith

  pub neighbours-given : (v : Record) → look_up t (normal_of a b m) ≡ Some v → v.d ≢ 0 → neighbours_of t a b m ≡ given v
  neighbours-given = sheet-given t g.order (grown-sheet t g) a b m

  -- "Torn, neighbours": never
  pub neighbours-untorn : (neighbours_of t a b m).number ≢ 7
  neighbours-untorn = sheet-untorn t g.order (grown-sheet t g) a b m

-- ---- the tables that the calls make are grown
pub reached-grown : (t : List ℕ) → Reached t → Grown t
reached-grown t r = record { order = reached-order t r; table = t; reached = r; same = λ p. refl }

pub base-grown : (t : List ℕ) (cs : List ℤ) → (base_of t cs).number ≡ 0 → Grown (base_of t cs).bytes
base-grown t cs z = reached-grown (base_of t cs).bytes (laid t cs z)

-- whatever the room of the one that was subdivided
pub divided-grown : (t : List ℕ) → Grown t → (a b : ℤ) (m : ℕ) → (subdivide_of t a b m).number ≡ 0 → Grown (subdivide_of t a b m).bytes
divided-grown t g a b m z =
    let s = accepted t a b m z in
    let u = (subdivide_of t a b m).bytes in
    sheet-reached u s.kept (grow (sheet_of t) s.vertex (sheet_of u) (grown-sheet t g) (ap as_option s.held) s.six s.below s.whole s.step)
