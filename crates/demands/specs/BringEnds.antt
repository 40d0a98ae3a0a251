-- Document 02, ticket 4, "Refine here, whatever the degree": how the request ends, over the definition that the promise of `bring` cites. Bring says
-- it sentence by sentence, turn by turn; here it is told by its numbers, by the chain of neighbours that have to be brought first, and on grown meshes
-- by the sequences that reach the goal.
-- Of every table and scratch: `bring-number` which number, and when; 7, 16 and 8 are the first met · `bring-untouched` "All or nothing" ·
-- `bring-unfit`, `bring-scratch` "a scratch table is lent as for the readers, on the same terms" · `bring-order` a table in order stays in order ·
-- `bring-six` "At degree 6 the answer is 0, nothing done" · `bring-boundary`, `boundary-bring` 16 comes exactly where the chain reaches a
-- boundary vertex (AtBoundary).
-- Of a grown mesh: `bring-end` how the request ends for a vertex below degree 6 and level 12. Done: the table is what a sequence of accepted
-- subdivisions leaves, one after the other, and nothing else; "The subdivisions made are exactly those that every sequence reaching the goal must
-- contain", both ways; the vertex has degree 6 at its own level and one more; the mesh is grown. 16: no sequence reaches the goal in any room. 8: every
-- sequence that reaches it wants more slots than there are. · `bring-never-7` · `bring-grown` whatever the answer · `bring-reaches` where some sequence
-- reaches the goal and has its slots, the request succeeds · `bring-enough` with so many slots it "succeeds unless the chain reaches a boundary vertex".
-- Assumes nothing.
pub use Rattle.bring.specs.Boundary.{Turns, first, later, Chain, asked, lower, AtBoundary}
pub use Rattle.bring.specs.Runs.{Division, Run, run-free}
pub use Rattle.bring.specs.BringLaws.{Alike, Six, Reaching, risen, Finish, done, rim, short}
use Rattle.std.specs.Prelude.{◌≡◌, ◌≢◌, ◌⊎◌, Bool, ◌&&◌, not, List, [], ◌∷◌, ℕ, ◌+◌, ◌*◌, ◌≤◌, ◌<◌, ℤ, length, Option, Some, None}
use Rattle.std.proofs.Math.Path.{refl, ap}
use Rattle.std.proofs.Common.{sym, ◌∙◌, subst, inl, inr, arith}
use Rattle.std.proofs.Math.Bool.{true, false, cond}
use Rattle.std.proofs.Math.Dec.{eqb}
use borrow.Author.Tests.{eqb-true, eqb-false, ne_eqb}
use Rattle.lattice.specs.Points.{normal_of}
use Rattle.lattice.specs.declared.points.Point.{Point}
use Rattle.lattice.specs.declared.records.Record.{Record}
use Rattle.table.specs.Slots.{lengths_fit, slots_of, free_slots, cleared_of}
use Rattle.table.specs.SlotLaws.{table-lengths}
use Rattle.table.specs.Order.{InOrder, in_order_of}
use Rattle.table.specs.Entries.{look_up, is_held}
use Rattle.table.specs.MapLaws.{test-order, order-test, lookup-point}
use Rattle.mesh.specs.Grown.{Grown}
use Rattle.mesh.specs.Subdivide.{MeshAfter, mesh_after, all_or}
use Rattle.bring.specs.Bring.{bring_of, bring_vertex, bring_looked, request_of, BringAfter, bring_after, cleared, bring_to_six}
use Rattle.mesh.specs.StepLaws.{held_same, all-number}
use Rattle.bring.specs.Boundary.{sixteen-boundary, boundary-sixteen}
use Rattle.bring.specs.CallLaws.{vertex-0, request-on}
use Rattle.bring.specs.Numbers.{ChainNumber, made, torn, few, vertex-told, request-order}
use Rattle.bring.specs.Numbers as told
use Rattle.bring.specs.Costs.{near_most}
use Rattle.bring.specs.BringLaws.{Request, request-end}
use Rattle.bring.specs.BringLaws as ends
use Rattle.demands.specs.Numbers.{Rule, ◌⇒◌, first_of, of_held}

-- ---- of every table
-- "the first met": the chain of a vertex below degree 6 ends with the number x
abbrev pub met : List ℕ → ℕ → Record → Bool
met t x v = not (eqb v.d 6) && eqb (bring_of v.n.0 t v).number x

-- "Refusals: 1 (scratch length included), 3, 14, 5 for a vertex of degree below 6 at level 12, then the first met, ..: 7 ..; 16 ..; 8"
abbrev pub bring_rules : List ℕ → List ℕ → Option Record → List Rule
bring_rules t s l =
    not (lengths_fit t s) ⇒ 1
    ∷ not (in_order_of t) ⇒ 1
    ∷ not (is_held l) ⇒ 3
    ∷ of_held (λ v. eqb v.d 0) l ⇒ 14
    ∷ of_held (λ v. not (eqb v.d 6) && eqb v.n.0 12) l ⇒ 5
    ∷ of_held (met t 7) l ⇒ 7
    ∷ of_held (met t 16) l ⇒ 16
    ∷ of_held (met t 8) l ⇒ 8
    ∷ []

abbrev first_met : ℕ → ℕ
first_met x = first_of (eqb x 7 ⇒ 7 ∷ eqb x 16 ⇒ 16 ∷ eqb x 8 ⇒ 8 ∷ [])

told-met : (x : ℕ) → ChainNumber x → x ≡ first_met x
told-met x (made e) = subst (λ (y : ℕ). y ≡ first_met y) (sym e) refl
told-met x (torn e) = subst (λ (y : ℕ). y ≡ first_met y) (sym e) refl
told-met x (few e) = subst (λ (y : ℕ). y ≡ first_met y) (sym e) refl
told-met x (told.rim e) = subst (λ (y : ℕ). y ≡ first_met y) (sym e) refl

module _ (t s : List ℕ) (a b : ℤ) (m : ℕ) where
  pub bring-number : (bring_to_six t s a b m).number ≡ first_of (bring_rules t s (look_up t (normal_of a b m)))
  unfolding bring_to_six request_of bring_vertex
  bring-number = go (lengths_fit t s) (in_order_of t) refl (look_up t (normal_of a b m)) refl
    where
      at : (v : Record) (z six last : Bool) → eqb v.n.0 12 ≡ last → (last ≡ false → ChainNumber (bring_of v.n.0 t v).number)
          → (cond z (mesh_after 14 t) (cond six (mesh_after 0 t) (cond last (mesh_after 5 t) (all_or t (bring_of v.n.0 t v))))).number
          ≡ first_of
          (z ⇒ 14
          ∷ (not six && last) ⇒ 5
          ∷ (not six && eqb (bring_of v.n.0 t v).number 7) ⇒ 7
          ∷ (not six && eqb (bring_of v.n.0 t v).number 16) ⇒ 16
          ∷ (not six && eqb (bring_of v.n.0 t v).number 8) ⇒ 8
          ∷ [])
      at v true six last e h = refl
      at v false true last e h = refl
      at v false false true e h = refl
      at v false false false e h = all-number t (bring_of v.n.0 t v) ∙ told-met (bring_of v.n.0 t v).number (h refl)

      go : (f o : Bool) → in_order_of t ≡ o → (l : Option Record) → look_up t (normal_of a b m) ≡ l
          → (cond f (cleared (cond o (bring_looked t l) (mesh_after 1 t)) s) (bring_after 1 t s)).number
          ≡ first_of
          (not f ⇒ 1
          ∷ not o ⇒ 1
          ∷ not (is_held l) ⇒ 3
          ∷ of_held (λ v. eqb v.d 0) l ⇒ 14
          ∷ of_held (λ v. not (eqb v.d 6) && eqb v.n.0 12) l ⇒ 5
          ∷ of_held (met t 7) l ⇒ 7
          ∷ of_held (met t 16) l ⇒ 16
          ∷ of_held (met t 8) l ⇒ 8
          ∷ [])
      go false o h l e = refl
      go true false h l e = refl
      go true true h None e = refl
      go true true h (Some v) e =
          let order = test-order t h in
          let own = ap (look_up t) (lookup-point t order (normal_of a b m) v e) ∙ e in
          at v (eqb v.d 0) (eqb v.d 6) (eqb v.n.0 12) refl (λ z. (vertex-told t order v own (eqb-false v.n.0 12 z)).told)

  -- "unless the chain reaches a boundary vertex": 16 comes there and nowhere else
  pub bring-boundary : (bring_to_six t s a b m).number ≡ 16 → (v : Record) × (look_up t (normal_of a b m) ≡ Some v) × AtBoundary t v
  unfolding bring_to_six request_of bring_vertex
  bring-boundary = go (lengths_fit t s) (in_order_of t) (look_up t (normal_of a b m)) refl
    where
      at : (v : Record) (z six last : Bool)
          → (cond z (mesh_after 14 t) (cond six (mesh_after 0 t) (cond last (mesh_after 5 t) (all_or t (bring_of v.n.0 t v))))).number ≡ 16 → AtBoundary t v
      at v true six last e = absurd (omega arith)
      at v false true last e = absurd (omega arith)
      at v false false true e = absurd (omega arith)
      at v false false false e = sixteen-boundary t v (sym (all-number t (bring_of v.n.0 t v)) ∙ e)

      go : (f o : Bool) (l : Option Record) → look_up t (normal_of a b m) ≡ l
          → (cond f (cleared (cond o (bring_looked t l) (mesh_after 1 t)) s) (bring_after 1 t s)).number ≡ 16
          → (v : Record) × (look_up t (normal_of a b m) ≡ Some v) × AtBoundary t v
      go false o l h e = absurd (omega arith)
      go true false l h e = absurd (omega arith)
      go true true None h e = absurd (omega arith)
      go true true (Some v) h e = (v, h, at v (eqb v.d 0) (eqb v.d 6) (eqb v.n.0 12) e)

  pub boundary-bring : lengths_fit t s ≡ true → in_order_of t ≡ true → (v : Record) → look_up t (normal_of a b m) ≡ Some v
      → v.d ≢ 0 → v.d ≢ 6 → v.n.0 ≢ 12 → AtBoundary t v → (bring_to_six t s a b m).number ≡ 16
  unfolding bring_to_six request_of bring_vertex
  boundary-bring f o v e z x l c =
      rw (f, o, e, ne_eqb v.d 0 z, ne_eqb v.d 6 x, ne_eqb v.n.0 12 l) (all-number t (bring_of v.n.0 t v) ∙ boundary-sixteen t v c)

  -- ---- the lengths
  pub bring-unfit : lengths_fit t s ≡ false → bring_to_six t s a b m ≡ bring_after 1 t s
  unfolding bring_to_six
  bring-unfit h = ap (λ (x : Bool). cond x (cleared (request_of t a b m) s) (bring_after 1 t s)) h

  pub bring-fit : lengths_fit t s ≡ true → bring_to_six t s a b m ≡ cleared (request_of t a b m) s
  unfolding bring_to_six
  bring-fit h = ap (λ (x : Bool). cond x (cleared (request_of t a b m) s) (bring_after 1 t s)) h

  -- "otherwise scratch ends all 255"
  pub bring-scratch : lengths_fit t s ≡ true → (bring_to_six t s a b m).scratch ≡ cleared_of s
  bring-scratch h = ap (λ (o : BringAfter). o.scratch) (bring-fit h)

  -- "All or nothing": byte for byte
  pub bring-untouched : (bring_to_six t s a b m).number ≢ 0 → (bring_to_six t s a b m).table ≡ t
  unfolding bring_to_six request_of bring_vertex
  bring-untouched n = go (lengths_fit t s) (in_order_of t) (look_up t (normal_of a b m)) n
    where
      all : (o : MeshAfter) (x : Bool) → eqb o.number 0 ≡ x → (cond x o (mesh_after o.number t)).number ≢ 0 → (cond x o (mesh_after o.number t)).bytes ≡ t
      all o true e n = absurd (n (eqb-true o.number 0 e))
      all o false e n = refl

      at : (v : Record) (z six last : Bool)
          → (cond z (mesh_after 14 t) (cond six (mesh_after 0 t) (cond last (mesh_after 5 t) (all_or t (bring_of v.n.0 t v))))).number ≢ 0
          → (cond z (mesh_after 14 t) (cond six (mesh_after 0 t) (cond last (mesh_after 5 t) (all_or t (bring_of v.n.0 t v))))).bytes ≡ t
      at v true six last n = refl
      at v false true last n = refl
      at v false false true n = refl
      at v false false false n = let o = bring_of v.n.0 t v in all o (eqb o.number 0) refl n

      go : (f o : Bool) (l : Option Record) → (cond f (cleared (cond o (bring_looked t l) (mesh_after 1 t)) s) (bring_after 1 t s)).number ≢ 0
          → (cond f (cleared (cond o (bring_looked t l) (mesh_after 1 t)) s) (bring_after 1 t s)).table ≡ t
      go false o l n = refl
      go true false l n = refl
      go true true None n = refl
      go true true (Some v) n = at v (eqb v.d 0) (eqb v.d 6) (eqb v.n.0 12) n

  pub bring-order : InOrder t → InOrder (bring_to_six t s a b m).table
  bring-order o = go (lengths_fit t s) refl
    where
      go : (x : Bool) → lengths_fit t s ≡ x → InOrder (bring_to_six t s a b m).table
      go true h = subst InOrder (sym (ap (λ (o : BringAfter). o.table) (bring-fit h))) (request-order t o a b m)
      go false h = subst InOrder (sym (ap (λ (o : BringAfter). o.table) (bring-unfit h))) o

  -- "At degree 6 the answer is 0, nothing done."
  pub bring-six : lengths_fit t s ≡ true → InOrder t → (v : Record) → look_up t (normal_of a b m) ≡ Some v → v.d ≡ 6
      → bring_to_six t s a b m ≡ bring_after 0 t (cleared_of s)
  bring-six h o v e six =
      let rim-not : v.d ≢ 0 = λ z. omega arith in
      bring-fit h ∙ ap (λ (x : MeshAfter). cleared x s) (sym (vertex-0 t v rim-not six ∙ request-on t a b m (order-test t o) v e))

-- ---- of a grown mesh
absent-held : {A : Type 0} (v : Record) → None ≡ Some v → A
absent-held v e = absurd (let z : ◌≡◌ {A = ℕ} 0 1 = cc in omega arith)

module _ (t s : List ℕ) (fits : length s ≡ length t) (g : Grown t) (a b : ℤ) (m : ℕ) where
  fit : lengths_fit t s ≡ true
  fit = table-lengths t s (slots_of t) g.order.fits fits

  -- the number and the table
  abbrev left : MeshAfter
  left = mesh_after (bring_to_six t s a b m).number (bring_to_six t s a b m).table

  is-left : request_of t a b m ≡ left
  is-left = ap (λ (o : BringAfter). mesh_after o.number o.table) (sym (bring-fit t s a b m fit))

  -- "7": never. What a number is not, by the request's end
  pub bring-never-7 : (bring_to_six t s a b m).number ≢ 7
  bring-never-7 z = go (request-end t g a b m)
    where
      seven : (request_of t a b m).number ≡ 7
      seven = ap (λ (o : MeshAfter). o.number) is-left ∙ z

      is : {x : MeshAfter} → x ≡ request_of t a b m → x.number ≡ 7
      is e = ap (λ (o : MeshAfter). o.number) e ∙ seven

      by : (p : Point) (n : ℕ) → Finish t p n (request_of t a b m) → ⊥
      by p n (done l e r h i x y) = let w = seven in omega arith
      by p n (rim l u v e h r i d x) = let w = seven in omega arith
      by p n (short l u e h r f y x) = let w = seven in omega arith

      go : Request t a b m → ⊥
      go (ends.missing e h) = let w = is h in omega arith
      go (ends.boundary v e d h) = let w = is h in omega arith
      go (ends.already v e d h) = let w = is h in omega arith
      go (ends.top v e d x n h) = let w = is h in omega arith
      go (ends.asked v e d x n f) = by v.at v.n.0 f

  -- the mesh is grown after it, whatever the answer
  pub bring-grown : Grown (bring_to_six t s a b m).table
  bring-grown = subst Grown (ap (λ (o : MeshAfter). o.bytes) is-left) (go (request-end t g a b m))
    where
      same : {x : ℕ} → mesh_after x t ≡ request_of t a b m → Grown (request_of t a b m).bytes
      same e = subst Grown (ap (λ (o : MeshAfter). o.bytes) e) g

      by : (p : Point) (n : ℕ) → Finish t p n (request_of t a b m) → Grown (request_of t a b m).bytes
      by p n (done l e r i h x y) = h
      by p n (rim l u v e h r i d x) = subst Grown (sym h) g
      by p n (short l u e h r f y x) = subst Grown (sym h) g

      go : Request t a b m → Grown (request_of t a b m).bytes
      go (ends.missing e h) = same h
      go (ends.boundary v e d h) = same h
      go (ends.already v e d h) = same h
      go (ends.top v e d x n h) = same h
      go (ends.asked v e d x n f) = by v.at v.n.0 f

  -- the vertex at the point, below degree 6 and level 12
  module _ (v : Record) (held : look_up t (normal_of a b m) ≡ Some v) (rim-not : v.d ≢ 0) (six-not : v.d ≢ 6) (low : v.n.0 < 12) where
    pub bring-end : Finish t v.at v.n.0 left
    bring-end = subst (Finish t v.at v.n.0) is-left (go (request-end t g a b m))
      where
        same : (w : Record) → look_up t (normal_of a b m) ≡ Some w → w ≡ v
        same w e = held_same (sym e ∙ held)

        go : Request t a b m → Finish t v.at v.n.0 (request_of t a b m)
        go (ends.missing e h) = absent-held v (sym e ∙ held)
        go (ends.boundary w e d h) = absurd (rim-not (ap (λ (r : Record). r.d) (sym (same w e)) ∙ d))
        go (ends.already w e d h) = absurd (six-not (ap (λ (r : Record). r.d) (sym (same w e)) ∙ d))
        go (ends.top w e d x n h) = let k = ap (λ (r : Record). r.n.0) (same w e) in absurd (omega arith)
        go (ends.asked w e d x n f) = subst (λ (r : Record). Finish t r.at r.n.0 (request_of t a b m)) (same w e) f

    -- "with slots enough ..": where some sequence reaches the goal, and each of its subdivisions has its six slots
    pub bring-reaches : (k : List Division) → Reaching t v.at k → 6 * length k ≤ free_slots t → (bring_to_six t s a b m).number ≡ 0
    bring-reaches k r room = go bring-end
      where
        go : Finish t v.at v.n.0 left → (bring_to_six t s a b m).number ≡ 0
        go (done l z x h i y n) = z
        go (rim l u w z h y i o x) = absurd (x k r)
        go (short l u z h y o i x) = let f = x k r in absurd (omega arith)

    -- ".. unless the chain reaches a boundary vertex": with so many slots free, however the mesh lies. (near_most n is 2^(n+1) - 1.)
    pub bring-enough : 12 * near_most v.n.0 + 6 ≤ free_slots t → ((bring_to_six t s a b m).number ≡ 0) ⊎ ((bring_to_six t s a b m).number ≡ 16)
    bring-enough room = go bring-end
      where
        go : Finish t v.at v.n.0 left → ((bring_to_six t s a b m).number ≡ 0) ⊎ ((bring_to_six t s a b m).number ≡ 16)
        go (done l z x h i y n) = inl z
        go (rim l u w z h y i o x) = inr z
        go (short l u z h y o i x) = absurd (omega arith)
