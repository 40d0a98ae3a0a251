-- Document 02, ticket 4, of every table and scratch whatever, over the definition that the promise of `bring` cites. Nothing is asked of the table:
-- what the answer says of it is told.
-- `Answers`, `bring-answers`, `answers-bring` what the call answers and leaves, case by case: 7, 16 and 8 in the ticket's words, met turn by turn
-- (First); both ways · `bring-goes`, `bring-risen` 0 · `Done`, `bring-done` where the answer is 0: "The subdivisions made are exactly those that every
-- sequence reaching the goal must contain" · `bring-refuses` 16: no sequence reaches the goal; 8: every sequence that does wants more slots ·
-- `bring-order` · `bring-never-7`, `bring-enough`, `bring-grown` of a grown mesh. The page of all this: `demands/specs/Bring`.
-- Assumes nothing.
use Rattle.std.specs.Prelude.{◌≡◌, refl, ◌≢◌, Bool, true, false, ℕ, ◌+◌, ◌*◌, ◌≤◌, ◌<◌, ℤ, length, Option, Some, None}
use Rattle.std.proofs.Common.{sym, ◌∙◌, subst, arith}
use Rattle.std.proofs.Math.Path.{ap}
use Rattle.std.proofs.Math.Bool.{cond}
use mathlib.Core.List.Memᴰ
use mathlib.Core.List.{List, [], Memᴰ}
use Rattle.std.proofs.Math.Decide.{ℕ_discrete}
use Rattle.laws.specs.Choices.{of-true}
use Rattle.lattice.specs.Points.{normal_of}
use Rattle.lattice.specs.RecordLaws.{valid-level}
use Rattle.lattice.specs.declared.points.Point.{Point}
use Rattle.lattice.specs.declared.records.Record.{Record}
use Rattle.table.specs.Entries.{look_up}
use Rattle.table.specs.Order.{InOrder, in_order_of}
use Rattle.table.specs.Slots.{lengths_fit, free_slots, cleared_of}
use Rattle.table.specs.MapLaws.{lookup-valid, lookup-point, test-order}
use Rattle.mesh.specs.Grown.{Grown}
use Rattle.mesh.specs.Subdivide.{MeshAfter, mesh_after, all_or}
use Rattle.mesh.specs.StepLaws.{held_same, all_made, all_back}
use Rattle.bring.specs.Bring.{bring_of, request_of, BringAfter, bring_after, cleared, bring_to_six}
use Rattle.bring.specs.CallLaws.{vertex-14, vertex-0, vertex-5, vertex-on, request-1, request-3, request-on}
use Rattle.everywhere.specs.Runs.{Division, Run, here, Reaching, risen}
use Rattle.everywhere.specs.First.{all_places, Goes, Meets}
use Rattle.everywhere.specs.Made.{goes_order, goes-risen}
use Rattle.everywhere.specs.Meeting.{Told, meets-some, brought-told, goes-brought, meets-brought}
use Rattle.everywhere.specs.Meeting as told
use Rattle.everywhere.specs.Necessary.{Going, Needs, Wanted, Refuses, run-once, has-length, places-wanted, goes-needs, meets-refuses}
use Rattle.everywhere.specs.OnGrown.{near_most, goes-grown, grown-met}

-- ---- what the call answers
-- the vertex at the point is asked about: lengths that fit, a table in order
pub record At (t s : List ℕ) (l : Option Record) (v : Record) : Type 0 where
  pub fits : lengths_fit t s ≡ true
  pub order : in_order_of t ≡ true
  pub held : l ≡ Some v

-- and it is neither on the boundary nor of degree 6 nor at level 12
pub record Below (t s : List ℕ) (l : Option Record) (v : Record) : Type 0 where
  pub asked : At t s l v
  pub inner : v.d ≢ 0
  pub less : v.d ≢ 6
  pub low : v.n.0 ≢ 12

-- "Refusals: 1 (scratch length included), 3, 14, 5 for a vertex of degree below 6 at level 12, then the first met, ..: 7 ..; 16 ..; 8." "At degree 6 the
-- answer is 0, nothing done. All or nothing; a scratch table is lent as for the readers, on the same terms": l stands at the point
pub data Answers (t s : List ℕ) (l : Option Record) (o : BringAfter) : Type 0 where
  unfit : lengths_fit t s ≡ false → o ≡ bring_after 1 t s → Answers t s l o
  unordered : lengths_fit t s ≡ true → in_order_of t ≡ false → o ≡ bring_after 1 t (cleared_of s) → Answers t s l o
  missing : lengths_fit t s ≡ true → in_order_of t ≡ true → l ≡ None → o ≡ bring_after 3 t (cleared_of s) → Answers t s l o
  boundary : (v : Record) → At t s l v → v.d ≡ 0 → o ≡ bring_after 14 t (cleared_of s) → Answers t s l o
  already : (v : Record) → At t s l v → v.d ≡ 6 → o ≡ bring_after 0 t (cleared_of s) → Answers t s l o
  top : (v : Record) → At t s l v → v.d ≢ 0 → v.d ≢ 6 → v.n.0 ≡ 12 → o ≡ bring_after 5 t (cleared_of s) → Answers t s l o
  met : (v : Record) → Below t s l v → (x : ℕ) → Meets x (all_places v) t → o ≡ bring_after x t (cleared_of s) → Answers t s l o
  done : (v : Record) → Below t s l v → (r : List ℕ) → Goes (all_places v) t r → o ≡ bring_after 0 r (cleared_of s) → Answers t s l o

number : {x y : BringAfter} → x ≡ y → x.number ≡ y.number
number e = ap (λ (o : BringAfter). o.number) e

table : {x y : BringAfter} → x ≡ y → x.table ≡ y.table
table e = ap (λ (o : BringAfter). o.table) e

module _ (t s : List ℕ) (a b : ℤ) (m : ℕ) where
  abbrev there : Option Record
  there = look_up t (normal_of a b m)

  abbrev call : BringAfter
  call = bring_to_six t s a b m

  not-fit : lengths_fit t s ≡ false → call ≡ bring_after 1 t s
  unfolding bring_to_six
  not-fit h = ap (λ (x : Bool). cond x (cleared (request_of t a b m) s) (bring_after 1 t s)) h

  by : {o : MeshAfter} → lengths_fit t s ≡ true → o ≡ request_of t a b m → call ≡ cleared o s
  unfolding bring_to_six
  by h e = ap (λ (x : Bool). cond x (cleared (request_of t a b m) s) (bring_after 1 t s)) h ∙ ap (λ (o : MeshAfter). cleared o s) (sym e)

  module _ (v : Record) (w : At t s there v) where
    ordered : InOrder t
    ordered = test-order t w.order

    own : look_up t v.at ≡ Some v
    own = ap (look_up t) (lookup-point t ordered (normal_of a b m) v w.held) ∙ w.held

    at-14 : v.d ≡ 0 → call ≡ bring_after 14 t (cleared_of s)
    at-14 d = by w.fits (vertex-14 t v d ∙ request-on t a b m w.order v w.held)

    at-0 : v.d ≡ 6 → call ≡ bring_after 0 t (cleared_of s)
    at-0 d = let n : v.d ≢ 0 = λ z. omega arith in by w.fits (vertex-0 t v n d ∙ request-on t a b m w.order v w.held)

    at_5 : v.d ≢ 0 → v.d ≢ 6 → v.n.0 ≡ 12 → call ≡ bring_after 5 t (cleared_of s)
    at_5 d x n = by w.fits (vertex-5 t v d x n ∙ request-on t a b m w.order v w.held)

  -- ---- a vertex below degree 6 and level 12
  module _ (v : Record) (w : Below t s there v) where
    order : InOrder t
    order = ordered v w.asked

    held : look_up t v.at ≡ Some v
    held = own v w.asked

    level : v.n.0 < 12
    level = let l = valid-level v (of-true (lookup-valid t order v.at v held)) in let n = w.low in omega arith

    called : call ≡ cleared (all_or t (bring_of v.n.0 t v)) s
    called = by w.asked.fits (vertex-on t v w.inner w.less w.low ∙ request-on t a b m w.asked.order v w.asked.held)

    met-bring : (x : ℕ) → Meets x (all_places v) t → call ≡ bring_after x t (cleared_of s)
    met-bring x k =
        let e = meets-brought t order v level x k in
        let back = all_back t (bring_of v.n.0 t v) (λ z. meets-some x (all_places v) t k (sym e ∙ z)) in
        called ∙ ap (λ (o : MeshAfter). cleared o s) (sym back) ∙ ap (λ (n : ℕ). bring_after n t (cleared_of s)) e

    goes-bring : (r : List ℕ) → Goes (all_places v) t r → call ≡ bring_after 0 r (cleared_of s)
    goes-bring r g =
        let e = goes-brought t order v level r g in
        called ∙ ap (λ (o : MeshAfter). cleared (all_or t o) s) e ∙ ap (λ (o : MeshAfter). cleared o s) (sym (all_made t (mesh_after 0 r) refl))

    either : Told (all_places v) t → Answers t s there call
    either (told.goes r g) = done v w r g (goes-bring r g)
    either (told.meets x k) = met v w x k (met-bring x k)

    -- 0, and the table is what the turns leave
    pub bring-goes : call.number ≡ 0 → Goes (all_places v) t call.table
    bring-goes z = go (brought-told t order v level)
      where
        go : Told (all_places v) t → Goes (all_places v) t call.table
        go (told.goes r g) = subst (Goes (all_places v) t) (sym (table (goes-bring r g))) g
        go (told.meets x k) = absurd (meets-some x (all_places v) t k (sym (number (met-bring x k)) ∙ z))

    -- a number from within is the first met
    pub bring-met : call.number ≢ 0 → Meets call.number (all_places v) t
    bring-met n = go (brought-told t order v level)
      where
        go : Told (all_places v) t → Meets call.number (all_places v) t
        go (told.goes r g) = absurd (n (number (goes-bring r g)))
        go (told.meets x k) = subst (λ (y : ℕ). Meets y (all_places v) t) (sym (number (met-bring x k))) k

    pub bring-risen : call.number ≡ 0 → look_up call.table v.at ≡ Some (risen v.at v.n.0)
    bring-risen z = goes-risen t order v held w.inner w.less level call.table (bring-goes z)

  -- ---- both ways
  pub bring-answers : Answers t s there call
  bring-answers = go (lengths_fit t s) refl (in_order_of t) refl there refl
    where
      at-vertex : (v : Record) → At t s there v → Dec (v.d ≡ 0) → Dec (v.d ≡ 6) → Dec (v.n.0 ≡ 12) → Answers t s there call
      at-vertex v w (yes d) x n = boundary v w d (at-14 v w d)
      at-vertex v w (no d) (yes x) n = already v w x (at-0 v w x)
      at-vertex v w (no d) (no x) (yes n) = top v w d x n (at_5 v w d x n)
      at-vertex v w (no d) (no x) (no n) =
          let u : Below t s there v = record { asked = w; inner = d; less = x; low = n } in
          either v u (brought-told t (order v u) v (level v u))

      go : (f : Bool) → lengths_fit t s ≡ f → (o : Bool) → in_order_of t ≡ o → (l : Option Record) → there ≡ l → Answers t s there call
      go false f o g l e = unfit f (not-fit f)
      go true f false g l e = unordered f g (by f (request-1 t a b m g))
      go true f true g None e = missing f g e (by f (request-3 t a b m g e))
      go true f true g (Some v) e =
          at-vertex v (record { fits = f; order = g; held = e }) (ℕ_discrete v.d 0) (ℕ_discrete v.d 6) (ℕ_discrete v.n.0 12)

  pub answers-bring : (o : BringAfter) → Answers t s there o → call ≡ o
  answers-bring o (unfit f e) = not-fit f ∙ sym e
  answers-bring o (unordered f g e) = by f (request-1 t a b m g) ∙ sym e
  answers-bring o (missing f g l e) = by f (request-3 t a b m g l) ∙ sym e
  answers-bring o (boundary v w d e) = at-14 v w d ∙ sym e
  answers-bring o (already v w d e) = at-0 v w d ∙ sym e
  answers-bring o (top v w d x n e) = at_5 v w d x n ∙ sym e
  answers-bring o (met v w x k e) = met-bring v w x k ∙ sym e
  answers-bring o (done v w r g e) = goes-bring v w r g ∙ sym e

  -- what holds of t, and of what the turns leave, holds of the table after
  after : (P : List ℕ → Type 0) → P t → ((v : Record) → Below t s there v → (r : List ℕ) → Goes (all_places v) t r → P r) → P call.table
  after P h f = go bring-answers
    where
      go : Answers t s there call → P call.table
      go (unfit g e) = subst P (sym (table e)) h
      go (unordered g o e) = subst P (sym (table e)) h
      go (missing g o l e) = subst P (sym (table e)) h
      go (boundary v w d e) = subst P (sym (table e)) h
      go (already v w d e) = subst P (sym (table e)) h
      go (top v w d x n e) = subst P (sym (table e)) h
      go (met v w x k e) = subst P (sym (table e)) h
      go (done v w r g e) = subst P (sym (table e)) (f v w r g)

  pub bring-order : InOrder t → InOrder call.table
  bring-order o = after InOrder o (λ v w r g. goes_order (all_places v) t r g (level v w) o)

  -- ---- where the answer is 0
  -- those made are exactly those that every sequence reaching the goal has, in whatever room; and so none is shorter
  pub record Done (v : Record) : Type 0 where
    pub list : List Division
    pub run : Run t list call.table
    pub needed : (x : Division) → Memᴰ x list → (k : List Division) → Reaching t v.at k → Memᴰ x k
    pub exact : (x : Division) → ((k : List Division) → Reaching t v.at k → Memᴰ x k) → Memᴰ x list
    pub least : (k : List Division) → Reaching t v.at k → length list ≤ length k

  -- every sequence that reaches the goal, at the beginning
  begun : InOrder t → (p : Point) → Going t p [] t
  begun o p = record { run = here; order = o; needs = λ k y x i. absurd (Memᴰ.not-nil i) }

  module _ (v : Record) (w : Below t s there v) where
    wanted : Wanted t v.at (all_places v)
    wanted = places-wanted t v.at [] t (begun (order v w) v.at) v (held v w) w.inner w.less (λ k y. y.six)

    below-done : call.number ≡ 0 → Done v
    below-done z = go (goes-needs t v.at (all_places v) t call.table (bring-goes v w z) (level v w) [] (begun (order v w) v.at) wanted)
      where
        go : (l : List Division) × Run t l call.table × Needs t v.at l → Done v
        go (l, r, f) =
            record {
              list = l;
              run = r;
              needed = λ x i k y. f k y x i;
              exact = λ x g. g l (record {
                first = t;
                last = call.table;
                alike = record { order = order v w; same = λ p. refl };
                run = r;
                six = (risen v.at v.n.0, bring-risen v w z, refl);
              });
              least = λ k y. has-length l k (run-once t call.table l r) (f k y);
            }

    -- 16: no sequence reaches the goal, in no room; 8: every sequence that reaches it wants more slots than there are
    pub bring-refuses : call.number ≢ 0 → Refuses t v.at call.number
    bring-refuses n = meets-refuses t v.at call.number (all_places v) t (bring-met v w n) (level v w) [] (begun (order v w) v.at) wanted

  already-done : (v : Record) (w : At t s there v) → v.d ≡ 6 → Done v
  already-done v w d =
      record {
        list = [];
        run = subst (Run t []) (sym (table (at-0 v w d))) here;
        needed = λ x i k y. absurd (Memᴰ.not-nil i);
        exact = λ x f. f [] (record { first = t; last = t; alike = record { order = ordered v w; same = λ p. refl }; run = here; six = (v, own v w, d) });
        least = λ k y. omega arith;
      }

  pub bring-done : (v : Record) → there ≡ Some v → call.number ≡ 0 → Done v
  bring-done v h z = go bring-answers
    where
      other : {y : BringAfter} → call ≡ y → y.number ≡ 0
      other e = sym (number e) ∙ z

      same : (u : Record) → there ≡ Some u → Done u → Done v
      same u e d = subst Done (held_same (sym e ∙ h)) d

      go : Answers t s there call → Done v
      go (unfit f e) = let y = other e in absurd (omega arith)
      go (unordered f o e) = let y = other e in absurd (omega arith)
      go (missing f o l e) = let y = other e in absurd (omega arith)
      go (boundary u w d e) = let y = other e in absurd (omega arith)
      go (top u w d x n e) = let y = other e in absurd (omega arith)
      go (met u w x k e) = absurd (meets-some x (all_places u) t k (other e))
      go (already u w d e) = same u w.held (already-done u w d)
      go (done u w r g e) = same u w.asked.held (below-done u w z)

  -- ---- of a grown mesh
  module _ (g : Grown t) where
    pub bring-grown : Grown call.table
    bring-grown = after Grown g (λ v w r x. goes-grown (all_places v) t r x (level v w) g)

    pub bring-never-7 : call.number ≢ 7
    bring-never-7 z = go bring-answers
      where
        other : {y : BringAfter} → call ≡ y → y.number ≡ 7
        other e = sym (number e) ∙ z

        go : Answers t s there call → ⊥
        go (unfit f e) = let y = other e in omega arith
        go (unordered f o e) = let y = other e in omega arith
        go (missing f o l e) = let y = other e in omega arith
        go (boundary v w d e) = let y = other e in omega arith
        go (already v w d e) = let y = other e in omega arith
        go (top v w d x n e) = let y = other e in omega arith
        go (met v w x k e) = (grown-met t g v (held v w) w.inner w.less (level v w) x k).0 (other e)
        go (done v w r x e) = let y = other e in omega arith

    -- with so many slots 8 does not come either
    pub bring-room : (v : Record) → Below t s there v → 12 * near_most v.n.0 + 6 ≤ free_slots t → call.number ≢ 8
    bring-room v w room z =
        let n : call.number ≢ 0 = λ y. omega arith in
        let f = (grown-met t g v (held v w) w.inner w.less (level v w) call.number (bring-met v w n)).1 z in
        omega arith
