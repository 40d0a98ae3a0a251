-- The plan holds together: what a grown table's stars, faces and queries say of each other. Document 02, ticket 8.
-- `face-everywhere` a face that an internal vertex makes is made by each of its internal vertices, read from that one on · `named_back` an internal neighbour
-- names the vertex back: the two stand next to each other in a face · `corner-faced` no corner is without its face · `faces-given`, `faces-untorn` no faces
-- query answers 7 (no neighbours query: `neighbours-untorn` of grown; no subdivision: `never-torn`).
-- Assumes nothing.
use Rattle.std.specs.Prelude.{◌≡◌, refl, ◌≢◌, Bool, true, cond, ◌&&◌, List, ℕ, ◌<◌, ℤ, Option, Some, None}
use Rattle.std.proofs.Common.{sym, ◌∙◌, subst, arith, eq-eqb, ne_eqb}
use Rattle.std.proofs.Math.Path.{ap}
use Rattle.std.proofs.Math.Decide.{ℕ_discrete}
use Rattle.laws.specs.Choices.{of-true}
use Rattle.laws.specs.Each.{each-upto}
use Rattle.lattice.specs.Points.{normal_of}
use Rattle.lattice.specs.Stars.{adjacent_at, refused}
use Rattle.lattice.specs.declared.points.Point.{Point}
use Rattle.lattice.specs.declared.records.Record.{Record}
use Rattle.lattice.specs.declared.stars.Answer.{Answer}
use Rattle.geometry.specs.SubdivisionLaws.{sited}
use Rattle.growth.specs.Normal.{Pt}
use Rattle.growth.specs.Growth.{grown-closed, grown-neighbours}
use Rattle.growth.specs.GrownLaws.{Closed}
use Rattle.growth.specs.Link.{at, record_is, good-in}
use Rattle.table.specs.Entries.{look_up, is_held, holds}
use Rattle.table.specs.MapLaws.{lookup-point, lookup-valid, order-test}
use Rattle.mesh.specs.Grown.{Grown}
use Rattle.queries.specs.Queries.{chosen_at, is_point, adjacents_there, corners_there, faces_given, faces_at, query_looked, faces_of}
use Rattle.queries.specs.QueryLaws.{query-looked}
use Rattle.local.specs.Sheet.{as_option, sheet_of}
use Rattle.grown.specs.Steps.{sheet-held}
use Rattle.grown.specs.Tables.{grown-sheet}
use Rattle.firsts.specs.Faces.{next_place, turned}
use Rattle.firsts.specs.Earlier.{face_on}
use Rattle.firsts.specs.FaceLaws.{Makes, SameRound, straight, once, twice, thrice, next-below}
use Rattle.firsts.specs.declared.faces.Face.{Face}
use Rattle.together.specs.Corners.{Mesh}
use Rattle.together.specs.Faces.{cell_face, Drawn, found, Shows, seen}

-- ---- readings of a face, one after the other
pub then-round : (f g h : Face) → SameRound f g → SameRound g h → SameRound f h
then-round f g h r s = go r
  where
    shift : (f : Face) → SameRound (turned f) h → SameRound f h
    shift f (straight e) = once e
    shift f (once e) = twice e
    shift f (twice e) = thrice e
    shift f (thrice e) = straight e

    from : (x : Face) → x ≡ g → SameRound x h
    from x e = subst (λ (x : Face). SameRound x h) (sym e) s

    go : SameRound f g → SameRound f h
    go (straight e) = from f e
    go (once e) = shift f (from (turned f) e)
    go (twice e) = shift f (shift (turned f) (from (turned (turned f)) e))
    go (thrice e) = shift f (shift (turned f) (shift (turned (turned f)) (from (turned (turned (turned f))) e)))

-- a table of a mesh: the point of a record, as a normalised one
record-point : (t : List ℕ) (M : Mesh) → Drawn t M → (v : Record) → look_up t v.at ≡ Some v → Pt
record-point t M D v e = record { at = v.at; normal = (sited v (of-true (lookup-valid t D.order v.at v e))).normal }

-- a face that an internal vertex makes is that of a live cell
pub makes-seen : (t : List ℕ) (M : Mesh) (D : Drawn t M) (v : Record) → look_up t v.at ≡ Some v → v.d ≢ 0 → (f : Face) (m : Makes t v f)
    → (s : Shows t M D v m.corner) × SameRound (cell_face M s.k) f
unfolding record-point
makes-seen t M D v e n f m =
    let s = seen t M D (record-point t M D v e) v e n m.corner m.below in
    (s, subst (λ (g : Face). SameRound (cell_face M s.k) g) (ap (face_on v m.corner) (one s.opposite (sym s.chosen ∙ m.chosen)) ∙ m.is) s.reads)
  where
    one : (p : Point) → ◌≡◌ {A = Option Point} (Some p) (Some m.opposite) → p ≡ m.opposite
    one p h = ap pick h
      where
        pick : Option Point → Point
        pick (Some x) = x
        pick None = p

module _ (t : List ℕ) (g : Grown t) where
  closed : Closed (sheet_of t)
  closed = grown-closed (sheet_of t) (grown-sheet t g)

  abbrev M : Mesh
  M = record { H = closed.H; c = at closed.c; good = good-in closed.c closed.H closed.good }

  drawn : Drawn t M
  drawn = record { order = g.order; is = λ q. closed.is q.at ∙ record_is closed.c closed.H q }

  -- "every face found from an internal vertex is found, with the same four points in the same turning order, from each of its internal vertices"
  pub face-everywhere : (v : Record) → look_up t v.at ≡ Some v → v.d ≢ 0 → (f : Face) → Makes t v f
      → (h : Face) → SameRound f h → (u : Record) → look_up t h.at ≡ Some u → u.d ≢ 0 → Makes t u h
  face-everywhere v e n f m h r u x k =
      let (s, q) = makes-seen t M drawn v e n f m in
      found t M drawn s.k s.live h (then-round (cell_face M s.k) f h q r) u x k

  corner-shows : (v : Record) (p : Point) → look_up t p ≡ Some v → v.d ≢ 0 → (j : ℕ) → j < v.d → Shows t M drawn v j
  unfolding record-point
  corner-shows v p e n j h =
      let own : look_up t v.at ≡ Some v = ap (look_up t) (lookup-point t g.order p v e) ∙ e in
      seen t M drawn (record-point t M drawn v own) v own n j h

  -- no corner of an internal vertex is without its face
  pub corner-faced : (v : Record) → look_up t v.at ≡ Some v → v.d ≢ 0 → (j : ℕ) → j < v.d → (f : Face) × (m : Makes t v f) × (m.corner ≡ j)
  corner-faced v e n j h =
      let s = corner-shows v v.at e n j h in
      (face_on v j s.opposite, record { corner = j; below = h; opposite = s.opposite; chosen = s.chosen; is = refl }, refl)

  -- "whenever an internal vertex names an internal neighbour, that neighbour names it back"
  pub named_back : (v u : Record) → look_up t v.at ≡ Some v → v.d ≢ 0 → (j : ℕ) → j < v.d → look_up t (adjacent_at v j) ≡ Some u → u.d ≢ 0
      → (i : ℕ) × (i < u.d) × (adjacent_at u i ≡ v.at)
  unfolding corner-faced
  named_back v u e n j h x k =
      let (f, m, _) = corner-faced v e n j h in
      let w = face-everywhere v e n f m (turned f) (once refl) u x k in
      (next_place u.d w.corner, next-below u.d w.corner w.below, ap (λ (h : Face). h.next) w.is)

  -- ---- "no query answers 7"
  module _ (a b : ℤ) (m : ℕ) where
    asked : (l : Option Record) → look_up t (normal_of a b m) ≡ l → query_looked (faces_at t) l ≡ faces_of t a b m
    unfolding faces_of
    asked l e = query-looked (faces_at t) t a b m (order-test t g.order) l e

    adjacents : (v : Record) → look_up t (normal_of a b m) ≡ Some v → v.d ≢ 0 → adjacents_there t v ≡ true
    unfolding adjacents_there
    adjacents v e n =
        let own : sheet_of t v.at ≡ Some v = ap as_option (ap (look_up t) (lookup-point t g.order (normal_of a b m) v e) ∙ e) in
        each-upto (λ j. holds t (adjacent_at v j)) v.d
        (λ j h. let (u, x) = grown-neighbours (sheet_of t) (grown-sheet t g) v own n j h in ap is_held (sheet-held (look_up t (adjacent_at v j)) u x))

    corners : (v : Record) → look_up t (normal_of a b m) ≡ Some v → v.d ≢ 0 → corners_there t v ≡ true
    unfolding corners_there
    corners v e n = each-upto (λ j. is_point (chosen_at t v j)) v.d (λ j h. ap is_point (corner-shows v (normal_of a b m) e n j h).chosen)

    pub faces-given : (v : Record) → look_up t (normal_of a b m) ≡ Some v → v.d ≢ 0 → faces_of t a b m ≡ faces_given t v
    faces-given v e n =
        sym (asked (Some v) e)
        ∙ ap (λ (z : Bool). cond z (refused 14) (faces_at t v)) (ne_eqb v.d 0 n)
        ∙ (λ i. cond (adjacents v e n i && corners v e n i) (faces_given t v) (refused 7))

    pub faces-untorn : (faces_of t a b m).number ≢ 7
    faces-untorn = looked (look_up t (normal_of a b m)) refl
      where
        is : {x : Answer} → x ≡ faces_of t a b m → x.number ≡ (faces_of t a b m).number
        is h = ap (λ (x : Answer). x.number) h

        boundary : (v : Record) → look_up t (normal_of a b m) ≡ Some v → Dec (v.d ≡ 0) → (faces_of t a b m).number ≢ 7
        boundary v e (yes z) k =
            let x = is (sym (ap (λ (z : Bool). cond z (refused 14) (faces_at t v)) (eq-eqb v.d 0 z)) ∙ asked (Some v) e) in
            omega arith
        boundary v e (no n) k = let x = is (sym (faces-given v e n)) in omega arith

        looked : (l : Option Record) → look_up t (normal_of a b m) ≡ l → (faces_of t a b m).number ≢ 7
        looked None e k = let x = is (asked None e) in omega arith
        looked (Some v) e k = boundary v e (ℕ_discrete v.d 0) k
