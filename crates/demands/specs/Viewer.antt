-- Document 02, ticket 5: what the OFF and the OBJ file are, over the definition that the promises of `write_off` and `write_obj` cite. What the two share is
-- said once, of any style: the calls are those of `off_style` and `obj_style` (`off-is`, `obj-is`).
-- `view-number`, `view-untouched` "Refusals: 1, 7, 13", and the output unchanged · `torn-query`, `query-torn` 7 exactly where the faces query of some vertex
-- answers 7 · `Viewed`, `view-done` accepted: what stands in the output · `EachFace`, `each-face` every face of the mesh once, counter-clockwise
-- (Turning), the smallest number first, rising · `Placed`, `number-place` numbers are places in the full file · `Near`, `near` each coordinate within half of a
-- ten-thousandth, and no other so near, and its digits are worth so many (`Worth`); `zero-plain` "zero has no sign" · `Head`, `off_head`, `obj-head` the
-- counts are the census's V, F and E.
-- Assumes nothing.
use Rattle.std.specs.Prelude.{◌≡◌, ◌≢◌, Bool, cond, not, ℕ, eqb, ltb, ℤ, pos, negsuc, nat_abs, Option, Some, None}
use Rattle.std.proofs.Math.Path.{refl}
use Rattle.std.proofs.Common.{sym, ap, ◌∙◌, subst, arith, eqb-true}
use Rattle.std.proofs.Math.Bool.{true, false}
use mathlib.Core.List.{List, [], ◌∷◌, ◌++◌, Memᴰ}
use Rattle.std.proofs.Math.ListN.{length, drop}
use Rattle.geometry.specs.Forms.{point-own}
use Rattle.laws.specs.Each.{not-both}
use Rattle.laws.specs.Rules.{upto}
use Rattle.laws.specs.Some.{some_of, some_at, at_some}
use Rattle.lattice.specs.Points.{normal_of}
use Rattle.lattice.specs.declared.records.Record.{Record}
use Rattle.table.specs.Order.{InOrder, in_order_of}
use Rattle.table.specs.Entries.{look_up, records_of}
use Rattle.table.specs.MapLaws.{test-order, order-test, records-looked, looked-records, lookup-valid}
use Rattle.queries.specs.Queries.{faces_of}
use Rattle.firsts.specs.Faces.{faces_at, same_face}
use Rattle.firsts.specs.FaceLaws.{SameRound}
use Rattle.firsts.specs.declared.faces.Face.{Face}
use Rattle.counts.specs.Counts.{counts_of}
use Rattle.counts.specs.declared.Counts.{Counts}
use Rattle.text.specs.Decimal.{digits, ended, feed}
use Rattle.text.specs.LineOrder.{close}
use Rattle.sorting.specs.SortLaws.{Rising, sort-length}
use Rattle.writers.specs.Files.{before, sorted, OutputAfter, output_after, put_of}
use Rattle.coordinates.specs.Coordinates.{across_of, near_x, near_y, coordinate, decimals, flat, blank, position_text}
use Rattle.coordinates.specs.TextLaws.{Worth, decimals-worth}
use Rattle.coordinates.specs.NearLaws.{InsideX, InsideY, x-inside, y-inside, x-one, y-one, x-zero, y-zero}
use Rattle.mesh_faces.specs.MeshFaces.{mesh_faces}
use Rattle.numbering.specs.Numbering.{how_many}
use Rattle.viewer_lines.specs.ViewerLines.{corners_of, least_of, face_corners, head_text, vertex_mark, vertex_text, face_text, texts}
use Rattle.viewer.specs.Viewer.{off_style, obj_style}
use Rattle.mesh_faces.specs.MeshFaces.{torn_at, torn_of}
use Rattle.viewer.specs.Viewer.{viewer_file, view_of, write_off_of, write_obj_of}
use Rattle.mesh_faces.specs.Once.{whole_corner, torn-star}
use Rattle.viewer.specs.FaceLaws.{Differ, Least, Rises, mesh-face, face-mesh, mesh-apart, least-round, least_first_lem, corners-rise, corners-once, corners-many}
use Rattle.viewer_lines.specs.declared.styles.Style.{Style}
use Rattle.viewer_lines.specs.declared.corners.Corners.{Corners}
use Rattle.demands.specs.Numbers.{Rule, ◌⇒◌, first_of, faces-number, query_rules}
use Rattle.demands.specs.Forms.{valid-normal}
use Rattle.demands.specs.Turning.{LeftFace, face-left}
pub use Rattle.demands.specs.Turning.{Left, LeftRound, left-round}
pub use Rattle.viewer.specs.Places.{Placed, number-place}

-- ---- the faces

-- the four numbers of each line of a list: the faces of the mesh
pub record EachFace (t : List ℕ) (qs : List Corners) : Type 0 where
  -- "each face": these are faces of vertices, every face of a vertex is the same as one of them, and no two of them are the same
  pub faces : List Face
  pub of-vertices : (f : Face) → Memᴰ f faces → (v : Record) × Memᴰ v (records_of t) × Memᴰ f (faces_at t v)
  pub all : (v : Record) (f : Face) → Memᴰ v (records_of t) → Memᴰ f (faces_at t v) → some_of (same_face f) faces ≡ true
  pub different : Rising Differ faces
  -- the lines are theirs, each as often
  pub once : (test : Corners → Bool) → how_many test qs ≡ how_many (λ f. test (least_of t f)) faces
  -- a line has the numbers of the face in its own order round, read from one of its vertices on
  pub turned : (f : Face) → (g : Face) × SameRound f g × (least_of t f ≡ corners_of t g)
  -- "counter-clockwise": that order turns left at each vertex, from whichever it is read (`left-round`)
  pub left : (f : Face) → Memᴰ f faces → LeftFace f
  -- "smallest first"
  pub smallest : (f : Face) → Least (least_of t f)
  -- "faces rise by their numbers"
  pub rise : Rising Rises qs

pub each-face : (t : List ℕ) → InOrder t → torn_of t ≡ false → EachFace t (face_corners t)
each-face t o untorn = record {
  faces = mesh_faces t;
  of-vertices = mesh-face t;
  all = face-mesh t;
  different = mesh-apart t;
  once = corners-once t;
  turned = least-round t;
  left = λ f m. let (v, n, k) = mesh-face t f m in face-left t o v n f k;
  smallest = λ f. least_first_lem (corners_of t f);
  rise = corners-rise t o untorn;
}

-- ---- the coordinates

-- "each lies within half of a ten-thousandth of its exact value": x and y are whole numbers of ten-thousandths, so near, and no others are
pub record Near (s : Style) (r : Record) : Type 0 where
  pub x : ℕ
  pub y : ℕ
  pub text : vertex_text s r ≡ vertex_mark s ++ (coordinate (across_of r.at) x ++ (coordinate r.at.b y ++ flat))
  pub x-near : InsideX (nat_abs (across_of r.at)) r.at.m.0 x
  pub x-only : (n : ℕ) → InsideX (nat_abs (across_of r.at)) r.at.m.0 n → n ≡ x
  pub y-near : InsideY (nat_abs r.at.b) r.at.m.0 y
  pub y-only : (n : ℕ) → InsideY (nat_abs r.at.b) r.at.m.0 n → n ≡ y
  -- "four decimals": what the digits of `coordinate` are worth
  pub x-worth : Worth x (decimals x)
  pub y-worth : Worth y (decimals y)
  -- "zero has no sign": what is written as zero is zero, and `zero-plain`
  pub x-plain : x ≡ 0 → across_of r.at ≡ pos 0
  pub y-plain : y ≡ 0 → r.at.b ≡ pos 0

size-zero : (z : ℤ) → nat_abs z ≡ 0 → z ≡ pos 0
size-zero (pos n) e = ap pos e
size-zero (negsuc n) e = absurd (omega arith)

pub near : (s : Style) (t : List ℕ) → InOrder t → (r : Record) → Memᴰ r (records_of t) → Near s r
unfolding vertex_text position_text
near s t o r m =
    let across = nat_abs (across_of r.at) in
    let up = nat_abs r.at.b in
    let depth = r.at.m.0 in
    let c = close r (lookup-valid t o r.at r (records-looked t o r m)) in
    record {
      x = near_x across depth;
      y = near_y up depth;
      text = refl;
      x-near = x-inside across depth;
      x-only = λ n i. x-one across depth n (near_x across depth) i (x-inside across depth);
      y-near = y-inside up depth c.b;
      y-only = λ n i. y-one up depth n (near_y up depth) i (y-inside up depth c.b);
      x-worth = decimals-worth (near_x across depth);
      y-worth = decimals-worth (near_y up depth);
      x-plain = λ e. size-zero (across_of r.at) (x-zero across depth c.m (subst (InsideX across depth) e (x-inside across depth)));
      y-plain = λ e. size-zero r.at.b (y-zero up depth c.m (subst (InsideY up depth) e (y-inside up depth c.b)));
    }

pub zero-plain : (n : ℕ) → coordinate (pos 0) n ≡ decimals n
unfolding coordinate
zero-plain n = refl

-- ---- the head

-- the counts are the census's; so many vertices and faces follow
pub record Head (t : List ℕ) : Type 0 where
  pub vertices : (counts_of t).vertices ≡ length (sorted (records_of t))
  pub faces : (counts_of t).faces ≡ length (face_corners t)

pub head : (t : List ℕ) → Head t
unfolding counts_of
head t = record { vertices = sym (sort-length before (records_of t)); faces = corners-many t }

-- "`OFF`, the counts of vertices, faces and edges"
pub off_head : (c : Counts)
    → head_text off_style c
    ≡ (79 ∷ 70 ∷ 70 ∷ feed ∷ []) ++ ended (digits c.vertices) blank ++ ended (digits c.faces) blank ++ ended (digits c.edges) feed
unfolding head_text
off_head c = refl

-- "no head"
pub obj-head : (c : Counts) → head_text obj_style c ≡ []
unfolding head_text
obj-head c = refl

-- ---- the calls

pub off-is : (t out : List ℕ) → write_off_of t out ≡ view_of off_style t out
off-is t out = refl

pub obj-is : (t out : List ℕ) → write_obj_of t out ≡ view_of obj_style t out
obj-is t out = refl

module _ (s : Style) (t out : List ℕ) where
  abbrev file : List ℕ
  file = viewer_file s t

  -- the call by its three tests
  abbrev by_tests : Bool → Bool → Bool → OutputAfter
  by_tests o w b =
      cond o (cond (not w) (cond b (output_after 13 0 out) (output_after 0 (length file) (file ++ drop (length file) out))) (output_after 7 0 out))
      (output_after 1 0 out)

  -- "Refusals: 1, 7, 13."
  abbrev pub view_rules : List Rule
  view_rules = not (in_order_of t) ⇒ 1 ∷ torn_of t ⇒ 7 ∷ ltb (length out) (length file) ⇒ 13 ∷ []

  pub view-number : (view_of s t out).number ≡ first_of view_rules
  unfolding view_of put_of
  view-number = go (in_order_of t) (torn_of t) (ltb (length out) (length file))
    where
      go : (o w b : Bool) → (by_tests o w b).number ≡ first_of (not o ⇒ 1 ∷ w ⇒ 7 ∷ b ⇒ 13 ∷ [])
      go false w b = refl
      go true true b = refl
      go true false true = refl
      go true false false = refl

  pub view-untouched : (view_of s t out).number ≢ 0 → ((view_of s t out).out ≡ out) × ((view_of s t out).bytes ≡ 0)
  unfolding view_of put_of
  view-untouched = go (in_order_of t) (torn_of t) (ltb (length out) (length file))
    where
      go : (o w b : Bool) → (by_tests o w b).number ≢ 0 → ((by_tests o w b).out ≡ out) × ((by_tests o w b).bytes ≡ 0)
      go false w b n = (refl, refl)
      go true true b n = (refl, refl)
      go true false true n = (refl, refl)
      go true false false n = absurd (n refl)

  -- accepted: head, vertices and faces stand in the output, and past them it is as found
  pub record Viewed : Type 0 where
    pub order : InOrder t
    pub untorn : torn_of t ≡ false
    pub bytes : (view_of s t out).bytes ≡ length file
    pub written : (view_of s t out).out ≡ file ++ drop (length file) out
    pub parts : file ≡ head_text s (counts_of t) ++ (texts (vertex_text s) (sorted (records_of t)) ++ texts (face_text s) (face_corners t))
    pub counts : Head t
    pub places : (r : Record) → Memᴰ r (records_of t) → Placed t r
    pub coordinates : (r : Record) → Memᴰ r (records_of t) → Near s r
    pub faces : EachFace t (face_corners t)

  pub view-done : (view_of s t out).number ≡ 0 → Viewed
  unfolding view_of put_of viewer_file
  view-done n =
      let (h, w, b, x) = go (in_order_of t) (torn_of t) (ltb (length out) (length file)) n in
      let o = test-order t h in
      record {
        order = o;
        untorn = w;
        bytes = b;
        written = x;
        parts = refl;
        counts = head t;
        places = number-place t o;
        coordinates = near s t o;
        faces = each-face t o w;
      }
    where
      go : (o w b : Bool) → (by_tests o w b).number ≡ 0
          → (o ≡ true) × (w ≡ false) × ((by_tests o w b).bytes ≡ length file) × ((by_tests o w b).out ≡ file ++ drop (length file) out)
      go false w b n = absurd (omega arith)
      go true true b n = absurd (omega arith)
      go true false true n = absurd (omega arith)
      go true false false n = (refl, refl, refl, refl)

-- ---- 7

module _ (t : List ℕ) (o : InOrder t) where
  -- the faces query of a vertex
  asked : (a b : ℤ) (m : ℕ) (r : Record) → look_up t (normal_of a b m) ≡ Some r
      → (faces_of t a b m).number ≡ first_of (eqb r.d 0 ⇒ 14 ∷ torn_at t r ⇒ 7 ∷ [])
  asked a b m r e =
      faces-number t a b m
      ∙ (λ i. first_of (query_rules t (e i) (torn_at t)))
      ∙ ap (λ (x : Bool). first_of (not x ⇒ 1 ∷ eqb r.d 0 ⇒ 14 ∷ torn_at t r ⇒ 7 ∷ [])) (order-test t o)

  -- a boundary vertex is not torn
  torn-inner : (r : Record) → torn_at t r ≡ true → eqb r.d 0 ≡ false
  torn-inner r h = go (eqb r.d 0) refl
    where
      go : (b : Bool) → eqb r.d 0 ≡ b → b ≡ false
      go false e = refl
      go true e = absurd (not-both (sym (torn-star t r) ∙ h) (ap (λ (d : ℕ). not (upto d (whole_corner t r))) (eqb-true r.d 0 e)))

  pub torn-query : torn_of t ≡ true → (r : Record) × Memᴰ r (records_of t) × ((faces_of t r.at.a r.at.b r.at.m.0).number ≡ 7)
  unfolding torn_of
  torn-query h =
      let (r, m, w) = some_at (torn_at t) (records_of t) h in
      let l = records-looked t o r m in
      let form = point-own r.at (valid-normal r (lookup-valid t o r.at r l)) in (
        r,
        m,
        asked r.at.a r.at.b r.at.m.0 r (ap (look_up t) form ∙ l)
            ∙ (λ i. first_of (torn-inner r w i ⇒ 14 ∷ w i ⇒ 7 ∷ [])),
      )

  pub query-torn : (a b : ℤ) (m : ℕ) → (faces_of t a b m).number ≡ 7 → torn_of t ≡ true
  unfolding torn_of
  query-torn a b m n = go (look_up t (normal_of a b m)) refl
    where
      held : (r : Record) → look_up t (normal_of a b m) ≡ Some r → (z w : Bool) → torn_at t r ≡ w → first_of (z ⇒ 14 ∷ w ⇒ 7 ∷ []) ≡ 7 → torn_of t ≡ true
      held r e true w h k = absurd (omega arith)
      held r e false false h k = absurd (omega arith)
      held r e false true h k = at_some (torn_at t) (records_of t) r (looked-records t o (normal_of a b m) r e) h

      absent : (b : Bool) → first_of (b ⇒ 1 ∷ true ⇒ 3 ∷ false ⇒ 14 ∷ false ⇒ 7 ∷ []) ≡ 7 → ⊥
      absent true k = omega arith
      absent false k = omega arith

      go : (l : Option Record) → look_up t (normal_of a b m) ≡ l → torn_of t ≡ true
      go None e =
          absurd (absent (not (in_order_of t)) (sym (λ i. first_of (query_rules t (e i) (torn_at t))) ∙ sym (faces-number t a b m) ∙ n))
      go (Some r) e = held r e (eqb r.d 0) (torn_at t r) refl (sym (asked a b m r e) ∙ n)
