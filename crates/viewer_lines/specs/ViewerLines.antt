-- Document 02, ticket 5: the lines of an OFF or an OBJ file, over a `Style`: a head or none, `v` before a vertex or nothing, what stands before a face, the
-- first number.
-- `corners_of` the four numbers of a face, `least_first` turned, `face_corners` all in their order · `head_text`, `vertex_text`, `face_text` the lines. A vertex's
-- number: `numbering`'s Numbering. Each face once: `mesh_faces`' MeshFaces.
-- Assumes nothing.
use Rattle.std.specs.Prelude.{Bool, cond, ◌&&◌, ◌||◌, List, [], ◌∷◌, ◌++◌, map, ℕ, ◌+◌, eqb, ltb, leb}
use Rattle.lattice.specs.declared.records.Record.{Record}
use Rattle.mesh_faces.specs.MeshFaces.{mesh_faces}
use Rattle.counts.specs.declared.Counts.{Counts}
use Rattle.firsts.specs.declared.faces.Face.{Face}
use Rattle.text.specs.Decimal.{digits, ended, feed}
use Rattle.sorting.specs.Sorting.{sort_by}
use Rattle.coordinates.specs.Coordinates.{blank, position_text}
use Rattle.numbering.specs.Numbering.{number_of}
use Rattle.viewer_lines.specs.declared.styles.Style.{Style}
use Rattle.viewer_lines.specs.declared.corners.Corners.{Corners}

-- ---- faces

abbrev pub corners : ℕ → ℕ → ℕ → ℕ → Corners
corners a b c d = record { a = a; b = b; c = c; d = d }

-- "four vertex numbers counter-clockwise": in the face's own order round, which is that of document 01's patterns, "in counter-clockwise order"
abbrev pub corners_of : List ℕ → Face → Corners
corners_of t f = corners (number_of t f.at) (number_of t f.adjacent) (number_of t f.opposite) (number_of t f.next)

-- the same from the next one on
abbrev pub next_first : Corners → Corners
next_first q = corners q.b q.c q.d q.a

abbrev pub is_least : Corners → Bool
is_least q = leb q.a q.b && (leb q.a q.c && leb q.a q.d)

-- "smallest first"
unfoldable pub least_first : Corners → Corners
least_first q =
    cond (is_least q) q
    (cond (is_least (next_first q)) (next_first q) (cond (is_least (next_first (next_first q))) (next_first (next_first q)) (next_first (next_first (next_first q)))))

-- "faces rise by their numbers": by the first, then the second, the third, the fourth
unfoldable pub rises : Corners → Corners → Bool
rises q r =
    ltb q.a r.a
    || (eqb q.a r.a
    && (ltb q.b r.b || (eqb q.b r.b && (ltb q.c r.c || (eqb q.c r.c && ltb q.d r.d)))))

abbrev pub least_of : List ℕ → Face → Corners
least_of t f = least_first (corners_of t f)

abbrev pub face_corners : List ℕ → List Corners
face_corners t = sort_by rises (map (least_of t) (mesh_faces t))

-- ---- lines

-- the byte of `v`, and those of the word `OFF`
abbrev pub letter_v : ℕ
letter_v = 118

abbrev pub word_off : List ℕ
word_off = 79 ∷ 70 ∷ 70 ∷ []

-- "a line each with blanks between, `OFF`, the counts of vertices, faces and edges"
unfoldable pub head_text : Style → Counts → List ℕ
head_text s c =
    cond s.head
    (ended word_off feed ++ ended (digits c.vertices) blank ++ ended (digits c.faces) blank ++ ended (digits c.edges) feed) []

abbrev pub vertex_mark : Style → List ℕ
vertex_mark s = cond s.marked (letter_v ∷ blank ∷ []) []

-- "each vertex as x, y and 0.0000"
unfoldable pub vertex_text : Style → Record → List ℕ
vertex_text s r = vertex_mark s ++ position_text r.at

-- "each face as 4 and four vertex numbers"
unfoldable pub face_text : Style → Corners → List ℕ
face_text s q =
    (s.face ∷ blank ∷ [])
    ++ (ended (digits (s.first + q.a)) blank
    ++ (ended (digits (s.first + q.b)) blank ++ (ended (digits (s.first + q.c)) blank ++ ended (digits (s.first + q.d)) feed)))

-- the lines of several
unfoldable pub texts : {A : Type 0} → (A → List ℕ) → List A → List ℕ
texts text [] = []
texts text (x ∷ xs) = text x ++ texts text xs
