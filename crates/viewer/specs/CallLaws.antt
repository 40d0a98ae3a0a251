-- The file's parts as the code writes them, and the calls' cases: `vertex_part`, `face_part` · `vertex-part`, `face-part` how long they are, slot by slot ·
-- `faces-many` how many faces there are, `face-part-most` how long they are at most · `view-long`, `view-done` the file of its three parts ·
-- `view-disorder`, `view-torn`, `view-whole` refused with 1, with 7, or not · `put-short`, `put-done` with 13, or not.
-- Assumes nothing.
use Rattle.std.specs.Prelude.{◌≡◌, refl, Bool, true, false, not, List, [], ◌∷◌, ◌++◌, map, ℕ, zero, suc, ◌+◌, ◌*◌, ◌≤◌, ◌<◌, length}
use Rattle.std.proofs.Common.{sym, ◌∙◌, append_assoc, arith, lt-ltb, le-ltb, length-append}
use Rattle.std.proofs.Math.Path.{ap}
use Rattle.std.proofs.Math.Bool.{cond}
use Rattle.std.proofs.Math.ListN.{drop}
use Rattle.laws.specs.Choices.{unless}
use Rattle.laws.specs.Some.{some_of}
use Rattle.table.specs.Slots.{slots_of, slot_at}
use Rattle.table.specs.Order.{InOrder, in_order_of}
use Rattle.table.specs.Entries.{listed, records_of, records_below}
use Rattle.lattice.specs.declared.records.Record.{Record}
use Rattle.firsts.specs.declared.faces.Face.{Face}
use Rattle.firsts.specs.Faces.{bit, each, faces_at, same_face, different_after, faces_in}
use Rattle.counts.specs.Counts.{counts_of}
use Rattle.writers.specs.Files.{sorted, before, output_after, put_of}
use Rattle.writers.specs.Kept.{standing}
use Rattle.mesh_faces.specs.MeshFaces.{once_after, mesh_faces, torn_of}
use Rattle.viewer_lines.specs.ViewerLines.{rises, least_of, face_corners, head_text, vertex_text, face_text, texts}
use Rattle.viewer.specs.Viewer.{viewer_file, view_of}
use Rattle.mesh_faces.specs.Once.{fresh_below, fresh-all}
use Rattle.viewer_lines.specs.Backward.{texts-sort, texts-map, texts-most}
use Rattle.viewer_lines.specs.Lines.{face_line, face_most, face-most, face-small}
use Rattle.viewer.specs.FaceLaws.{mesh-four}
use Rattle.viewer_lines.specs.declared.styles.Style.{Style}

abbrev pub vertex_part : Style → List ℕ → List ℕ
vertex_part s t = texts (vertex_text s) (sorted (records_of t))

abbrev pub face_part : Style → List ℕ → List ℕ
face_part s t = texts (face_text s) (face_corners t)

pub view-parts : (s : Style) (t : List ℕ) → viewer_file s t ≡ head_text s (counts_of t) ++ (vertex_part s t ++ face_part s t)
unfolding viewer_file
view-parts s t = refl

-- the records of the slots, as the writers have them
pub standing-records : (t : List ℕ) (k : ℕ) → standing (slot_at t) k ≡ records_below t k
unfolding standing records_below
standing-records t zero = refl
standing-records t (suc k) = ap (λ (rs : List Record). rs ++ listed (slot_at t k)) (standing-records t k)

pub vertex-part : (s : Style) (t : List ℕ) (n : ℕ) → n ≡ slots_of t → length (texts (vertex_text s) (standing (slot_at t) n)) ≡ length (vertex_part s t)
vertex-part s t n e =
    ap (λ (k : ℕ). length (texts (vertex_text s) (standing (slot_at t) k))) e
    ∙ ap (λ (rs : List Record). length (texts (vertex_text s) rs)) (standing-records t (slots_of t))
    ∙ sym (texts-sort (vertex_text s) before (records_of t))

pub face-part : (s : Style) (t : List ℕ) → InOrder t → (n : ℕ) → n ≡ slots_of t → length (texts (face_line s t) (fresh_below t n)) ≡ length (face_part s t)
face-part s t o n e =
    ap (λ (k : ℕ). length (texts (face_line s t) (fresh_below t k))) e
    ∙ ap (λ (fs : List Face). length (texts (face_line s t) fs)) (fresh-all t o)
    ∙ ap length (sym (texts-map (face_text s) (least_of t) (mesh_faces t)))
    ∙ sym (texts-sort (face_text s) rises (map (least_of t) (mesh_faces t)))

-- as many as the census counts
once-many : (seen fs : List Face) → length (once_after same_face seen fs) ≡ different_after same_face seen fs
unfolding once_after different_after
once-many seen [] = refl
once-many seen (x ∷ xs) =
    let b = some_of (same_face x) seen in
    let a = length-append (cond b [] (x ∷ [])) (once_after same_face (seen ++ x ∷ []) xs) in
    omega (arith, a, one b, once-many (seen ++ x ∷ []) xs)
  where
    one : (b : Bool) → length (cond b [] (x ∷ [])) ≡ bit (not b)
    one true = refl
    one false = refl

pub faces-many : (t : List ℕ) → faces_in t ≡ length (mesh_faces t)
faces-many t = sym (once-many [] (each (faces_at t) (records_of t)))

-- and none has a longer line
pub face-part-most : (s : Style) (t : List ℕ) → InOrder t → torn_of t ≡ false → s.first ≤ 1 → length (face_part s t) ≤ face_most * faces_in t
face-part-most s t o untorn h =
    let most = texts-most (face_line s t) face_most (mesh_faces t) (λ f m. face-most s (least_of t f) h (face-small t o f (mesh-four t o untorn f m))) in
    omega (
      arith,
      ap (λ (fs : List Face). length (texts (face_line s t) fs)) (fresh-all t o),
      face-part s t o (slots_of t) refl,
      most,
      faces-many t,
    )

module _ (s : Style) (t : List ℕ) where
  pub view-long : (h v f : ℕ) → h ≡ length (head_text s (counts_of t)) → v ≡ length (vertex_part s t) → f ≡ length (face_part s t)
      → h + v + f ≡ length (viewer_file s t)
  view-long h v f a b c =
      let whole = ap length (view-parts s t) in
      let parts = length-append (head_text s (counts_of t)) (vertex_part s t ++ face_part s t) in
      omega (arith, whole, parts, length-append (vertex_part s t) (face_part s t))

  -- the head before the other two, and what was past the file
  pub view-done : (total : ℕ) (head o o₁ o₂ : List ℕ) → head ≡ head_text s (counts_of t)
      → drop (length head) o₁ ≡ vertex_part s t ++ (face_part s t ++ drop total o) → o₂ ≡ head ++ drop (length head) o₁ → o₂ ≡ viewer_file s t ++ drop total o
  view-done total head o o₁ o₂ h d e =
      let rest = drop total o in
      e ∙ ap (λ (xs : List ℕ). head ++ xs) d ∙ ap (λ (xs : List ℕ). xs ++ (vertex_part s t ++ (face_part s t ++ rest))) h
      ∙ ap (λ (xs : List ℕ). head_text s (counts_of t) ++ xs) (sym (append_assoc (vertex_part s t) (face_part s t) rest))
      ∙ sym (append_assoc (head_text s (counts_of t)) (vertex_part s t ++ face_part s t) rest)
      ∙ ap (λ (xs : List ℕ). xs ++ rest) (sym (view-parts s t))

-- ---- the call's cases

module _ (s : Style) (t out : List ℕ) where
  pub view-disorder : in_order_of t ≡ false → output_after 1 0 out ≡ view_of s t out
  unfolding view_of
  view-disorder e =
      ap (λ (b : Bool). unless b (output_after 1 0 out) (unless (not (torn_of t)) (output_after 7 0 out) (put_of (viewer_file s t) out))) (sym e)

  pub view-torn : in_order_of t ≡ true → torn_of t ≡ true → output_after 7 0 out ≡ view_of s t out
  unfolding view_of
  view-torn e h =
      ap (λ (b : Bool). unless (not b) (output_after 7 0 out) (put_of (viewer_file s t) out)) (sym h)
      ∙ ap (λ (b : Bool). unless b (output_after 1 0 out) (unless (not (torn_of t)) (output_after 7 0 out) (put_of (viewer_file s t) out))) (sym e)

  pub view-whole : in_order_of t ≡ true → torn_of t ≡ false → put_of (viewer_file s t) out ≡ view_of s t out
  unfolding view_of
  view-whole e h =
      ap (λ (b : Bool). unless (not b) (output_after 7 0 out) (put_of (viewer_file s t) out)) (sym h)
      ∙ ap (λ (b : Bool). unless b (output_after 1 0 out) (unless (not (torn_of t)) (output_after 7 0 out) (put_of (viewer_file s t) out))) (sym e)

module _ (file out : List ℕ) (total : ℕ) (long : total ≡ length file) where
  pub put-short : length out < total → output_after 13 0 out ≡ put_of file out
  unfolding put_of
  put-short h =
      ap (λ (b : Bool). cond b (output_after 13 0 out) (output_after 0 (length file) (file ++ drop (length file) out)))
      (sym (lt-ltb (length out) (length file) (omega arith)))

  pub put-done : (o' : List ℕ) → total ≤ length out → o' ≡ file ++ drop total out → output_after 0 total o' ≡ put_of file out
  unfolding put_of
  put-done o' h e =
      (λ i. output_after 0 (long i) (e i)) ∙ ap (λ (n : ℕ). output_after 0 (length file) (file ++ drop n out)) long
      ∙ ap (λ (b : Bool). cond b (output_after 13 0 out) (output_after 0 (length file) (file ++ drop (length file) out)))
      (sym (le-ltb (length out) (length file) (omega arith)))
