-- `viewer::write_body` meets its promise: the vertices' keys, sorted, the faces' keys and their lines past these, the vertices' lines. Assumes nothing.
use Rattle.std.proofs.Common.{false, ◌≡◌, refl, sym, ◌∙◌, ap, subst, List, ◌++◌, ℕ, ◌+◌, ◌*◌, ◌-◌, ◌≤◌, ◌<◌, arith, ltb, length, take, drop}
use Rattle.table.specs.Slots.{slots_of, slot_at}
use Rattle.table.specs.Order.{InOrder}
use Rattle.firsts.specs.Faces.{faces_in}
use Rattle.firsts.specs.declared.faces.Face.{Face}
use Rattle.sorting.specs.Sorting.{sort_by, key_width, Sorts}
use Rattle.writers.specs.KeptLaws.{Filled}
use Rattle.mesh_faces.specs.MeshFaces.{mesh_faces, torn_of}
use Rattle.mesh_faces.specs.Once.{fresh_below, fresh-all}
use Rattle.numbering.specs.Keyed.{keys_below}
use Rattle.numbering.specs.Ranks.{keys_of}
use Rattle.numbering.specs.Guesses.{face_least, Guessed}
use Rattle.viewer_lines.specs.ViewerLines.{texts}
use Rattle.viewer_lines.specs.Backward.{texts-sort}
use Rattle.viewer_lines.specs.Lines.{key_line, Queue}
use Rattle.viewer_lines.specs.declared.styles.Style.{Style}
use Rattle.viewer.specs.CallLaws.{vertex_part, face_part}
use Rattle.viewer.specs.BodyLaws.{FacesIn, face_keys, vertices-are, Body, many, body-keys, body-least, Arranged, body-arranged, body-room}
use Rattle.viewer.specs.BodyLaws.{body-from, body-long, body-queue, body-lines-end, body_same, body_kept, body-lines}
use Rattle.viewer.proofs.write_body.Goals as goal
use Rattle.viewer.proofs.write_body.Goals.{After-put_faces, After-write_sorted-end}

-- past the faces' lines
abbrev total_of : Style → List ℕ → ℕ → ℕ
total_of s t start = start + length (face_part s t)

body : (s : Style) (t : List ℕ) (start : ℕ) (o : List ℕ) → InOrder t → torn_of t ≡ false → length (vertex_part s t) ≤ start
    → total_of s t start ≤ length o → Body s t start (total_of s t start) o
body s t start o a b c d = record { order = a; untorn = b; vertices = c; faces = refl; room = d }

filled : (t o o₁ : List ℕ) (n k : ℕ) → n ≡ slots_of t → Filled o (keys_below (slot_at t) n) o₁ k → Filled o (keys_of t) o₁ k
filled t o o₁ n k e f = subst (λ (n : ℕ). Filled o (keys_below (slot_at t) n) o₁ k) e f

-- past the guesses
arranged : (s : Style) (t : List ℕ) (start n k base faces : ℕ) (o o₁ o₂ o₃ : List ℕ) (b : Body s t start (total_of s t start) o) → n ≡ slots_of t
    → Filled o (keys_below (slot_at t) n) o₁ k → Sorts o₁ k o₂ → Guessed o₂ k base n o₃ → (k < base → key_width * (base + n) ≤ start + face_least * faces)
    → faces ≡ faces_in t → Arranged b o₃ k
arranged s t start n k base faces o o₁ o₂ o₃ b e f z g fit m =
    body-arranged b base n (filled t o o₁ n k e f) z g (λ l. let h = fit l in omega (arith, h, body-least b, m))

-- the faces of all slots
mesh : (t : List ℕ) (n : ℕ) → InOrder t → n ≡ slots_of t → fresh_below t n ≡ mesh_faces t
mesh t n o e = ap (fresh_below t) e ∙ fresh-all t o

pub put_vertices-vertices-requires-clause-n_in_bounds : goal.put_vertices-vertices-requires-clause-n_in_bounds
put_vertices-vertices-requires-clause-n_in_bounds c =
    let a = c.args in
    let p = c.requires in
    let b = body a.s a.t.now a.start a.out.now p.in_order.0 p.t_value.0 p.t_len_bound.0 p.t_len_bound.1 in
    omega (arith, body-keys b, ap (λ (n : ℕ). length (keys_below (slot_at a.t.now) n)) p.in_order.1)

pub sort-requires : goal.sort-requires
sort-requires c =
    let a = c.args in
    let p = c.requires in
    let b = body a.s a.t.now a.start a.out.now p.in_order.0 p.t_value.0 p.t_len_bound.0 p.t_len_bound.1 in
    let v = c.put_vertices-vertices in
    let f = filled a.t.now a.out.now v.new.out a.n v.result p.in_order.1 v.ensures in
    omega (arith, body-keys b, f.count, f.long)

pub base_of-base-requires : goal.base_of-base-requires
base_of-base-requires c =
    let a = c.args in
    let p = c.requires in
    let b = body a.s a.t.now a.start a.out.now p.in_order.0 p.t_value.0 p.t_len_bound.0 p.t_len_bound.1 in
    let v = c.put_vertices-vertices in
    let f = filled a.t.now a.out.now v.new.out a.n v.result p.in_order.1 v.ensures in (
      omega (arith, many b, f.count),
      (omega (arith, p.in_order.1, p.in_order.0.fits.most), omega (arith, body-least b, p.t_value_2.1, b.room)),
    )

pub put_guesses-requires : goal.put_guesses-requires
put_guesses-requires c =
    let a = c.args in
    let p = c.requires in
    let b = body a.s a.t.now a.start a.out.now p.in_order.0 p.t_value.0 p.t_len_bound.0 p.t_len_bound.1 in
    let v = c.put_vertices-vertices in
    let f = filled a.t.now a.out.now v.new.out a.n v.result p.in_order.1 v.ensures in
    (omega (arith, body-keys b, f.count, f.long, c.sort.ensures.long), omega (arith, p.in_order.1, p.in_order.0.fits.most))

pub put_faces-requires-clause-stand : goal.put_faces-requires-clause-stand
put_faces-requires-clause-stand c =
    let a = c.args in
    let p = c.requires in
    let b = body a.s a.t.now a.start a.out.now p.in_order.0 p.t_value.0 p.t_len_bound.0 p.t_len_bound.1 in
    let v = c.put_vertices-vertices in
    (arranged a.s a.t.now a.start a.n v.result c.base_of-base.result a.many a.out.now v.new.out c.sort.new.out c.put_guesses.new.out b p.in_order.1 v.ensures
    c.sort.ensures c.put_guesses.ensures c.base_of-base.ensures p.t_value_2.1).stand

pub put_faces-requires-clause-n_in_bounds : goal.put_faces-requires-clause-n_in_bounds
put_faces-requires-clause-n_in_bounds c =
    let a = c.args in
    let p = c.requires in
    let b = body a.s a.t.now a.start a.out.now p.in_order.0 p.t_value.0 p.t_len_bound.0 p.t_len_bound.1 in
    let v = c.put_vertices-vertices in
    let r = arranged a.s a.t.now a.start a.n v.result c.base_of-base.result a.many a.out.now v.new.out c.sort.new.out c.put_guesses.new.out b p.in_order.1
    v.ensures c.sort.ensures c.put_guesses.ensures c.base_of-base.ensures p.t_value_2.1 in
    omega (arith, body-room b r, ap length (mesh a.t.now a.n p.in_order.0 p.in_order.1))

-- past the faces' keys
module _ (c : After-put_faces) where
  abbrev t : List ℕ
  t = c.args.t.now

  abbrev o : List ℕ
  o = c.args.out.now

  abbrev s : Style
  s = c.args.s

  abbrev k : ℕ
  k = c.put_vertices-vertices.result

  abbrev total : ℕ
  total = total_of s t c.args.start

  whole : Body s t c.args.start total o
  whole = let p = c.requires in body s t c.args.start o p.in_order.0 p.t_value.0 p.t_len_bound.0 p.t_len_bound.1

  laid : Arranged whole c.put_guesses.new.out k
  laid =
      let v = c.put_vertices-vertices in
      arranged s t c.args.start c.args.n k c.base_of-base.result c.args.many o v.new.out c.sort.new.out c.put_guesses.new.out whole c.requires.in_order.1
      v.ensures c.sort.ensures c.put_guesses.ensures c.base_of-base.ensures c.requires.t_value_2.1

  put : FacesIn t c.put_guesses.new.out k (mesh_faces t) c.put_faces.new.out c.put_faces.result
  put =
      subst (λ (fs : List Face). FacesIn t c.put_guesses.new.out k fs c.put_faces.new.out c.put_faces.result)
      (mesh t c.args.n c.requires.in_order.0 c.requires.in_order.1) c.put_faces.ensures

  from : key_width * k ≤ c.args.start
  from = body-from whole laid put

  long : length c.put_faces.new.out ≡ length o
  long = body-long whole laid put

  -- where the part's lines end
  ending : total - key_width * k ≡ c.args.start - key_width * k + length (texts (key_line s) (face_keys t))
  ending = omega (arith, body-lines-end whole laid put, texts-sort (key_line s) ltb (face_keys t))

  abbrev part : List ℕ
  part = let o₃ = c.put_faces.new.out in take (length o₃ - key_width * k) (drop (key_width * k) o₃)

  queue : Queue s (face_keys t) part (c.put_faces.result - k) (c.args.start - key_width * k + length (texts (key_line s) (face_keys t)))
  queue = subst (λ (e : ℕ). Queue s (face_keys t) part (c.put_faces.result - k) e) ending (body-queue whole laid put)

  -- past the faces' lines
  module _ (p : List ℕ) (end : ℕ)
      (sorted : (ks : List ℕ) → Queue s ks part (c.put_faces.result - k) (c.args.start - key_width * k + length (texts (key_line s) ks))
      → (end ≡ c.args.start - key_width * k + length (texts (key_line s) ks))
      × (drop (c.args.start - key_width * k) p
      ≡ texts (key_line s) (sort_by ltb ks) ++ drop (c.args.start - key_width * k + length (texts (key_line s) ks)) part)) where
    lines : drop (c.args.start - key_width * k) p ≡ texts (key_line s) (sort_by ltb (face_keys t)) ++ drop (total - key_width * k) part
    lines =
        (sorted (face_keys t) queue).1
        ∙ ap (λ (n : ℕ). texts (key_line s) (sort_by ltb (face_keys t)) ++ drop n part) (sym ending)

    ends : key_width * k + end ≡ total
    ends = omega (arith, (sorted (face_keys t) queue).0, ending, from)

pub overflow_mul-from : goal.overflow_mul-from
overflow_mul-from c = omega (arith, from (goal.at.overflow_mul-from c).After-put_faces)

pub slice_bounds-write_sorted-count : goal.slice_bounds-write_sorted-count
slice_bounds-write_sorted-count c =
    let f = (goal.at.slice_bounds-write_sorted-count c).After-put_faces in
    omega (arith, from f, long f, (whole f).faces, (whole f).room)

pub slice_bounds-write_sorted-start : goal.slice_bounds-write_sorted-start
slice_bounds-write_sorted-start c =
    let f = (goal.at.slice_bounds-write_sorted-start c).After-put_faces in
    omega (arith, from f, long f, (whole f).faces, (whole f).room)

pub overflow_sub-start : goal.overflow_sub-start
overflow_sub-start c = let f = (goal.at.overflow_sub-start c).After-put_faces in omega (arith, from f, (whole f).faces)

pub write_sorted-end-requires : goal.write_sorted-end-requires
write_sorted-end-requires c = let f = (goal.at.write_sorted-end-requires c).After-put_faces in (c.requires.t_value.1, (face_keys (t f), queue f))

pub write_vertices-requires-clause-in_order : goal.write_vertices-requires-clause-in_order
write_vertices-requires-clause-in_order c =
    let f = (goal.at.write_vertices-requires-clause-in_order c).After-put_faces in
    let x = c.write_sorted-end in
    ((whole f).order, body_kept (whole f) (laid f) (put f) x.new.out x.ensures.out_len_unchanged (lines f x.new.out x.result x.ensures.by_index))

pub write_vertices-requires-clause-t_len_bound : goal.write_vertices-requires-clause-t_len_bound
write_vertices-requires-clause-t_len_bound c =
    let f = (goal.at.write_vertices-requires-clause-t_len_bound c).After-put_faces in
    let x = c.write_sorted-end in
    let b = whole f in
    let same = body_same b (laid f) (put f) x.new.out x.ensures.out_len_unchanged (lines f x.new.out x.result x.ensures.by_index) in
    (omega (arith, ap length (vertices-are (s f) (t f) b.order), b.vertices), omega (arith, same, b.faces, b.room))

pub overflow_add-result : goal.overflow_add-result
overflow_add-result c =
    let f = (goal.at.overflow_add-result c).After-put_faces in
    let x = c.write_sorted-end in
    omega (arith, ends f x.new.out x.result x.ensures.by_index, (whole f).room)

pub returns-clause-value : goal.returns-clause-value
returns-clause-value c =
    let f = (goal.at.returns-clause-value c).After-put_faces in
    let x = c.write_sorted-end in
    ends f x.new.out x.result x.ensures.by_index

pub returns-clause-by_index : goal.returns-clause-by_index
returns-clause-by_index c =
    let f = (goal.at.returns-clause-by_index c).After-put_faces in
    let x = c.write_sorted-end in
    let b = whole f in
    let are = vertices-are (s f) (t f) b.order in
    let below = body-lines b (laid f) (put f) x.new.out x.ensures.out_len_unchanged (lines f x.new.out x.result x.ensures.by_index) in
    λ from e. c.write_vertices.ensures.by_index from (omega (arith, ap length are, e)) ∙ (λ i. are i ++ below i)
