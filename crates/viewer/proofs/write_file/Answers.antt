-- `viewer::write_file` meets its promise: the parts' lengths, 13, then vertices and faces, then the head. Assumes nothing.
use Rattle.std.proofs.Common.{◌≡◌, refl, sym, ◌∙◌, ap, List, ℕ, ◌+◌, ◌≤◌, arith, ltb-true, ltb-false, length}
use Rattle.writers.specs.CallLaws.{out-is}
use Rattle.counts.specs.Counts.{counts_of}
use Rattle.counts.specs.declared.Counts.{Counts}
use Rattle.viewer_lines.specs.ViewerLines.{head_text}
use Rattle.viewer_lines.specs.declared.styles.Style.{Style}
use Rattle.viewer.specs.Viewer.{viewer_file}
use Rattle.viewer.specs.CallLaws.{vertex_part, face_part, vertex-part, view-long, view-done, put-short, put-done}
use Rattle.viewer.proofs.write_file.Goals as goal
use Rattle.viewer.proofs.write_file.Goals.{After-vertices_length}

-- the parts' lengths
module _ (c : After-vertices_length) where
  abbrev style : Style
  style = c.args.s

  abbrev t : List ℕ
  t = c.args.t.now

  abbrev head : List ℕ
  head = head_text style c.args.c

  abbrev start : ℕ
  start = c.head_length.result + c.vertices_length.result

  abbrev total : ℕ
  total = start + length (face_part style t)

  headed : head ≡ head_text style (counts_of t)
  headed = ap (head_text style) c.requires.c_value.0

  vertices-long : c.vertices_length.result ≡ length (vertex_part style t)
  vertices-long = c.vertices_length.ensures.0 ∙ vertex-part style t c.args.n c.requires.in_order.1

  long : total ≡ length (viewer_file style t)
  long =
      view-long style t c.head_length.result c.vertices_length.result (length (face_part style t)) (c.head_length.ensures.0 ∙ ap length headed)
      vertices-long refl

pub is_short-requires-clause-faces_value : goal.is_short-requires-clause-faces_value
unfolding counts_of
is_short-requires-clause-faces_value c = (ap (λ (x : Counts). x.faces) c.requires.c_value.0, omega (arith, c.head_length.ensures.1, c.vertices_length.ensures.1))

pub returns-then-is_short : goal.returns-then-is_short
returns-then-is_short c =
    let v = (goal.at.returns-then-is_short c).After-vertices_length in
    let o = c.args.out.now in
    put-short (viewer_file (style v) (t v)) o (total v) (long v) (ltb-true (length o) (total v) (sym c.is_short.ensures ∙ c.if-is_short.true))

pub write_body-total-requires-clause-t_len_bound : goal.write_body-total-requires-clause-t_len_bound
write_body-total-requires-clause-t_len_bound c =
    let v = (goal.at.write_body-total-requires-clause-t_len_bound c).After-vertices_length in
    let o = c.args.out.now in
    (omega (arith, vertices-long v), omega (arith, ltb-false (length o) (total v) (sym c.is_short.ensures ∙ c.if-is_short.false)))

pub write_body-total-requires-clause-t_value_2 : goal.write_body-total-requires-clause-t_value_2
unfolding counts_of
write_body-total-requires-clause-t_value_2 c = (c.requires.c_value.1, ap (λ (x : Counts). x.faces) c.requires.c_value.0)

pub returns : goal.returns
returns c =
    let f = (goal.at.returns c).After-vertices_length in
    let o = c.args.out.now in
    let o₁ = c.write_body-total.new.out in
    let o₂ = c.write_head.new.out in
    let room : total f ≤ length o = ltb-false (length o) (total f) (sym c.is_short.ensures ∙ c.if-is_short.false) in
    let fits : length (head f) + length (vertex_part (style f) (t f)) ≡ start f = omega (arith, c.head_length.ensures.0, vertices-long f) in
    let body = c.write_body-total.ensures.by_index (length (head f)) fits in
    let done = view-done (style f) (t f) (total f) (head f) o o₁ o₂ (headed f) body c.write_head.ensures in
    out-is o₂ refl c.write_body-total.ensures.value
    ∙ put-done (viewer_file (style f) (t f)) o (total f) (long f) o₂ room done
