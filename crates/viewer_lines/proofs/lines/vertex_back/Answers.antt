-- `viewer_lines::lines::vertex_back` meets its promise: where vertices are marked, the mark before the position. Assumes nothing.
use Rattle.std.proofs.Common.{ℕ, ◌-◌, sym, subst, List, [], ◌∷◌, arith}
use Rattle.laws.specs.Stores.{Wrote}
use Rattle.text.specs.Back.{wrote-before}
use Rattle.coordinates.specs.Coordinates.{blank}
use Rattle.viewer_lines.specs.ViewerLines.{letter_v}
use Rattle.viewer_lines.specs.Lines.{vertex-marked, vertex-plain, vertex-mark, vertex-room}
use Rattle.viewer_lines.proofs.lines.vertex_back.Goals as goal

pub position_back-at-requires : goal.position_back-at-requires
position_back-at-requires c = (c.requires.0, (omega (arith, vertex-room c.args.s c.args.r, c.requires.1.0), c.requires.1.1))

-- two bytes are left before the position
pub overflow_sub-from : goal.overflow_sub-from
overflow_sub-from c = omega (arith, vertex-marked c.args.s c.args.r c.if-s.true, c.requires.1.0, c.position_back-at.ensures.past)

pub write_bytes-requires : goal.write_bytes-requires
write_bytes-requires c =
    omega (arith, vertex-marked c.args.s c.args.r c.if-s.true, c.requires.1, c.position_back-at.ensures.past, c.position_back-at.auto.out)

pub returns-then-s : goal.returns-then-s
returns-then-s c =
    let o = c.position_back-at.new.out in
    let at = c.position_back-at.result in
    let mark : Wrote o (at - 2) (letter_v ∷ blank ∷ []) c.write_bytes.new.out at =
    record {
      bytes = c.write_bytes.ensures.bytes;
      past = omega (arith, vertex-marked c.args.s c.args.r c.if-s.true, c.requires.1.0, c.position_back-at.ensures.past);
    } in
    subst (λ (l : List ℕ). Wrote c.args.out.now (at - 2) l c.write_bytes.new.out c.args.end) (sym (vertex-mark c.args.s c.args.r c.if-s.true))
    (wrote-before c.position_back-at.ensures mark)

pub returns : goal.returns
returns c =
    subst (λ (l : List ℕ). Wrote c.args.out.now c.position_back-at.result l c.position_back-at.new.out c.args.end)
    (sym (vertex-plain c.args.s c.args.r c.if-s.false)) c.position_back-at.ensures
