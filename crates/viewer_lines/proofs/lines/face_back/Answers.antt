-- `viewer_lines::lines::face_back` meets its promise: four numbers from the last back, and what stands before them. Assumes nothing.
use Rattle.std.proofs.Common.{ℕ, ◌+◌, ◌-◌, ◌≤◌, ap, subst, [], ◌∷◌, arith, length}
use Rattle.laws.specs.Stores.{Wrote}
use Rattle.text.specs.Decimal.{digits, ended, feed}
use Rattle.text.specs.Back.{wrote-before}
use Rattle.coordinates.specs.Coordinates.{blank}
use Rattle.viewer_lines.specs.ViewerLines.{face_text}
use Rattle.viewer_lines.specs.Lines.{face-parts}
use Rattle.viewer_lines.specs.declared.corners.Corners.{Corners}
use Rattle.viewer_lines.proofs.lines.face_back.Goals as goal
use Rattle.viewer_lines.proofs.lines.face_back.Goals.{After-unpack-q}

-- there is room for the four numbers and what stands before them
module _ (c : After-unpack-q) where
  abbrev q : Corners
  q = c.unpack-q.result

  abbrev wide : ℕ → ℕ → ℕ
  wide n stop = length (ended (digits (c.args.s.first + n)) stop)

  room : 2 + (wide q.a blank + (wide q.b blank + (wide q.c blank + wide q.d feed))) ≤ c.args.end
  room = omega (arith, face-parts c.args.s q, ap (λ (x : Corners). length (face_text c.args.s x)) c.unpack-q.ensures.0, c.requires.1.0)

pub number_back-past_c-requires : goal.number_back-past_c-requires
number_back-past_c-requires c = (omega (arith, room (goal.at.number_back-past_c-requires c).After-unpack-q), c.requires.1.1)

pub number_back-past_b-requires : goal.number_back-past_b-requires
number_back-past_b-requires c = (omega (arith, room (goal.at.number_back-past_b-requires c).After-unpack-q), omega arith)

pub number_back-past_a-requires : goal.number_back-past_a-requires
number_back-past_a-requires c = (omega (arith, room (goal.at.number_back-past_a-requires c).After-unpack-q), omega arith)

pub number_back-past-requires : goal.number_back-past-requires
number_back-past-requires c = (omega (arith, room (goal.at.number_back-past-requires c).After-unpack-q), omega arith)

pub overflow_sub-at : goal.overflow_sub-at
overflow_sub-at c = omega (arith, room (goal.at.overflow_sub-at c).After-unpack-q)

pub returns : goal.returns
unfolding face_text
returns c =
    let a = c.args in
    let at = c.number_back-past.result in
    let mark : Wrote c.number_back-past.new.out (at - 2) (a.s.face ∷ blank ∷ []) c.write_bytes.new.out at =
    record { bytes = c.write_bytes.ensures.bytes; past = omega (arith, room (goal.at.returns c).After-unpack-q) } in
    subst (λ (x : Corners). Wrote a.out.now (at - 2) (face_text a.s x) c.write_bytes.new.out a.end) c.unpack-q.ensures.0
    (wrote-before
    (wrote-before
    (wrote-before (wrote-before c.number_back-past_c.ensures c.number_back-past_b.ensures) c.number_back-past_a.ensures)
    c.number_back-past.ensures)
    mark)
