-- `queries::faces` meets its promise. Assumes nothing.
use Rattle.std.proofs.Common.{sym}
use Rattle.laws.specs.Machine.{asked₂}
use Rattle.lattice.specs.AnswerRows.{answer_numbers}
use Rattle.queries.specs.Queries.{query_of, faces_at, faces_of}
use Rattle.queries.proofs.answers.faces.Goals as goal

pub returns : goal.returns
unfolding faces_of
returns c =
    let a = c.args in
    let t = a.table.now in
    record {
      value = sym (asked₂ (λ x y. (query_of (faces_at t) t x y a.m).number) c.ranges.a c.ranges.b c.answer.ensures.value);
      points_after = sym (asked₂ (λ x y. answer_numbers (query_of (faces_at t) t x y a.m)) c.ranges.a c.ranges.b c.answer.ensures.out_after);
    }
