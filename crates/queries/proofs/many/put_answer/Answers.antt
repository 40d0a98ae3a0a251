-- `queries::put_answer` meets its promise: the number, then a copy over the part behind it. Assumes nothing.
use Rattle.std.proofs.Common.{◌≡◌, pos, ◌+◌, ◌*◌, refl, ◌∙◌, arith, length, set, to_z, of_z}
use Rattle.std.specs.Int.{w32}
use Rattle.std.proofs.lemmas.Int.{to_z_pos}
use Rattle.std.proofs.Math.Seq.{paste}
use Rattle.std.proofs.lemmas.Slice.{put_mid-paste}
use Rattle.queries.specs.ManyLaws.{answer-put}
use Rattle.queries.proofs.many.put_answer.Goals as goal

pub returns : goal.returns
returns c =
    let o = c.args.answers.now in
    let at = 20 * c.args.i in
    let row = c.args.row.now in
    let number : to_z w32 (of_z w32 c.from.result) ≡ pos c.args.number = rw c.from.ensures (to_z_pos w32 c.args.number (omega arith)) in
    put_mid-paste (at + 1) _ _ _ row (length row) c.copy_from_slice.ensures.after (omega (arith, c.requires.row_len)) refl
    ∙ (λ k. paste (set o at (number k)) (at + 1) row (length row))
    ∙ answer-put o at (pos c.args.number) row (omega (arith, c.requires.answer_width_in_bounds, c.requires.row_len))
