-- `census_text::put_text` meets its promise: the length, then the words and the numbers. Assumes nothing.
use Rattle.std.proofs.Common.{◌≡◌, ℕ, ◌+◌, ◌++◌, ◌∙◌, arith, length, length-append}
use Rattle.std.proofs.Math.Path.{ap}
use Rattle.laws.specs.Stores.{wrote_then}
use Rattle.lattice.specs.Refusals.{number_told}
use Rattle.census_text.specs.Census.{row, put}
use Rattle.census_text.specs.TextLaws.{put-short, put-done}
use Rattle.census_text.proofs.texts.put_text.Goals as goal

pub returns-then-out-total-clause-out_after : goal.returns-then-out-total-clause-out_after
returns-then-out-total-clause-out_after c =
    let words = c.args.words.now in
    let ns = row c.args.ns.now in
    let o = c.args.out.now in
    let total : length words + c.row_width.result ≡ length (words ++ ns) = omega (arith, c.row_width.ensures.0, length-append words ns) in
    put-short (number_told c.args.outcome) (words ++ ns) o (omega (arith, total, c.if-out-total.true))

pub returns-clause-out_after : goal.returns-clause-out_after
returns-clause-out_after c =
    let words = c.args.words.now in
    let ns = row c.args.ns.now in
    let o = c.args.out.now in
    let total : length words + c.row_width.result ≡ length (words ++ ns) = omega (arith, c.row_width.ensures.0, length-append words ns) in
    ap (λ (n : ℕ). put (number_told c.args.outcome) n c.write_row.new.out) total
    ∙ put-done (number_told c.args.outcome) (words ++ ns) o (omega (arith, total, c.if-out-total.false)) c.write_row.new.out c.write_row.result
    (wrote_then c.write_bytes-at.ensures c.write_row.ensures)
