-- `census::answer` meets its promise: it is the call, lent the program's tables and a text in which every text has room. Assumes nothing.
use Rattle.std.proofs.Common.{arith}
use Rattle.census_text.specs.Census.{free_table}
use Rattle.census_text.specs.ProgramLaws.{program-text}
use Rattle.census.proofs.answer.Goals as goal

pub returns-clause-value : goal.returns-clause-value
unfolding free_table
returns-clause-value c =
    let r = c.census-census in
    let (l, most, e) = program-text c.args.input.now c.args.text.now _ _ _ _ _ r.ensures.answer (omega (arith, r.ensures.text_bound, c.fits-text)) in
    (l, omega (arith, most, c.fits-text))

pub returns-clause-text_after : goal.returns-clause-text_after
unfolding free_table
returns-clause-text_after c =
    let r = c.census-census in
    let (l, most, e) = program-text c.args.input.now c.args.text.now _ _ _ _ _ r.ensures.answer (omega (arith, r.ensures.text_bound, c.fits-text)) in
    e
