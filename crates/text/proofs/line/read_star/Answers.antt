-- `text::line::read_star` meets its contract: field by field. Assumes nothing.
use Rattle.std.proofs.Common.{sym, ◌∙◌, arith}
use Rattle.text.specs.Decimal.{tab, feed}
use Rattle.text.specs.Line.{star_at, near}
use Rattle.text.specs.ReadingLaws.{number-most}
use Rattle.text.proofs.line.read_star.Goals as goal

pub returns-in_err-d : goal.returns-in_err-d
unfolding star_at
returns-in_err-d c = let e = sym c.read_number.ensures ∙ c.in_err-d.was in rw (c.from_residual.ensures, e)

pub returns-in_err-k : goal.returns-in_err-k
unfolding star_at
returns-in_err-k c =
    let e = sym c.read_number.ensures ∙ c.in_ok-d.was in
    let f = sym c.read_number-2.ensures ∙ c.in_err-k.was in
    rw (c.from_residual-in_err-k.ensures, e, f)

pub returns-in_err-n : goal.returns-in_err-n
unfolding star_at
returns-in_err-n c =
    let e = sym c.read_number.ensures ∙ c.in_ok-d.was in
    let f = sym c.read_number-2.ensures ∙ c.in_ok-k.was in
    let g = sym c.read_number-3.ensures ∙ c.in_err-n.was in
    rw (c.from_residual-in_err-n.ensures, e, f, g)

pub returns : goal.returns
unfolding star_at
returns c =
    let e = sym c.read_number.ensures ∙ c.in_ok-d.was in
    let f = sym c.read_number-2.ensures ∙ c.in_ok-k.was in
    let g = sym c.read_number-3.ensures ∙ c.in_ok-n.was in
    rw (e, f, g)

pub overflow_cast-result : goal.overflow_cast-result
overflow_cast-result c = omega (arith, number-most c.args.t.now c.args.at near tab _ _ (sym c.read_number.ensures ∙ c.in_ok-d.was))

pub overflow_cast-result-2 : goal.overflow_cast-result-2
overflow_cast-result-2 c = omega (arith, number-most c.args.t.now _ near tab _ _ (sym c.read_number-2.ensures ∙ c.in_ok-k.was))

pub overflow_cast-result-3 : goal.overflow_cast-result-3
overflow_cast-result-3 c = omega (arith, number-most c.args.t.now _ near feed _ _ (sym c.read_number-3.ensures ∙ c.in_ok-n.was))
