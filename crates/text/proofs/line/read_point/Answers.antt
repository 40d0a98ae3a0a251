-- `text::read_point` meets its contract: field by field. Assumes nothing.
use Rattle.std.proofs.Common.{sym, ◌∙◌, arith, rules}
use Rattle.std.proofs.lemmas.Int.{to_z-of_z}
use mir.Syntax.{w32}
use mir.Val.{SFits}
use Rattle.text.specs.Decimal.{tab}
use Rattle.text.specs.Line.{place_at, near}
use Rattle.text.specs.ReadingLaws.{number-most}
use Rattle.text.proofs.line.read_point.Goals as goal

pub returns-in_err-a : goal.returns-in_err-a
unfolding place_at
returns-in_err-a c = let e = sym c.read_signed.ensures ∙ c.in_err-a.was in rw (c.from_residual.ensures, e)

pub returns-in_err-b : goal.returns-in_err-b
unfolding place_at
returns-in_err-b c =
    let e = sym c.read_signed.ensures ∙ c.in_ok-a.was in
    let f = sym c.read_signed-2.ensures ∙ c.in_err-b.was in
    rw (c.from_residual-in_err-b.ensures, e, f)

pub returns-in_err-m : goal.returns-in_err-m
unfolding place_at
returns-in_err-m c =
    let e = sym c.read_signed.ensures ∙ c.in_ok-a.was in
    let f = sym c.read_signed-2.ensures ∙ c.in_ok-b.was in
    let g = sym c.read_number.ensures ∙ c.in_err-m.was in
    rw (c.from_residual-in_err-m.ensures, e, f, g)

pub overflow_cast-m : goal.overflow_cast-m
overflow_cast-m c = omega (arith, number-most c.args.t.now _ near tab _ _ (sym c.read_number.ensures ∙ c.in_ok-m.was))

pub returns : goal.returns
unfolding place_at
returns c =
    let e = sym c.read_signed.ensures ∙ c.in_ok-a.was in
    let f = sym c.read_signed-2.ensures ∙ c.in_ok-b.was in
    let g = sym c.read_number.ensures ∙ c.in_ok-m.was in
    let fa : SFits w32 c.in_ok-a.a = search rules in
    let fb : SFits w32 c.in_ok-b.b = search rules in
    rw (e, f, g) (simp to_z-of_z)
