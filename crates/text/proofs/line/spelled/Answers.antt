-- `text::spelled` meets its contract. Assumes nothing.
use Rattle.std.proofs.Common.{sym, ◌∙◌, length, le-leb}
use Rattle.std.proofs.lemmas.Bool.{lt-leb}
use Rattle.text.specs.Line.{spelled_at}
use Rattle.text.proofs.line.spelled.Goals as goal

pub returns-then-t-at : goal.returns-then-t-at
unfolding spelled_at
returns-then-t-at c = rw (le-leb (length c.args.t.now) c.args.at c.if-t-at.true)

pub returns-in_default : goal.returns-in_default
unfolding spelled_at
returns-in_default c =
    let e = sym c.read_point.ensures ∙ c.in_default.is in
    rw (lt-leb (length c.args.t.now) c.args.at c.if-t-at.false, e)

pub returns-in-Some-read_star : goal.returns-in-Some-read_star
unfolding spelled_at
returns-in-Some-read_star c =
    let e = sym c.read_point.ensures ∙ c.in-Some.is in
    let f = sym c.read_star.ensures ∙ c.in-Some-read_star.is in
    rw (lt-leb (length c.args.t.now) c.args.at c.if-t-at.false, e, f)

pub returns-in-None : goal.returns-in-None
unfolding spelled_at
returns-in-None c =
    let e = sym c.read_point.ensures ∙ c.in-Some.is in
    let f = sym c.read_star.ensures ∙ c.in-None.is in
    rw (lt-leb (length c.args.t.now) c.args.at c.if-t-at.false, e, f)
