-- `local::place_passes` meets its promise: by the kind of point. Assumes nothing.
use Rattle.std.proofs.Common.{sym, ◌∙◌, arith}
use Rattle.local.specs.Sheet.{sheet_of}
use Rattle.local.specs.PlaceLaws.{place-deep, place-centre, place-corner}
use Rattle.local.proofs.places.place_passes.Goals as goal

pub returns-then-p-gt0 : goal.returns-then-p-gt0
returns-then-p-gt0 c = c.deep_passes.ensures ∙ place-deep (sheet_of c.args.t.now) c.args.r c.if-p-gt0.true

pub returns-then-class-eq0 : goal.returns-then-class-eq0
returns-then-class-eq0 c =
    c.centre_passes.ensures ∙ place-centre (sheet_of c.args.t.now) c.args.r (omega arith) (sym c.class.ensures ∙ c.if-class-eq0.true)

pub returns : goal.returns
returns c =
    c.corner_passes.ensures ∙ place-corner (sheet_of c.args.t.now) c.args.r (omega arith) (λ e. c.if-class-eq0.false (c.class.ensures ∙ e))
