-- `outlines::passes::undo_last` meets its promise. Assumes nothing.
use Rattle.std.proofs.Common.{sym, ◌∙◌}
use Rattle.outlines.specs.PassLaws.{last-back, last_inner, last-absent}
use Rattle.outlines.proofs.passes.undo_last.Goals as goal

pub undo_at-requires : goal.undo_at-requires
undo_at-requires c =
    let m = c.requires.1 in
    (c.requires.0, last_inner c.args.p c.args.t.now m.0 m.1 c.in-Some.c (sym c.in-Some.ensures))

pub returns-in-Some : goal.returns-in-Some
returns-in-Some c = λ u m. c.undo_at.ensures ∙ last-back c.args.p c.args.t.now u m c.in-Some.c (sym c.in-Some.ensures)

pub returns-in_default : goal.returns-in_default
returns-in_default c = λ u m. absurd (last-absent c.args.p c.args.t.now u m (sym c.in_default.ensures))
