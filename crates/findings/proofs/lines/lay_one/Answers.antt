-- `findings::lay_one` meets its promise, by where the finding's point is. Assumes nothing.
use Rattle.std.proofs.Common.{sym, ◌∙◌, ap}
use Rattle.table.specs.Entries.{holds}
use Rattle.findings.specs.Findings.{point_of}
use Rattle.findings.specs.StandingLaws.{plan-close}
use Rattle.findings.proofs.lines.lay_one.Goals as goal

pub key_of-requires : goal.key_of-requires
key_of-requires c =
    let t = c.args.table.now in
    let r = c.requires.in_order in
    (r.1.1, plan-close t r.0 (point_of c.args.f) (ap (holds t) (sym c.point_of.ensures) ∙ sym c.is_there.ensures ∙ c.if-is_there.true))
