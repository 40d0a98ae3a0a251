-- `findings::with_line` meets its promise, by where the finding's point is. Assumes nothing.
use Rattle.std.proofs.Common.{sym, ◌∙◌, ap, ℕ, ◌+◌}
use Rattle.table.specs.Entries.{holds}
use Rattle.findings.specs.Judged.{parts}
use Rattle.findings.specs.JudgeLaws.{line-stands, line-lost}
use Rattle.findings.proofs.lists.with_line.Goals as goal

pub returns-then-is_there : goal.returns-then-is_there
returns-then-is_there c l h =
    let t = c.args.table.now in
    ap (λ (x : ℕ). parts (c.args.p.stands + x) c.args.p.lost) (c.stands_length.ensures l h)
    ∙ line-stands t l c.args.p c.args.f (ap (holds t) (sym c.point_of.ensures) ∙ sym c.is_there.ensures ∙ c.if-is_there.true)

pub returns-else-is_there : goal.returns-else-is_there
returns-else-is_there c l h =
    let t = c.args.table.now in
    ap (λ (x : ℕ). parts c.args.p.stands (c.args.p.lost + x)) (c.lost_length.ensures l h)
    ∙ line-lost t l c.args.p c.args.f (ap (holds t) (sym c.point_of.ensures) ∙ sym c.is_there.ensures ∙ c.if-is_there.false)
