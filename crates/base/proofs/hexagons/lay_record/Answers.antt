-- `base::lay_record` meets its promise: by where the search ended. Assumes nothing.
use Rattle.std.proofs.Common.{sym, ap, ◌∙◌}
use Rattle.base.specs.Base.{Room}
use Rattle.base.specs.LayLaws.{lay-there, lay-free, lay-full}
use Rattle.base.proofs.hexagons.lay_record.Goals as goal

pub returns-in-At : goal.returns-in-At
returns-in-At c = ap Room c.enter.ensures.t_after ∙ lay-there c.args.table.now c.args.r c.in-At.field-0 (sym c.enter.ensures.value ∙ c.in-At.is)

pub returns-in-Free : goal.returns-in-Free
returns-in-Free c = ap Room c.enter.ensures.t_after ∙ lay-free c.args.table.now c.args.r c.in-Free.field-0 (sym c.enter.ensures.value ∙ c.in-Free.is)

pub returns-in-Full : goal.returns-in-Full
returns-in-Full c = lay-full c.args.table.now c.args.r (sym c.enter.ensures.value ∙ c.in-Full.is)
