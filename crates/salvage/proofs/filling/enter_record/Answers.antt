-- `salvage::filling::enter_record` meets its promise. Assumes nothing.
use Rattle.std.proofs.Common.{refl, sym, ◌∙◌}
use Rattle.table.specs.declared.probe.Found.TheVariants as found
use Rattle.salvage.specs.FillLaws.{entering-room, entering-full}
use Rattle.salvage.proofs.filling.enter_record.Goals as goal

pub returns-in-At : goal.returns-in-At
returns-in-At c =
    entering-room c.args.table.now c.args.r c.enter.new.t c.enter.ensures.t_after (found.At c.in-At.field-0) (sym c.enter.ensures.value ∙ c.in-At.is) refl

pub returns-in-Free : goal.returns-in-Free
returns-in-Free c =
    entering-room c.args.table.now c.args.r c.enter.new.t c.enter.ensures.t_after (found.Free c.in-Free.field-0) (sym c.enter.ensures.value ∙ c.in-Free.is)
    refl

pub returns-in-Full : goal.returns-in-Full
returns-in-Full c = entering-full c.args.table.now c.args.r c.enter.new.t c.enter.ensures.t_after (sym c.enter.ensures.value ∙ c.in-Full.is)
