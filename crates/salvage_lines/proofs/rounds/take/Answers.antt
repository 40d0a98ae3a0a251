-- `salvage_lines::rounds::take` meets its promise: by where the search ended. Assumes nothing.
use Rattle.std.proofs.Common.{sym, ap, ◌∙◌, length, arith}
use Rattle.table.specs.Slots.{slots_of}
use Rattle.table.specs.MapLaws.{at_room}
use Rattle.salvage_lines.specs.Rounds.{takes-new, takes_none, takes-there, takes-again, takes-against, takes-free}
use Rattle.salvage_lines.proofs.rounds.take.Goals as goal

pub read_slot-requires : goal.read_slot-requires
read_slot-requires c =
    let t = c.args.table.now in
    let o = c.requires.0 in
    let h = sym c.enter-f.ensures.value ∙ c.in-At.is in
    omega (
      arith,
      at_room t (slots_of t) o.fits c.args.r.at c.in-At.i h,
      ap length (takes-there t o c.args.r c.enter-f.new.t c.enter-f.ensures.t_after c.in-At.i h),
    )

pub returns-then-same_record : goal.returns-then-same_record
returns-then-same_record c =
    takes-again c.args.table.now c.requires.0 c.args.r c.enter-f.new.t c.enter-f.ensures.t_after c.in-At.i (sym c.enter-f.ensures.value ∙ c.in-At.is)
    c.in-Some.q (sym c.read_slot.ensures ∙ c.in-Some.is) (sym c.same_record.ensures ∙ c.if-same_record.true)

pub returns-in-Free : goal.returns-in-Free
returns-in-Free c =
    takes-new c.args.table.now c.requires.0 c.args.r c.enter-f.new.t c.enter-f.ensures.t_after c.in-Free.field-0 (sym c.enter-f.ensures.value ∙ c.in-Free.is)

pub returns-in-Full : goal.returns-in-Full
returns-in-Full c =
    takes_none c.args.table.now c.requires.0 c.args.r c.enter-f.new.t c.enter-f.ensures.t_after (sym c.enter-f.ensures.value ∙ c.in-Full.is)

pub returns-in-None : goal.returns-in-None
returns-in-None c =
    takes-free c.args.table.now c.requires.0 c.args.r c.enter-f.new.t c.enter-f.ensures.t_after c.in-At.i (sym c.enter-f.ensures.value ∙ c.in-At.is)
    (sym c.read_slot.ensures ∙ c.in-None.is)

pub returns-else-same_record : goal.returns-else-same_record
returns-else-same_record c =
    takes-against c.args.table.now c.requires.0 c.args.r c.enter-f.new.t c.enter-f.ensures.t_after c.in-At.i (sym c.enter-f.ensures.value ∙ c.in-At.is)
    c.in-Some.q (sym c.read_slot.ensures ∙ c.in-Some.is) (sym c.same_record.ensures ∙ c.if-same_record.false)
