-- `salvage::judging::judge` meets its promise. Assumes nothing.
use Rattle.std.proofs.Common.{sym, ap, ◌∙◌, length, arith, ◌+◌}
use Rattle.table.specs.Slots.{slots_in}
use Rattle.table.specs.MapLaws.{clear-length, table_same, table-slots}
use Rattle.salvage_lines.specs.RoundLaws.{cleared-again}
use Rattle.salvage.specs.JudgeLaws.{taken_none, taken-clash, judged-clash, judged-mended, judged-short}
use Rattle.salvage.proofs.judging.judge.Goals as goal

pub gather-requires : goal.gather-requires
gather-requires c =
    let t = c.args.table.now in
    record {
      table = (table_same t c.clear.new.t c.args.n (ap length c.clear.ensures ∙ clear-length t) c.requires.0, cleared-again t c.clear.new.t c.clear.ensures);
      room_nonzero = (omega arith, omega arith);
    }

pub mend-requires : goal.mend-requires
mend-requires c =
    let t = c.args.table.now in
    let w = c.in-All.ensures in
    let long = w.1 ∙ ap length c.clear.ensures ∙ clear-length t in
    (w.0.order, (sym (ap slots_in long ∙ table-slots t c.args.n c.requires.0), c.requires.1 ∙ sym long))

pub returns-in-All : goal.returns-in-All
returns-in-All c =
    let t = c.args.table.now in
    let f = c.args.file.now in
    let u = c.gather.new.table in
    let w = c.in-All.ensures in
    c.mend.ensures ∙ judged-mended t f (taken_none t f u w.0) u (w.1 ∙ ap length c.clear.ensures ∙ clear-length t) w.0

pub returns-in-Clashing : goal.returns-in-Clashing
returns-in-Clashing c =
    let t = c.args.table.now in
    let f = c.args.file.now in
    judged-clash t f (taken-clash t f (c.args.n + 1) c.clear.new.t c.gather.new.table c.in-Clashing.ensures)

pub has_clash-requires : goal.has_clash-requires
has_clash-requires c =
    let t = c.args.table.now in
    table_same t c.gather.new.table c.args.n (c.in-Upto.ensures.1 ∙ ap length c.clear.ensures ∙ clear-length t) c.requires.0

pub returns-then-has_clash : goal.returns-then-has_clash
returns-then-has_clash c = judged-clash c.args.table.now c.args.file.now (sym c.has_clash.ensures.value ∙ c.if-has_clash.true)

pub returns-else-has_clash : goal.returns-else-has_clash
returns-else-has_clash c =
    let t = c.args.table.now in
    judged-short t c.args.file.now (sym c.has_clash.ensures.value ∙ c.if-has_clash.false) c.args.n c.requires.0 (c.args.n + 1) c.in-Upto.field-0
    c.gather.new.table (c.in-Upto.ensures.1 ∙ ap length c.clear.ensures ∙ clear-length t) (omega arith) c.in-Upto.ensures.0
