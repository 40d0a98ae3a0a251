-- `salvage_lines::rounds::take_line` meets its promise. Assumes nothing.
use Rattle.std.proofs.Common.{refl, sym, ◌∙◌}
use Rattle.salvage_lines.specs.LinesOn.{kept_next}
use Rattle.salvage_lines.specs.Rounds.{goes_over, goes_dropped, goes-against, goes_none, goes-again, goes-new}
use Rattle.salvage_lines.proofs.rounds.take_line.Goals as goal

pub take-requires : goal.take-requires
take-requires c =
    let w = kept_next c.args.file.now c.args.at c.in-Kept.r c.in-Kept.field-1 c.in-Kept.next (sym c.piece_at.ensures ∙ c.in-Kept.is) in
    (c.requires.0, (c.requires.1, w.1))

pub returns-in-Over : goal.returns-in-Over
returns-in-Over c = goes_over c.args.file.now c.args.at c.args.table.now (sym c.piece_at.ensures ∙ c.in-Over.is) _ refl

pub returns-in-Dropped : goal.returns-in-Dropped
returns-in-Dropped c = goes_dropped c.args.file.now c.args.at c.args.table.now c.in-Dropped.next (sym c.piece_at.ensures ∙ c.in-Dropped.is) _ refl

pub returns-in-Against : goal.returns-in-Against
returns-in-Against c =
    goes-against c.args.file.now c.args.at c.args.table.now c.in-Kept.r c.in-Kept.field-1 c.in-Kept.next (sym c.piece_at.ensures ∙ c.in-Kept.is)
    c.take.new.table c.in-Against.ensures

pub returns-in-NoSlot : goal.returns-in-NoSlot
returns-in-NoSlot c =
    goes_none c.args.file.now c.args.at c.args.table.now c.in-Kept.r c.in-Kept.field-1 c.in-Kept.next (sym c.piece_at.ensures ∙ c.in-Kept.is)
    c.take.new.table c.in-NoSlot.ensures

pub returns-in-Again : goal.returns-in-Again
returns-in-Again c =
    goes-again c.args.file.now c.args.at c.args.table.now c.in-Kept.r c.in-Kept.field-1 c.in-Kept.next (sym c.piece_at.ensures ∙ c.in-Kept.is)
    c.take.new.table c.in-Again.ensures

pub returns-in-New : goal.returns-in-New
returns-in-New c =
    goes-new c.args.file.now c.args.at c.args.table.now c.in-Kept.r c.in-Kept.field-1 c.in-Kept.next (sym c.piece_at.ensures ∙ c.in-Kept.is)
    c.take.new.table c.in-New.ensures
