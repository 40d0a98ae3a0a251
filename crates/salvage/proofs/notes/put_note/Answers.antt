-- `salvage::notes::put_note` meets its promise. Assumes nothing.
use Rattle.std.proofs.Common.{◌+◌, length, arith}
use Rattle.salvage.specs.NoteLaws.{change-long, note-over, note-past, note-measured, note-written}
use Rattle.salvage.proofs.notes.put_note.Goals as goal

pub returns-then-room-at : goal.returns-then-room-at
returns-then-room-at c = note-over c.args.out.now c.args.at c.args.room c.args.line c.args.word.now c.if-room-at.true c.requires.0

pub returns-then-room-at-2 : goal.returns-then-room-at-2
returns-then-room-at-2 c =
    note-past c.args.out.now c.args.at c.args.room c.args.line c.args.word.now
    (omega (arith, change-long c.args.line c.args.word.now, c.digit_count-wide.ensures.value))

pub returns-then-room-start : goal.returns-then-room-start
returns-then-room-start c =
    note-past c.args.out.now c.args.at c.args.room c.args.line c.args.word.now
    (omega (arith, change-long c.args.line c.args.word.now, c.digit_count-wide.ensures.value))

pub note_back-requires : goal.note_back-requires
note_back-requires c = (
  omega (arith, change-long c.args.line c.args.word.now, c.digit_count-wide.ensures.value),
  omega arith,
)

pub returns-then-room-out : goal.returns-then-room-out
returns-then-room-out c =
    let end = c.args.at + (c.digit_count-wide.result + 2) + length c.args.word.now in
    note-written c.args.out.now c.args.at c.args.room c.args.line c.args.word.now end
    (omega (arith, change-long c.args.line c.args.word.now, c.digit_count-wide.ensures.value)) (omega arith) c.note_back.new.out c.note_back.result
    c.note_back.ensures

pub returns-else-room-out : goal.returns-else-room-out
returns-else-room-out c =
    let end = c.args.at + (c.digit_count-wide.result + 2) + length c.args.word.now in
    note-measured c.args.out.now c.args.at c.args.room c.args.line c.args.word.now end
    (omega (arith, change-long c.args.line c.args.word.now, c.digit_count-wide.ensures.value)) (omega arith)
    (λ h. let z = c.if-room-out.false in omega arith)
