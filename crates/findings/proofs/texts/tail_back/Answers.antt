-- `findings::texts::tail_back` meets its promise: the note copied where it ends, and the number before it. Assumes nothing.
use Rattle.std.proofs.Common.{ap, ◌∙◌, [], ◌∷◌, ◌-◌, length, arith, length-append}
use Rattle.std.proofs.lemmas.List.Edits.{sets}
use Rattle.laws.specs.Stores.{Wrote}
use Rattle.text.specs.Decimal.{digits, ended, tab, feed}
use Rattle.text.specs.Back.{wrote-before}
use Rattle.findings.specs.Findings.{note_at, tail_text}
use Rattle.findings.specs.EntryLaws.{note-size, note-part, entry_next}
use Rattle.findings.specs.TextLengths.{tail-long}
use Rattle.findings.proofs.texts.tail_back.Goals as goal

pub overflow_sub-at : goal.overflow_sub-at
overflow_sub-at c = (note-size c.args.list.now c.args.f c.requires.0).0

pub overflow_sub-at-2 : goal.overflow_sub-at-2
overflow_sub-at-2 c = omega (arith, tail-long c.args.list.now c.args.f c.requires.0, c.requires.1.0)

pub slice_bounds-write_bytes-count : goal.slice_bounds-write_bytes-count
slice_bounds-write_bytes-count c = (note-size c.args.list.now c.args.f c.requires.0).0

pub slice_bounds-write_bytes-start : goal.slice_bounds-write_bytes-start
slice_bounds-write_bytes-start c = (note-size c.args.list.now c.args.f c.requires.0).0

pub slice_bounds-write_bytes-end : goal.slice_bounds-write_bytes-end
slice_bounds-write_bytes-end c = (entry_next c.args.list.now c.args.f.from c.args.f c.requires.0).1

pub write_bytes-requires : goal.write_bytes-requires
write_bytes-requires c =
    let r = c.requires.0 in
    omega (
      arith,
      tail-long c.args.list.now c.args.f r,
      c.requires.1,
      ap length (note-part c.args.list.now c.args.f r),
      note-size c.args.list.now c.args.f r,
    )

pub number_back-requires : goal.number_back-requires
number_back-requires c = (
  omega (arith, tail-long c.args.list.now c.args.f c.requires.0, c.requires.1.0, length-append (digits c.args.f.number) (tab ∷ [])),
  omega (arith, c.requires.1.1, c.write_bytes.auto.out),
)

pub returns : goal.returns
unfolding tail_text
returns c =
    let o = c.args.out.now in
    let at = c.args.end - (c.args.f.next - c.args.f.note) in
    let r = c.requires.0 in
    let note : Wrote o at (ended (note_at c.args.list.now c.args.f.note) feed) c.write_bytes.new.out c.args.end =
    record {
      bytes = c.write_bytes.ensures.bytes ∙ ap (sets o at) (note-part c.args.list.now c.args.f r);
      past = omega (arith, tail-long c.args.list.now c.args.f r, c.requires.1.0, note-size c.args.list.now c.args.f r);
    } in
    wrote-before note c.number_back.ensures
