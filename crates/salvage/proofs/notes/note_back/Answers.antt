-- `salvage::notes::note_back` meets its promise. Assumes nothing.
use Rattle.std.proofs.Common.{◌≡◌, subst, ℕ, ◌+◌, ◌-◌, length, set, length-set, arith}
use Rattle.laws.specs.Stores.{Wrote}
use Rattle.text.specs.Decimal.{tab, feed}
use Rattle.salvage.specs.NoteLaws.{change-long, note-stored}
use Rattle.salvage.proofs.notes.note_back.Goals as goal

pub overflow_sub-last : goal.overflow_sub-last
overflow_sub-last c = omega (arith, change-long c.args.line c.args.word.now, c.requires.0)

pub bounds-out-last : goal.bounds-out-last
bounds-out-last c = omega (arith, change-long c.args.line c.args.word.now, c.requires)

pub overflow_sub-from : goal.overflow_sub-from
overflow_sub-from c = omega (arith, change-long c.args.line c.args.word.now, c.requires.0)

pub write_bytes-requires : goal.write_bytes-requires
write_bytes-requires c =
    omega (arith, change-long c.args.line c.args.word.now, c.requires, length-set c.args.out.now (c.args.end - 1) feed)

pub overflow_sub-stop : goal.overflow_sub-stop
overflow_sub-stop c = omega (arith, change-long c.args.line c.args.word.now, c.requires.0)

pub bounds-out-stop : goal.bounds-out-stop
bounds-out-stop c =
    omega (arith, change-long c.args.line c.args.word.now, c.requires, c.write_bytes.auto, length-set c.args.out.now (c.args.end - 1) feed)

pub digits_back-requires : goal.digits_back-requires
digits_back-requires c =
    let stop = c.args.end - 1 - length c.args.word.now - 1 in (
      omega (arith, change-long c.args.line c.args.word.now, c.requires.0),
      omega (
        arith,
        change-long c.args.line c.args.word.now,
        c.requires,
        c.write_bytes.auto,
        length-set c.args.out.now (c.args.end - 1) feed,
        length-set c.write_bytes.new.out stop tab,
      ),
    )

pub returns : goal.returns
returns c =
    let o = c.args.out.now in
    let word = c.args.word.now in
    let from = c.args.end - 1 - length word in
    let long = change-long c.args.line word in
    let e : c.args.end - 1 ≡ from + length word = omega (arith, long, c.requires.0) in
    let b = subst (λ (k : ℕ). Wrote (set o k feed) from word c.write_bytes.new.out c.write_bytes.result) e c.write_bytes.ensures in
    note-stored o c.args.line word c.args.end from (from - 1) c.digits_back.result c.write_bytes.result c.write_bytes.new.out c.digits_back.new.out
    (omega (arith, long, c.requires.0)) (omega (arith, long, c.requires.0)) b c.digits_back.ensures
