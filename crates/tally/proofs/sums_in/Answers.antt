-- `tally::sums_in` meets its promise: by what the slot holds. Assumes nothing.
use Rattle.std.proofs.Common.{◌<◌, sym, arith}
use Rattle.table.specs.Slots.{slots_of}
use Rattle.local.specs.BornLaws.{valid-small}
use Rattle.tally.proofs.sums_in.Goals as goal

pub besides-pairs-requires : goal.besides-pairs-requires
besides-pairs-requires c =
    let below : c.args.k < slots_of c.args.t.now = omega arith in
    (c.requires.0, (c.requires.1.0, valid-small c.in-Some.v (c.requires.0.valid c.args.k c.in-Some.v below (sym c.in-Some.ensures))))
