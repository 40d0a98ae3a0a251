-- The slot that the search found lies in the table.
use Rattle.std.proofs.Common.{sym, arith}
use Rattle.table.specs.MapLaws.{at_room}
use Rattle.writers.proofs.named.mark_point.Goals as goal

pub mark-requires : goal.mark-requires
mark-requires c =
    let room = at_room c.args.table.now c.args.n c.requires c.args.p c.in-At.i (sym c.in-At.ensures.value) in
    omega arith
