-- A vertex of degree 6 of a table in order is an inner one.
use Rattle.std.proofs.Common.{sym, arith}
use Rattle.writers.specs.Named.{six-inner}
use Rattle.writers.proofs.named.mark_slot.Goals as goal

pub mark_star-requires-clause-inner : goal.mark_star-requires-clause-inner
mark_star-requires-clause-inner c =
    (six-inner c.args.table.now c.args.i c.in-Some.v (sym c.in-Some.ensures) c.requires.0 (omega arith) c.if-v-eq6.true, c.if-v-eq6.true)
