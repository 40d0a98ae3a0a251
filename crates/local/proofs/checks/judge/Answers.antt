-- `local::judge` meets its promise: by what the slot holds. Assumes nothing.
use Rattle.std.proofs.Common.{refl, ap, Some}
use Rattle.table.specs.MapLaws.{order-test}
use Rattle.local.specs.Slots.{judged_at}
use Rattle.local.proofs.checks.judge.Goals as goal

pub passes-requires-clause-t_value : goal.passes-requires-clause-t_value
passes-requires-clause-t_value c = order-test c.args.t.now c.requires.0

pub returns-in-None : goal.returns-in-None
unfolding judged_at
returns-in-None c = rw (← c.in-None.ensures) refl

pub returns-in-Some : goal.returns-in-Some
unfolding judged_at
returns-in-Some c = rw (← c.in-Some.ensures) (ap Some c.passes.ensures)
