-- `local::passes` meets its promise. Assumes nothing.
use Rattle.std.proofs.Common.{◌∙◌}
use Rattle.local.specs.Sheet.{sheet_of}
use Rattle.local.specs.PlaceLaws.{local-place}
use Rattle.local.proofs.checks.passes.Goals as goal

pub returns-then-place_passes : goal.returns-then-place_passes
returns-then-place_passes c = c.six_passes.ensures ∙ (rw (← c.if-place_passes.ensures) at (local-place (sheet_of c.args.t.now) c.args.r))

pub returns-else-place_passes : goal.returns-else-place_passes
returns-else-place_passes c = c.if-place_passes.false ∙ (rw (← c.if-place_passes.ensures) at (local-place (sheet_of c.args.t.now) c.args.r))
