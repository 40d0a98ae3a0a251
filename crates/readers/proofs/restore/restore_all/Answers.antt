-- `readers::restore_all` meets its promise. Assumes nothing.
use Rattle.std.proofs.Common.{sym, ◌∙◌, refl, arith}
use Rattle.lattice.specs.RefusalLaws.{number-some}
use Rattle.table.specs.MapLaws.{table_same}
use Rattle.text.specs.LineLaws.{line_read_lem, line-next}
use Rattle.readers.specs.FaultLaws.{handed-on}
use Rattle.readers.specs.RestoreSteps.{restoring-start, restoring-over, restoring-stopped, restoring-more}
use Rattle.readers.proofs.restore.restore_all.Goals as goal

pub loop-v-init : goal.loop-v-init
loop-v-init c = restoring-start c.args.file.now c.args.before.now c.args.table.now c.requires.1

pub restore_star-requires : goal.restore_star-requires
restore_star-requires c = (
  table_same c.args.table.now c.loop-v.table c.args.n c.loop-v.invariant.long c.requires.0,
  (line_read_lem c.args.file.now c.loop-v.at c.in-Good.next c.in-Good.v (sym c.parse_line.ensures ∙ c.in-Good.is)).0,
)

pub returns-in_err-kept : goal.returns-in_err-kept
returns-in_err-kept c =
    rw (handed-on c.from_residual.ensures.1)
    (restoring-stopped c.loop-v.invariant c.in-Good.v c.in-Good.next (sym c.parse_line.ensures ∙ c.in-Good.is) c.in_err-kept.ensures
    (number-some c.in_err-kept.field-0.0))

pub loop-v-smaller : goal.loop-v-smaller
loop-v-smaller c =
    omega (arith, line-next c.args.file.now c.loop-v.at c.in-Good.next c.in-Good.v (sym c.parse_line.ensures ∙ c.in-Good.is))

pub loop-v-preserved : goal.loop-v-preserved
loop-v-preserved c =
    restoring-more c.loop-v.invariant c.in-Good.v c.in-Good.next (sym c.parse_line.ensures ∙ c.in-Good.is) c.in_ok-kept.ensures refl
    (omega (arith, c.restore_star.auto))

pub returns : goal.returns
returns c = restoring-over c.loop-v.invariant (λ v next e. c.in_default.not-Good v next (c.parse_line.ensures ∙ e))
