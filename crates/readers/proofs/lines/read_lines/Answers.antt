-- `readers::read_lines` meets its promise. Assumes nothing.
use Rattle.std.proofs.Common.{sym, ◌∙◌, ap, subst, arith, Ok, Option}
use Rattle.readers.specs.FaultLaws.{handed-on}
use Rattle.readers.specs.LineSteps.{line_before, table_after, Underway, underway-start, underway-ended, underway-fault, underway-next, underway-more}
use Rattle.readers.specs.declared.lines.Entry.{Entry}
use Rattle.readers.proofs.lines.read_lines.Goals as goal

pub loop-entry-init : goal.loop-entry-init
loop-entry-init c = underway-start c.args.file.now c.args.table.now

pub returns-in_err-entry : goal.returns-in_err-entry
returns-in_err-entry c =
    let k = c.loop-entry in
    rw (handed-on c.from_residual.ensures.1)
    (underway-fault c.args.file.now c.args.table.now k.at k.line (line_before k.line k.last) k.table k.invariant c.in_err-entry.field-0.0 c.read_line.new.table
    c.in_err-entry.ensures.value)

pub loop-entry-smaller : goal.loop-entry-smaller
loop-entry-smaller c =
    let k = c.loop-entry in
    omega (
      arith,
      underway-next c.args.file.now c.args.table.now k.at k.line (line_before k.line k.last) k.table k.invariant c.in-Some.entry
          (sym (ap Ok c.in-Some.is) ∙ c.in_ok-entry.ensures.value),
    )

pub loop-entry-preserved : goal.loop-entry-preserved
loop-entry-preserved c =
    let k = c.loop-entry in
    let x = c.in-Some.entry in
    subst (Underway c.args.file.now c.args.table.now x.next x.after (line_before x.after x.vertex))
    (sym (c.in_ok-entry.ensures.table_after ∙ ap (λ (o : Option Entry). table_after k.table (Ok o)) c.in-Some.is))
    (underway-more c.args.file.now c.args.table.now k.at k.line (line_before k.line k.last) k.table k.invariant x
    (sym (ap Ok c.in-Some.is) ∙ c.in_ok-entry.ensures.value))

pub returns : goal.returns
returns c =
    let k = c.loop-entry in
    underway-ended c.args.file.now c.args.table.now k.at k.line (line_before k.line k.last) k.table k.invariant c.in_ok-entry.field-0
    c.in_ok-entry.ensures.value c.in_default.not-Some c.read_line.new.table c.in_ok-entry.ensures.table_after
