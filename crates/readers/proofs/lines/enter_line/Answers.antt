-- `readers::enter_line` meets its promise: by where the search ended. Assumes nothing.
use Rattle.std.proofs.Common.{sym, ◌∙◌}
use Rattle.readers.specs.LineSteps.{entered-there, entered-free, entered-full, full-stays}
use Rattle.readers.proofs.lines.enter_line.Goals as goal

pub returns-in-At : goal.returns-in-At
returns-in-At c = record {
  value = entered-there c.args.table.now c.args.line c.args.entry c.in-At.field-0 (sym c.enter.ensures.value ∙ c.in-At.is);
  table_after = c.enter.ensures.t_after;
}

pub returns-in-Free : goal.returns-in-Free
returns-in-Free c = record {
  value = entered-free c.args.table.now c.args.line c.args.entry c.in-Free.field-0 (sym c.enter.ensures.value ∙ c.in-Free.is);
  table_after = c.enter.ensures.t_after;
}

pub returns-in-Full : goal.returns-in-Full
returns-in-Full c =
    let e = sym c.enter.ensures.value ∙ c.in-Full.is in
    record {
      value = entered-full c.args.table.now c.args.line c.args.entry e;
      table_after = c.enter.ensures.t_after ∙ full-stays c.args.table.now c.args.line c.args.entry e;
    }
