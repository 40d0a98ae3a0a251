-- `salvage::listing::had_line` meets its promise: by where the search ended. Assumes nothing.
use Rattle.std.proofs.Common.{sym, ap, ◌∙◌, eqb, arith}
use Rattle.marks.specs.Marks.{marks-same, marks-false}
use Rattle.table.specs.Search.{find_of}
use Rattle.table.specs.Order.{is_at}
use Rattle.table.specs.MapLaws.{at_room}
use Rattle.table.specs.declared.probe.Found.{Found}
use Rattle.salvage.specs.ListLaws.{marked_where}
use Rattle.salvage.proofs.listing.had_line.Goals as goal

pub marked-had-requires : goal.marked-had-requires
marked-had-requires c =
    omega (arith, at_room c.args.table.now c.args.n c.requires c.args.p c.in-At.i (sym c.find.ensures.value ∙ c.in-At.is))

pub mark-requires : goal.mark-requires
mark-requires c =
    omega (arith, at_room c.args.table.now c.args.n c.requires c.args.p c.in-At.i (sym c.find.ensures.value ∙ c.in-At.is))

pub returns-in-At : goal.returns-in-At
returns-in-At c =
    let e = sym c.find.ensures.value ∙ c.in-At.is in
    record {
      value = c.marked-had.ensures ∙ sym (ap (λ (x : Found). marked_where x c.args.marks.now) e);
      marks = marks-same c.args.marks.now _ (eqb c.in-At.i) (is_at (find_of c.args.table.now c.args.p)) (λ j. ap (λ (x : Found). is_at x j) (sym e))
          c.mark.ensures;
    }

pub returns-in-Free : goal.returns-in-Free
returns-in-Free c =
    let e = sym c.find.ensures.value ∙ c.in-Free.is in
    record {
      value = sym (ap (λ (x : Found). marked_where x c.args.marks.now) e);
      marks = marks-false c.args.marks.now (is_at (find_of c.args.table.now c.args.p)) (λ j. ap (λ (x : Found). is_at x j) e);
    }

pub returns-in-Full : goal.returns-in-Full
returns-in-Full c =
    let e = sym c.find.ensures.value ∙ c.in-Full.is in
    record {
      value = sym (ap (λ (x : Found). marked_where x c.args.marks.now) e);
      marks = marks-false c.args.marks.now (is_at (find_of c.args.table.now c.args.p)) (λ j. ap (λ (x : Found). is_at x j) e);
    }
