-- `census_text::census` meets its promise: by whether the input was read. Assumes nothing.
use Rattle.std.proofs.Common.{◌≤◌, ◌∙◌, length, refl}
use Rattle.std.proofs.Math.Path.{ap, subst}
use Rattle.lattice.specs.RefusalLaws.{number-some}
use Rattle.lattice.specs.Refusals.{number_of}
use Rattle.grown.specs.Grown.{is-grown}
use Rattle.counts.specs.declared.Counts.{Counts}
use Rattle.census_text.specs.Census.{counts_text, put_text}
use Rattle.census_text.specs.InputLaws.{input-line, input-grown, census-refused, refused-most, census-counted, counted-most}
use Rattle.census_text.proofs.census.Goals as goal

pub put_refused-requires : goal.put_refused-requires
put_refused-requires c =
    let f = c.in-Err.fault in
    input-line c.args.table.now c.args.scratch.now c.args.input.now (number_of f.why) f.line c.read_input.new.table c.read_input.new.scratch c.in-Err.ensures

pub returns-in-Err-clause-answer : goal.returns-in-Err-clause-answer
returns-in-Err-clause-answer c =
    let f = c.in-Err.fault in
    census-refused c.args.table.now c.args.scratch.now c.args.input.now (number_of f.why) f.line c.read_input.new.table c.read_input.new.scratch
    c.in-Err.ensures (number-some f.why) c.args.out.now _ c.put_refused.ensures.out_after

pub returns-in-Err-clause-text_bound : goal.returns-in-Err-clause-text_bound
returns-in-Err-clause-text_bound c =
    let f = c.in-Err.fault in
    refused-most c.args.table.now c.args.scratch.now c.args.input.now (number_of f.why) f.line c.read_input.new.table c.read_input.new.scratch
    c.in-Err.ensures (number-some f.why) c.put_refused.ensures.line_len_bound

pub tally-counted-requires : goal.tally-counted-requires
tally-counted-requires c =
    let r = c.read_input in (
      is-grown r.new.table (input-grown c.args.table.now c.args.scratch.now c.args.input.now 0 0 r.new.table r.new.scratch c.in_default.ensures refl),
      c.slots_of-n.ensures,
    )

pub returns-clause-answer : goal.returns-clause-answer
returns-clause-answer c =
    let r = c.read_input in
    census-counted c.args.table.now c.args.scratch.now c.args.input.now 0 0 r.new.table r.new.scratch c.in_default.ensures refl c.args.out.now _
    (c.put_counts.ensures.out_after ∙ ap (λ (x : Counts). put_text 0 (counts_text x) c.args.out.now) c.tally-counted.ensures)

pub returns-clause-text_bound : goal.returns-clause-text_bound
returns-clause-text_bound c =
    let r = c.read_input in
    counted-most c.args.table.now c.args.scratch.now c.args.input.now 0 0 r.new.table r.new.scratch c.in_default.ensures refl
    (subst (λ (x : Counts). length (counts_text x) ≤ 128) c.tally-counted.ensures c.put_counts.ensures.c_len_bound)
