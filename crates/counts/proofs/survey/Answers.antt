-- `counts::survey` meets its promise: the faces and their sides by one function, the degrees by another; together they are the records.
-- Assumes nothing.
use Rattle.std.proofs.Common.{ap, arith}
use Rattle.counts.specs.Counts.{counts_of}
use Rattle.counts.specs.DegreeLaws.{degrees-few, degrees-counts}
use Rattle.counts.specs.declared.corners.Counted.{Counted}
use Rattle.counts.proofs.survey.Goals as goal

pub overflow_add-counts : goal.overflow_add-counts
overflow_add-counts c =
    record { fits = omega (arith, degrees-few c.args.t.now c.requires.0 c.count_degrees-degrees.result c.count_degrees-degrees.ensures) }

pub overflow_add-counts-2 : goal.overflow_add-counts-2
overflow_add-counts-2 c =
    record { fits = omega (arith, degrees-few c.args.t.now c.requires.0 c.count_degrees-degrees.result c.count_degrees-degrees.ensures) }

pub overflow_add-counts-3 : goal.overflow_add-counts-3
overflow_add-counts-3 c =
    record { fits = omega (arith, degrees-few c.args.t.now c.requires.0 c.count_degrees-degrees.result c.count_degrees-degrees.ensures) }

pub overflow_add-counts-4 : goal.overflow_add-counts-4
overflow_add-counts-4 c =
    record { fits = omega (arith, degrees-few c.args.t.now c.requires.0 c.count_degrees-degrees.result c.count_degrees-degrees.ensures) }

pub returns : goal.returns
unfolding counts_of
returns c =
    let e = c.count_corners-corners.ensures in (
      degrees-counts c.args.t.now c.requires.0 c.count_degrees-degrees.result c.count_degrees-degrees.ensures _ _ (ap (λ (x : Counted). x.sides) e)
          (ap (λ (x : Counted). x.faces) e),
      ap (λ (x : Counted). x.plain) e,
    )
