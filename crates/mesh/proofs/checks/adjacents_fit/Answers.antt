-- `mesh::checks::adjacents_fit` meets its promise. Assumes nothing.
use Rattle.std.specs.Prelude.{None}
use Rattle.std.proofs.Common.{◌≡◌, sym, ◌∙◌, arith}
use Rattle.std.proofs.Math.ListN.{length-set}
use Rattle.laws.specs.Each.{upto-more, upto-fails}
use Rattle.lattice.specs.Stars.{adjacent_at}
use Rattle.table.specs.Search.{find_of}
use Rattle.table.specs.Entries.{look_up}
use Rattle.table.specs.declared.probe.Found.TheVariants as found
use Rattle.mesh.specs.Subdivide.{adjacent_fits}
use Rattle.mesh.specs.WriteLaws.{ready-inner}
use Rattle.mesh.specs.MetLaws.{old-more, looked-met, looked-missed}
use Rattle.mesh.proofs.checks.adjacents_fit.Goals as goal

pub point_at-requires-clause-inner : goal.point_at-requires-clause-inner
point_at-requires-clause-inner c = let r = c.requires.1.0 in (ready-inner r, omega (arith, r.six, c.loop-j-test.true))

pub returns-in_default : goal.returns-in_default
returns-in_default c =
    let a = c.args in
    let j = c.loop-j.j in
    let p = adjacent_at a.v j in
    let l : look_up a.t.now p ≡ None = looked-missed a.t.now p c.find.result (rw c.point_at.ensures at c.find.ensures.value) c.in_default.not-At in
    upto-fails (adjacent_fits a.t.now a.v) j 6 c.loop-j-test.true (rw l)

pub returns-then-not-fits_in : goal.returns-then-not-fits_in
returns-then-not-fits_in c =
    let a = c.args in
    let j = c.loop-j.j in
    let e : found.At c.in-At.i ≡ find_of a.t.now (adjacent_at a.v j) = rw c.point_at.ensures at c.in-At.ensures.value in
    let l = looked-met a.t.now (adjacent_at a.v j) c.in-At.i e in
    upto-fails (adjacent_fits a.t.now a.v) j 6 c.loop-j-test.true (rw l (sym c.fits_in.ensures ∙ c.if-not-fits_in.true))

pub loop-j-preserved : goal.loop-j-preserved
loop-j-preserved c =
    let a = c.args in
    let j = c.loop-j.j in
    let e : found.At c.in-At.i ≡ find_of a.t.now (adjacent_at a.v j) = rw c.point_at.ensures at c.in-At.ensures.value in
    let l = looked-met a.t.now (adjacent_at a.v j) c.in-At.i e in
    record {
      fit = upto-more (adjacent_fits a.t.now a.v) j c.loop-j.invariant.fit (rw l (sym c.fits_in.ensures ∙ c.if-not-fits_in.false));
      long = simp length-set c.loop-j.invariant.long;
      old_in = rw c.from.ensures (old-more a.t.now a.v c.loop-j.slots j c.in-At.i (omega arith) c.loop-j.invariant.old_in (sym e));
    }

pub returns : goal.returns
returns c = let e : c.loop-j.j ≡ 6 = omega arith in (rw e at c.loop-j.invariant.fit, rw e at c.loop-j.invariant.old_in)
