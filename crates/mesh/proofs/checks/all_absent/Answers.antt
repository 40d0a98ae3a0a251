-- `mesh::checks::all_absent` meets its promise. Assumes nothing.
use Rattle.std.specs.Prelude.{Option}
use Rattle.lattice.specs.declared.records.Record.{Record}
use Rattle.std.proofs.Common.{◌≡◌, sym, ◌∙◌, ap, ◌+◌, not, true, false, arith}
use Rattle.std.proofs.Math.ListN.{length-set}
use Rattle.laws.specs.Each.{upto-more, upto-fails}
use Rattle.laws.specs.Rules.{upto}
use Rattle.lattice.specs.Stars.{adjacent_at}
use Rattle.table.specs.Search.{find_of}
use Rattle.table.specs.Entries.{look_up, is_held, holds}
use Rattle.table.specs.MapLaws.{table_of, at_held, at-free, at-full}
use Rattle.table.specs.declared.probe.Found.TheVariants as found
use Rattle.mesh.specs.MetLaws.{stopped_more}
use Rattle.mesh.proofs.checks.all_absent.Goals as goal
use Rattle.mesh.proofs.checks.all_absent.Goals.{in-Free, in-Full}

pub returns-in-At : goal.returns-in-At
returns-in-At c =
    let a = c.args in
    let j = c.loop-j.j in
    let e : find_of a.t.now (adjacent_at a.c j) ≡ found.At c.in-At.field-0 = rw (← c.point_at.ensures) (sym c.in-At.ensures.value) in
    let x = at_held a.t.now (table_of a.t.now a.n c.requires.0) (adjacent_at a.c j) c.in-At.field-0 e in
    upto-fails (λ k. not (holds a.t.now (adjacent_at a.c k))) j 6 c.loop-j-test.true (ap (λ (l : Option Record). not (is_held l)) x.looked)

pub loop-j-preserved : goal.loop-j-preserved
loop-j-preserved c =
    let a = c.args in
    let t = a.t.now in
    let j = c.loop-j.j in
    let p = adjacent_at a.c j in
    let i = c.loop-j.invariant in
    let fit = table_of t a.n c.requires.0 in
    let e : find_of t p ≡ c.find.result = rw (← c.point_at.ensures) (sym c.find.ensures.value) in
    let more : is_held (look_up t p) ≡ false → upto (j + 1) (λ k. not (holds t (adjacent_at a.c k))) ≡ true =
    λ h. upto-more (λ k. not (holds t (adjacent_at a.c k))) j i.absent (ap not h) in
    elim c.match-find.branch [
      | in-Free w ↦
          let x = e ∙ w.in-Free.is in
          record {
            absent = more (ap is_held (at-free t fit p w.in-Free.i x).looked);
            long = rw w.slots-is (simp length-set i.long);
            stopped_at = λ some.
                rw (w.slots-is, w.from.ensures) (stopped_more t a.c c.loop-j.slots j w.in-Free.i (omega (arith, i.long)) (i.stopped_at some) x);
          }
      | in-Full w ↦
          let x = at-full t fit p (e ∙ w.in-Full.is) in
          record { absent = more (ap is_held x.0); long = rw w.slots-is i.long; stopped_at = λ some. absurd (omega (arith, x.1)) }
    ]

pub returns : goal.returns
returns c = let e : c.loop-j.j ≡ 6 = omega arith in (rw e at c.loop-j.invariant.absent, rw e at c.loop-j.invariant.stopped_at)
