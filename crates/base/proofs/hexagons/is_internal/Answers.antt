-- `base::is_internal` meets its promise. Assumes nothing.
use Rattle.std.proofs.Common.{◌≡◌, ℕ, refl, sym, ap, subst, ◌∙◌, ◌<◌, arith}
use Rattle.laws.specs.Each.{upto-more, upto-fails}
use Rattle.laws.specs.Rules.{upto}
use Rattle.lattice.specs.PointLaws.{turns-zero, turns-suc}
use Rattle.lattice.specs.Points.{sum_of, turn60_of}
use Rattle.lattice.specs.declared.points.Point.{Point}
use Rattle.centres.specs.Marks.{in_marks}
use Rattle.base.specs.Laying.{Within}
use Rattle.base.specs.Base.{corner_of, hexagon_listed, internal}
use Rattle.base.specs.LayLaws.{step_to, step-near, corner-within}
use Rattle.base.proofs.hexagons.is_internal.Goals as goal

-- the step is short
near : (step : Point) (j : ℕ) → step ≡ step_to j → j < 6 → Within 1 step
near step j e h = subst (Within 1) (sym e) (step-near j h)

pub loop-j-init : goal.loop-j-init
loop-j-init c = record { step = turns-zero _; marked = refl }

pub beside-requires : goal.beside-requires
beside-requires c = (c.requires, near c.loop-j.step c.loop-j.j c.loop-j.invariant.step (omega arith))

pub hexagon_marked-requires : goal.hexagon_marked-requires
hexagon_marked-requires c =
    ap (λ (p : Point). p.m.0) (c.beside.ensures ∙ ap (sum_of c.args.q) c.loop-j.invariant.step)
    ∙ (corner-within 251 c.args.q c.loop-j.j c.requires (omega arith)).depth

pub returns-then-not-hexagon_marked : goal.returns-then-not-hexagon_marked
unfolding internal
returns-then-not-hexagon_marked c =
    let m = c.args.marks.now in
    let e = c.beside.ensures ∙ ap (sum_of c.args.q) c.loop-j.invariant.step in
    let here = c.hexagon_marked.ensures ∙ ap (hexagon_listed (in_marks m)) e in
    sym (upto-fails (λ j. hexagon_listed (in_marks m) (corner_of c.args.q j)) c.loop-j.j 6 (omega arith) (sym here ∙ c.if-not-hexagon_marked.true))

pub turn60-step-requires : goal.turn60-step-requires
turn60-step-requires c =
    let n = near c.loop-j.step c.loop-j.j c.loop-j.invariant.step (omega arith) in
    (omega (arith, n.wide), omega (arith, n.high))

pub loop-j-preserved : goal.loop-j-preserved
loop-j-preserved c =
    let m = c.args.marks.now in
    let e = c.beside.ensures ∙ ap (sum_of c.args.q) c.loop-j.invariant.step in
    let here = c.hexagon_marked.ensures ∙ ap (hexagon_listed (in_marks m)) e in
    let marked = λ (j : ℕ). hexagon_listed (in_marks m) (corner_of c.args.q j) in
    record {
      step = c.turn60-step.ensures ∙ ap turn60_of c.loop-j.invariant.step ∙ turns-suc c.loop-j.j _;
      marked = upto-more marked c.loop-j.j c.loop-j.invariant.marked (sym here ∙ c.if-not-hexagon_marked.false);
    }

pub returns : goal.returns
unfolding internal
returns c =
    let e : c.loop-j.j ≡ 6 = omega arith in
    sym (ap (λ (n : ℕ). upto n (λ j. hexagon_listed (in_marks c.args.marks.now) (corner_of c.args.q j))) (sym e) ∙ c.loop-j.invariant.marked)
