-- `base::lay_corners` meets its promise. Assumes nothing.
use Rattle.std.proofs.Common.{◌≡◌, List, ℕ, Bool, true, false, sym, ap, subst, ◌∙◌, ◌+◌, ◌<◌, arith}
use Rattle.table.specs.SlotLaws.{table_same}
use Rattle.lattice.specs.PointLaws.{turns-zero, turns-suc}
use Rattle.lattice.specs.Points.{sum_of, turn60_of}
use Rattle.lattice.specs.declared.points.Point.{Point}
use Rattle.centres.specs.Marks.{in_marks}
use Rattle.base.specs.Laying.{Within, laid_by, lay_corners}
use Rattle.base.specs.Base.{corner_of, corner_record, Room, lay}
use Rattle.base.specs.LayLaws.{step_to, step-near, corner-within, corners-none, corners-more, corners-full}
use Rattle.base.proofs.hexagons.lay_corners.Goals as goal

-- the step is short
near : (step : Point) (j : ℕ) → step ≡ step_to j → j < 6 → Within 1 step
near step j e h = subst (Within 1) (sym e) (step-near j h)

wider : {p : Point} → Within 250 p → Within 251 p
wider w = record { wide = omega (arith, w.wide); high = omega (arith, w.high); depth = w.depth }

-- one corner more
more : (m t u v : List ℕ) (p q : Point) (j : ℕ) (b : Bool) → lay_corners (in_marks m) p j (Room t) ≡ Room u → q ≡ corner_of p j
    → laid_by b v ≡ lay (Room u) (corner_record (in_marks m) q) → (w : Bool) → b ≡ w → lay_corners (in_marks m) p (j + 1) (Room t) ≡ laid_by w v
more m t u v p q j b e at laid w h =
    corners-more (in_marks m) p (Room t) j (Room u) e ∙ ap (λ (q : Point). lay (Room u) (corner_record (in_marks m) q)) (sym at)
    ∙ sym laid ∙ ap (λ (x : Bool). laid_by x v) h

pub loop-j-init : goal.loop-j-init
loop-j-init c = record { step = turns-zero _; laid = corners-none (in_marks c.args.marks.now) c.args.p (Room c.args.table.now) }

pub beside-requires : goal.beside-requires
beside-requires c = (wider c.requires.1, near c.loop-j.step c.loop-j.j c.loop-j.invariant.step (omega arith))

pub lay_corner-requires : goal.lay_corner-requires
lay_corner-requires c = (
  table_same c.args.table.now c.loop-j.table c.args.n c.loop-j.auto.table c.requires.0,
  subst (Within 251) (sym (c.beside.ensures ∙ ap (sum_of c.args.p) c.loop-j.invariant.step)) (corner-within 250 c.args.p c.loop-j.j c.requires.1 (omega arith)),
)

pub returns-then-not-lay_corner : goal.returns-then-not-lay_corner
returns-then-not-lay_corner c =
    let m = c.args.marks.now in
    let at = c.beside.ensures ∙ ap (sum_of c.args.p) c.loop-j.invariant.step in
    let e = more m c.args.table.now c.loop-j.table c.lay_corner.new.table c.args.p c.beside.result c.loop-j.j c.lay_corner.result
    c.loop-j.invariant.laid at c.lay_corner.ensures false c.if-not-lay_corner.true in
    sym (corners-full (in_marks m) c.args.p (Room c.args.table.now) 6 (c.loop-j.j + 1) (omega arith) e)

pub turn60-step-requires : goal.turn60-step-requires
turn60-step-requires c =
    let n = near c.loop-j.step c.loop-j.j c.loop-j.invariant.step (omega arith) in
    (omega (arith, n.wide), omega (arith, n.high))

pub loop-j-preserved : goal.loop-j-preserved
loop-j-preserved c =
    let m = c.args.marks.now in
    let at = c.beside.ensures ∙ ap (sum_of c.args.p) c.loop-j.invariant.step in
    record {
      step = c.turn60-step.ensures ∙ ap turn60_of c.loop-j.invariant.step ∙ turns-suc c.loop-j.j _;
      laid = more m c.args.table.now c.loop-j.table c.lay_corner.new.table c.args.p c.beside.result c.loop-j.j c.lay_corner.result
          c.loop-j.invariant.laid at c.lay_corner.ensures true c.if-not-lay_corner.false;
    }

pub returns : goal.returns
returns c =
    let e : c.loop-j.j ≡ 6 = omega arith in
    sym (ap (λ (k : ℕ). lay_corners (in_marks c.args.marks.now) c.args.p k (Room c.args.table.now)) (sym e) ∙ c.loop-j.invariant.laid)
