-- The cycle of `bring_to_six` and `subdivide_neighbour` meets its promises. Assumes nothing.
use Rattle.std.proofs.Common.{sym, ◌∙◌, ap, arith}
use Rattle.std.proofs.lemmas.Result.{err_from_is_err_and}
use Rattle.laws.specs.Choices.{of-true}
use Rattle.lattice.specs.RecordLaws.{valid-level}
use Rattle.lattice.specs.declared.refusals.Refusal.TheVariants.{Torn, AtTheRim}
use Rattle.table.specs.MapLaws.{lookup-valid, at_room}
use Rattle.mesh.specs.Subdivide.{subdivide_vertex}
use Rattle.mesh.specs.StepLaws.{leaves-here, leaves_same, given-after}
use Rattle.bring.specs.Bring.{is_six, near_of}
use Rattle.bring.specs.ChainLaws.{located, slot_is, standing-inner, turning-start, turning-six, turning-short, turning-stop, turning-more}
use Rattle.bring.specs.ChainLaws.{near-absent, near-rim, near-six, near-other, near-far, near-stop, near_on}
use Rattle.bring.proofs.chain.+bring_to_six_subdivide_neighbour.Goals as goal

pub bring_to_six-overflow_sub-count : goal.bring_to_six-overflow_sub-count
bring_to_six-overflow_sub-count t c = let l = c.requires.1.1.1 in (standing-inner c.requires.1.0 (λ z. omega arith)).top

pub bring_to_six-loop-j-init : goal.bring_to_six-loop-j-init
bring_to_six-loop-j-init t c =
    let l = c.requires.1.1.1 in
    turning-start c.args.t.now c.args.v c.args.n c.args.free l (standing-inner c.requires.1.0 (λ z. omega arith)).top c.requires.0

pub bring_to_six-adjacent_of-requires : goal.bring_to_six-adjacent_of-requires
bring_to_six-adjacent_of-requires t c =
    let l = c.requires.1.1.1 in
    (standing-inner c.requires.1.0 (λ z. omega arith), omega (arith, l, c.loop-j-test.true))

pub bring_to_six-returns-in_err-left : goal.bring_to_six-returns-in_err-left
bring_to_six-returns-in_err-left t c =
    let p = err_from_is_err_and c.from_residual.result c.from_residual.ensures.1 in
    let l = c.loop-j in
    let a = rw c.adjacent_of.ensures at c.in_err-left.ensures in
    rw (p.1, p.2) (turning-stop c.args.t.now c.args.v c.args.n l.t l.left l.j l.invariant c.loop-j-test.true c.subdivide_neighbour.new.t _ a)

pub bring_to_six-loop-j-preserved : goal.bring_to_six-loop-j-preserved
bring_to_six-loop-j-preserved t c =
    let l = c.loop-j in
    turning-more c.args.t.now c.args.v c.args.n l.t l.left l.j l.invariant c.loop-j-test.true c.subdivide_neighbour.new.t c.in_ok-left.left
    (rw c.adjacent_of.ensures at c.in_ok-left.ensures)

pub bring_to_six-ends_six-requires : goal.bring_to_six-ends_six-requires
bring_to_six-ends_six-requires t c =
    let i = c.loop-j.invariant in
    at_room c.loop-j.t c.args.n i.given.table c.args.v.at c.args.i (i.stays c.args.v.at c.args.i c.requires.1.1.0)

pub bring_to_six-returns-then-ends_six : goal.bring_to_six-returns-then-ends_six
bring_to_six-returns-then-ends_six t c =
    let l = c.loop-j in
    let at = c.args.v.at in
    let six = sym (ap is_six (slot_is l.t at c.args.i (l.invariant.stays at c.args.i c.requires.1.1.0))) in
    turning-six c.args.t.now c.args.v c.args.n l.t l.left l.j l.invariant c.loop-j-test.false (six ∙ sym c.ends_six.ensures ∙ c.if-ends_six.true)

pub bring_to_six-returns : goal.bring_to_six-returns
bring_to_six-returns t c =
    let l = c.loop-j in
    let at = c.args.v.at in
    let six = sym (ap is_six (slot_is l.t at c.args.i (l.invariant.stays at c.args.i c.requires.1.1.0))) in
    let less = six ∙ sym c.ends_six.ensures ∙ c.if-ends_six.false in
    let short = turning-short c.args.t.now c.args.v c.args.n l.t l.left l.j l.invariant c.loop-j-test.false less in
    rw l.invariant.given.free at short

pub subdivide_neighbour-returns-in_default : goal.subdivide_neighbour-returns-in_default
subdivide_neighbour-returns-in_default t c =
    let a = c.args in
    leaves-here a.t.now a.n a.free c.requires (near_of a.level.0 a.t.now a.p) Torn (near-absent a.level.0 a.t.now a.p c.in_default.ensures)

pub subdivide_neighbour-returns-then-d-eq0 : goal.subdivide_neighbour-returns-then-d-eq0
subdivide_neighbour-returns-then-d-eq0 t c =
    let a = c.args in
    leaves-here a.t.now a.n a.free c.requires (near_of a.level.0 a.t.now a.p) AtTheRim
    (near-rim a.level.0 a.t.now a.p c.in-Some.u c.in-Some.ensures.0 c.if-d-eq0.true)

pub subdivide_neighbour-returns-then-own-level : goal.subdivide_neighbour-returns-then-own-level
subdivide_neighbour-returns-then-own-level t c =
    let a = c.args in
    leaves-here a.t.now a.n a.free c.requires (near_of a.level.0 a.t.now a.p) Torn
    (near-other a.level.0 a.t.now a.p c.in-Some.u c.in-Some.ensures.0 c.if-d-eq0.false c.if-d-eq6.true c.if-own-level.true)

pub subdivide_neighbour-subdivide_held-requires : goal.subdivide_neighbour-subdivide_held-requires
subdivide_neighbour-subdivide_held-requires t c = (c.requires, located c.requires.order c.args.p c.in-Some.u c.in-Some.i c.in-Some.ensures)

pub subdivide_neighbour-returns-then-d-eq6 : goal.subdivide_neighbour-returns-then-d-eq6
subdivide_neighbour-returns-then-d-eq6 t c =
    let a = c.args in
    leaves_same a.t.now (subdivide_vertex a.t.now c.in-Some.u) (near_of a.level.0 a.t.now a.p) c.subdivide_held.result c.subdivide_held.new.t
    (near-six a.level.0 a.t.now a.p c.in-Some.u c.in-Some.ensures.0 c.if-d-eq0.false c.if-d-eq6.true c.if-own-level.false)
    c.subdivide_held.ensures

pub subdivide_neighbour-overflow_add-own : goal.subdivide_neighbour-overflow_add-own
subdivide_neighbour-overflow_add-own t c =
    let v = valid-level c.in-Some.u (of-true (lookup-valid c.args.t.now c.requires.order c.args.p c.in-Some.u c.in-Some.ensures.0)) in
    record { fits = omega arith }

pub subdivide_neighbour-returns-then-own-level-2 : goal.subdivide_neighbour-returns-then-own-level-2
subdivide_neighbour-returns-then-own-level-2 t c =
    let a = c.args in
    leaves-here a.t.now a.n a.free c.requires (near_of a.level.0 a.t.now a.p) Torn
    (near-far a.level.0 a.t.now a.p c.in-Some.u c.in-Some.ensures.0 c.if-d-eq0.false c.if-d-eq6.false c.if-own-level-2.true)

pub subdivide_neighbour-bring_to_six-requires : goal.subdivide_neighbour-bring_to_six-requires
subdivide_neighbour-bring_to_six-requires t c =
    let m = c.decreases in
    let one = c.if-own-level-2.false in
    let here = located c.requires.order c.args.p c.in-Some.u c.in-Some.i c.in-Some.ensures in
    (omega arith, (c.requires, (here.0, (here.1, (standing-inner here.0 c.if-d-eq0.false).low))))

pub subdivide_neighbour-returns-in_err-left : goal.subdivide_neighbour-returns-in_err-left
subdivide_neighbour-returns-in_err-left t c =
    let a = c.args in
    let p = err_from_is_err_and c.from_residual.result c.from_residual.ensures.1 in
    rw (p.1, p.2)
    (near-stop a.level.0 a.t.now a.p c.in-Some.u c.in-Some.ensures.0 c.if-d-eq0.false c.if-d-eq6.false c.if-own-level-2.false _ c.bring_to_six.new.t
    c.in_err-left.ensures)

pub subdivide_neighbour-subdivide_raised-requires : goal.subdivide_neighbour-subdivide_raised-requires
subdivide_neighbour-subdivide_raised-requires t c =
    let u = c.in-Some.u in
    let slot = (located c.requires.order c.args.p u c.in-Some.i c.in-Some.ensures).1 in
    (given-after c.requires c.in_ok-left.ensures, record { point = u.at; ends = c.in_ok-left.ensures.stays u.at c.in-Some.i slot })

pub subdivide_neighbour-returns : goal.subdivide_neighbour-returns
subdivide_neighbour-returns t c =
    let a = c.args in
    let u = c.in-Some.u in
    let i = c.in-Some.i in
    let slot = (located c.requires.order a.p u i c.in-Some.ensures).1 in
    let b = c.in_ok-left.ensures in
    let t' = c.bring_to_six.new.t in
    let r = c.subdivide_raised in
    near_on a.level.0 a.t.now a.p u c.in-Some.ensures.0 c.if-d-eq0.false c.if-d-eq6.false c.if-own-level-2.false c.in_ok-left.left t' b r.result r.new.t
    (rw (sym (slot_is t' u.at i (b.stays u.at i slot))) r.ensures)
