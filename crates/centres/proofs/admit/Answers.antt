-- `centres::admit` meets its promise: by the tests, in their order. Assumes nothing.
use Rattle.std.proofs.Common.{◌≡◌, sym, ap, subst, ◌∙◌, refl, ℕ, ℤ, List, Bool, true, not}
use Rattle.centres.specs.Centres.{centre_at, good_centre, bad_at}
use Rattle.centres.specs.Marks.{Marked, number_of}
use Rattle.centres.specs.MarkLaws.{listed-marked, marks-more, bad-listed}
use Rattle.marks.specs.Marks.{marked_at, Marks}
use Rattle.std.specs.Prelude.{eqb}
use Rattle.lattice.specs.declared.points.Point.{Point}
use Rattle.centres.proofs.admit.Goals as goal

-- the tests of the list's centre are those of the point that was read
good-at : (cs : List ℤ) (i : ℕ) (p : Point) (b : Bool) → p ≡ centre_at cs i → b ≡ good_centre p → good_centre (centre_at cs i) ≡ b
good-at cs i p b e f = ap good_centre (sym e) ∙ sym f

listed-at : (m : List ℕ) (cs : List ℤ) (i : ℕ) (p : Point) (k : ℕ) (b : Bool) → Marked m cs i → p ≡ centre_at cs i → k ≡ number_of p → good_centre (centre_at cs i) ≡ true
    → b ≡ marked_at m k → not b ≡ not (bad_at cs i)
listed-at m cs i p k b h e f g is =
    ap not (is ∙ ap (marked_at m) (f ∙ ap number_of e) ∙ listed-marked m cs i (centre_at cs i) h refl g) ∙ bad-listed cs i g

pub returns-then-marked-clause-value : goal.returns-then-marked-clause-value
returns-then-marked-clause-value c =
    let cs = c.args.centres.now in
    let i = c.args.i in
    let g = good-at cs i _ _ c.centre_at-p.ensures c.is_good.ensures ∙ c.if-not-is_good.false in
    ap not (sym c.if-marked.true) ∙ listed-at c.args.marks.now cs i _ _ _ c.requires.marked c.centre_at-p.ensures c.number-k.ensures.0 g c.marked.ensures

pub returns-clause-value : goal.returns-clause-value
returns-clause-value c =
    let cs = c.args.centres.now in
    let i = c.args.i in
    let g = good-at cs i _ _ c.centre_at-p.ensures c.is_good.ensures ∙ c.if-not-is_good.false in
    ap not (sym c.if-marked.false) ∙ listed-at c.args.marks.now cs i _ _ _ c.requires.marked c.centre_at-p.ensures c.number-k.ensures.0 g c.marked.ensures

pub returns-clause-marked_2 : goal.returns-clause-marked_2
returns-clause-marked_2 c =
    let cs = c.args.centres.now in
    let i = c.args.i in
    let m = c.args.marks.now in
    let g = good-at cs i _ _ c.centre_at-p.ensures c.is_good.ensures ∙ c.if-not-is_good.false in
    let at = c.number-k.ensures.0 ∙ ap number_of c.centre_at-p.ensures in
    λ q. marks-more m c.mark.new.marks cs i c.requires.marked g (subst (λ (n : ℕ). Marks m (eqb n) c.mark.new.marks) at c.mark.ensures)
