-- One point more.
use Rattle.std.proofs.Common.{◌≡◌, ℕ, Bool, ap, subst, arith}
use Rattle.marks.specs.Marks.{Marks, marks-same, marks-more}
use Rattle.lattice.specs.Stars.{adjacent_at}
use Rattle.lattice.specs.declared.points.Point.{Point}
use Rattle.table.specs.Search.{find_of}
use Rattle.table.specs.Order.{is_at}
use Rattle.writers.specs.Named.{star_finds}
use Rattle.writers.proofs.named.mark_star.Goals as goal

pub loop-j-preserved : goal.loop-j-preserved
loop-j-preserved c =
    let t = c.args.table.now in
    let finds : ℕ → ℕ → Bool = λ k i. is_at (find_of t (adjacent_at c.args.v k)) i in
    marks-more c.args.marks.now c.loop-j.marks _ finds c.loop-j.j c.loop-j.invariant
    (marks-same c.loop-j.marks _ (is_at (find_of t c.point_at.result)) (finds c.loop-j.j)
    (λ i. ap (λ (x : Point). is_at (find_of t x) i) c.point_at.ensures) c.mark_point.ensures)

pub returns : goal.returns
returns c =
    let e : c.loop-j.j ≡ 6 = omega arith in
    subst (λ (x : ℕ). Marks c.args.marks.now (star_finds c.args.table.now c.args.v x) c.loop-j.marks) e c.loop-j.invariant
