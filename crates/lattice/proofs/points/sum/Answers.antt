-- `lattice::points::sum` meets its promise. Assumes nothing.
use Rattle.std.proofs.Common.{◌≡◌, sym, subst, ◌∙◌, to_z-of_z}
use Rattle.lattice.specs.Points.{pt}
use Rattle.lattice.specs.Terms.{terms_of, Light, terms-light}
use Rattle.lattice.proofs.points.sum.Goals as goal

pub added-requires : goal.added-requires
added-requires c =
    let a = c.args in
    let f = c.ranges in
    let p = pt a.a a.b a.m.0 in
    let q = pt a.x a.y a.n.0 in
    let e : c.brought.result ≡ terms_of p q =
    c.brought.ensures ∙ (λ i. terms_of (pt (to_z-of_z f.a i) (to_z-of_z f.b i) a.m.0) (pt (to_z-of_z f.x i) (to_z-of_z f.y i) a.n.0)) in
    subst Light (sym e) (terms-light p q c.requires.0 c.requires.1)
