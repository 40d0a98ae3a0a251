-- How many: a sequence that has at each point at least as many subdivisions as another is at least as long. `plus-length`.
-- Assumes nothing.
use Rattle.std.specs.Prelude.{◌≡◌, refl, List, [], ◌∷◌, ℕ, suc, ◌≤◌, ◌<◌, length}
use Rattle.std.proofs.Common.{sym, ap, subst, arith}
use Rattle.lattice.specs.declared.points.Point.{Point}
use Rattle.growth.specs.Normal.{point?}
use Rattle.growth.specs.Model.{Counts, more}
use Rattle.growth.specs.Subdivide.{more-other}
use Rattle.growth.specs.GrownLaws.{more_same}
use Rattle.bring.specs.Runs.{Division, plus, plus-le}

-- one division at q taken out of the list, where there is one
record Out (q : Point) (c : Counts) (l : List Division) : Type 0 where
  rest : List Division
  less : length l ≡ suc (length rest)
  is : (p : Point) → plus l c p ≡ more q (plus rest c) p

swap : (x q p : Point) (a b : Counts) → a p ≡ more q b p → more x a p ≡ more q (more x b) p
unfolding more
swap x q p a b e = omega arith

take_out : (q : Point) (c : Counts) (l : List Division) → c q < plus l c q → Out q c l
unfolding plus
take_out q c [] h = absurd (omega arith)
take_out q c (x ∷ l) h = go (point? q x.0) (λ k. take_out q c l k)
  where
    go : Dec (q ≡ x.0) → (c q < plus l c q → Out q c l) → Out q c (x ∷ l)
    go (yes e) ih = record { rest = l; less = refl; is = λ p. ap (λ (y : Point). more y (plus l c) p) (sym e) }
    go (no n) ih =
        let o = ih (subst (λ (m : ℕ). c q < m) (more-other x.0 q (plus l c) n) h) in
        let s = o.less in
        record { rest = x ∷ o.rest; less = ap suc s; is = λ p. swap x.0 q p (plus l c) (plus o.rest c) (o.is p) }

more-cancel : (q p : Point) (a b : Counts) → more q a p ≤ more q b p → a p ≤ b p
unfolding more
more-cancel q p a b h = omega arith

pub plus-length : (c : Counts) (l k : List Division) → ((p : Point) → plus l c p ≤ plus k c p) → length l ≤ length k
unfolding plus
plus-length c [] k h = omega arith
plus-length c (x ∷ l) k h =
    let up = more_same x.0 (plus l c) in
    let lo = plus-le l c x.0 in
    let here = h x.0 in
    let o = take_out x.0 c k (omega arith) in
    let s = o.less in
    let ih =
    plus-length c l o.rest (λ p. more-cancel x.0 p (plus l c) (plus o.rest c) (subst (λ (n : ℕ). more x.0 (plus l c) p ≤ n) (o.is p) (h p))) in
    omega arith
