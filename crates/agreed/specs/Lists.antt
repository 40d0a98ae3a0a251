-- Every sequence of accepted subdivisions has its list, so that what Tables says of lists is said of every grown table.
-- `numbers` a list of pairs as numbers a, b, m, level, .. in the order made · `left-spelled` it spells them · `reached-left`, `grown-left` every table that
-- the calls reach, and every grown table, has such a sequence.
-- Assumes nothing.
use Rattle.std.specs.Prelude.{◌≡◌, refl, List, [], ◌∷◌, ◌++◌, ℕ, ◌+◌, ◌*◌, ◌≤◌, ◌<◌, T, ℤ, pos, nat_abs, length, get_or}
use Rattle.std.proofs.Common.{sym, ◌∙◌, ap, subst, arith, zero-add, suc-add, lt-ltb, length-append}
use Rattle.std.proofs.Math.ListN.{get_or-append}
use Rattle.laws.specs.Choices.{of-true}
use Rattle.laws.specs.Triples.{is_byte}
use Rattle.lattice.specs.Points.{normal_of, is_normal}
use Rattle.lattice.specs.declared.points.Point.{Point}
use Rattle.geometry.specs.Forms.{point-own}
use Rattle.geometry.specs.SubdivisionLaws.{sited}
use Rattle.table.specs.MapLaws.{lookup-valid}
use Rattle.mesh.specs.Grown.{Reached, Grown}
use Rattle.grown.specs.Steps.{accepted}
use Rattle.engine.specs.Engine.{pairs_in, pair_point}
use Rattle.engine.specs.Traced.{Division, Spells}
use Rattle.engine.specs.Ends.{Spelled}
use Rattle.agreed.specs.Tables.{Left}
use Rattle.mesh.specs.Grown as G
use Rattle.agreed.specs.Tables as tables
use Rattle.engine.specs.Traced as spelling

-- ---- a list as numbers
abbrev pub pair_row : Division → List ℤ
pair_row x = x.0.a ∷ x.0.b ∷ pos x.0.m.0 ∷ pos x.1 ∷ []

unfoldable pub numbers : List Division → List ℤ
numbers [] = []
numbers (x ∷ l) = numbers l ++ pair_row x

numbers-length : (l : List Division) → length (numbers l) ≡ 4 * length l
unfolding numbers
numbers-length [] = refl
numbers-length (x ∷ l) = let ih = numbers-length l in length-append (numbers l) (pair_row x) ∙ omega arith

after : (ps r : List ℤ) (k : ℕ) (d : ℤ) → get_or (ps ++ r) (length ps + k) d ≡ get_or r k d
after [] r k d = ap (λ (n : ℕ). get_or r n d) (zero-add k)
after (x ∷ xs) r k d = ap (λ (n : ℕ). get_or (x ∷ (xs ++ r)) n d) (suc-add (length xs) k) ∙ after xs r k d

-- pairs stay when numbers are added
spells-grow : (ps r : List ℤ) (n : ℕ) (l : List Division) → Spells ps n l → 4 * n ≤ length ps → Spells (ps ++ r) n l
unfolding pair_point
spells-grow ps r _ _ spelling.none h = spelling.none
spells-grow ps r _ _ (spelling.next n l q i s byte point level) h =
    let at : (k : ℕ) → k < 4 → get_or (ps ++ r) (4 * n + k) (pos 0) ≡ get_or ps (4 * n + k) (pos 0) =
    λ k hk. get_or-append ps r (pos 0) (4 * n + k) (omega arith) in
    let z : 4 * n + 0 ≡ 4 * n = omega arith in
    let at0 : get_or (ps ++ r) (4 * n) (pos 0) ≡ get_or ps (4 * n) (pos 0) =
    subst (λ (m : ℕ). get_or (ps ++ r) m (pos 0) ≡ get_or ps m (pos 0)) z (at 0 (omega arith)) in
    spelling.next n l q i (spells-grow ps r n l s (omega arith))
    (ap is_byte (at 2 (omega arith)) ∙ byte)
    ((λ j. normal_of (at0 j) (at 1 (omega arith) j) (nat_abs (at 2 (omega arith) j))) ∙ point)
    (at 3 (omega arith) ∙ level)

-- points as records have them
data Written : List Division → Type 0 where
  none : Written []
  next : (l : List Division) (q : Point) (i : ℕ) → Written l → T (is_normal q) → q.m.0 < 256 → Written ((q, i) ∷ l)

spells_own : (l : List Division) → Written l → Spells (numbers l) (length l) l
unfolding numbers pair_point
spells_own _ none = spelling.none
spells_own _ (next l q i w t m) =
    let ps = numbers l in
    let e = numbers-length l in
    let at : (k : ℕ) → get_or (ps ++ pair_row (q, i)) (4 * length l + k) (pos 0) ≡ get_or (pair_row (q, i)) k (pos 0) =
    λ k. ap (λ (n : ℕ). get_or (ps ++ pair_row (q, i)) (n + k) (pos 0)) (sym e) ∙ after ps (pair_row (q, i)) k (pos 0) in
    let z : 4 * length l + 0 ≡ 4 * length l = omega arith in
    let at0 : get_or (ps ++ pair_row (q, i)) (4 * length l) (pos 0) ≡ q.a = ap (λ (n : ℕ). get_or (ps ++ pair_row (q, i)) n (pos 0)) (sym z) ∙ at 0 in
    spelling.next (length l) l q i (spells-grow ps (pair_row (q, i)) (length l) l (spells_own l w) (omega (arith, e)))
    (ap is_byte (at 2) ∙ lt-ltb q.m.0 256 m)
    ((λ j. normal_of (at0 j) (at 1 j) (nat_abs (at 2 j))) ∙ point-own q t)
    (at 3)

left-written : (cs : List ℤ) (l : List Division) (t : List ℕ) → Left cs l t → Written l
left-written cs _ _ (tables.laid t z) = none
left-written cs _ _ (tables.copied l t u k o same) = left-written cs l u k
left-written cs _ _ (tables.divided l t k a b m v e z) =
    let s = sited v (of-true (lookup-valid t (accepted t a b m z).order (normal_of a b m) v e)) in
    next l v.at v.n.0 (left-written cs l t k) s.normal (let d = s.depth in omega arith)

pub left-spelled : (cs : List ℤ) (l : List Division) (t : List ℕ) → Left cs l t → Spelled (numbers l) l
left-spelled cs l t k =
    let e = numbers-length l in
    let n : length l ≡ pairs_in (numbers l) = omega (arith, e) in
    record { whole = omega (arith, e); pairs = subst (λ (m : ℕ). Spells (numbers l) m l) n (spells_own l (left-written cs l t k)) }

-- ---- every table that the calls reach
pub reached-left : (t : List ℕ) → Reached t → (cs : List ℤ) × (l : List Division) × Left cs l t
reached-left _ (G.laid t cs z) = (cs, [], tables.laid t z)
reached-left _ (G.divided t r a b m z) =
    let (cs, l, k) = reached-left t r in
    let s = accepted t a b m z in
    (cs, (s.vertex.at, s.vertex.n.0) ∷ l, tables.divided l t k a b m s.vertex s.looked z)

pub grown-left : (t : List ℕ) → Grown t → (cs : List ℤ) × (l : List Division) × Left cs l t
grown-left t g = let (cs, l, k) = reached-left g.table g.reached in (cs, l, tables.copied l t g.table k g.order g.same)
