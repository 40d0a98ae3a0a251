-- `readers::is_earlier` meets its promise: triples are compared part by part. Assumes nothing.
use Rattle.std.proofs.Common.{◌≡◌, ◌∙◌, ap, refl, Bool, true, false, cond, ◌&&◌, ◌||◌, ℕ, ℤ, pos, negsuc, eqb, ltb, Some, arith, to_z, of_z, w32}
use Rattle.std.proofs.lemmas.Int.{ints}
use Rattle.std.proofs.lemmas.Bool.Decides.{nat_tests}
use Rattle.std.specs.Int.Signed.{lt_z}
use Rattle.std.specs.declared.cmp.Ordering.{Ordering}
use Rattle.std.specs.declared.cmp.Ordering.TheVariants.{Less, Equal, Greater}
use Rattle.std.specs.Ordering.{is_lt, ordering_then, nat_cmp, int_cmp, is_some_and, partial_ordering_then}
use Rattle.laws.specs.Rules.{eq_z}
use Rattle.lattice.specs.declared.points.Point.{Point}
use Rattle.text.specs.LineOrder.{earlier}
use Rattle.readers.proofs.lines.is_earlier.Goals as goal

parts : (c d e : Ordering) → is_some_and is_lt (partial_ordering_then (partial_ordering_then (Some c) (Some d)) (Some e))
    ≡ is_lt (ordering_then c (ordering_then d e))
parts Less d e = refl
parts Greater d e = refl
parts Equal Less e = refl
parts Equal Greater e = refl
parts Equal Equal e = refl

naturals : (a b : Bool) (o : Ordering) → is_lt (ordering_then (cond a Less (cond b Equal Greater)) o) ≡ a || (b && is_lt o)
naturals true b o = refl
naturals false true o = refl
naturals false false o = refl

tests : (a b : ℕ) (o : Ordering) → is_lt (ordering_then (cond (ltb a b) Less (cond (ltb b a) Greater Equal)) o) ≡ ltb a b || (eqb a b && is_lt o)
tests a b o = grind (arith, nat_tests)

tests_back : (a b : ℕ) (o : Ordering) → is_lt (ordering_then (cond (ltb b a) Less (cond (ltb a b) Greater Equal)) o) ≡ ltb b a || (eqb a b && is_lt o)
tests_back a b o = grind (arith, nat_tests)

integers : (x y : ℤ) (o : Ordering) → is_lt (ordering_then (int_cmp x y) o) ≡ lt_z x y || (eq_z x y && is_lt o)
integers (pos a) (pos b) o = tests a b o
integers (pos a) (negsuc b) o = refl
integers (negsuc a) (pos b) o = refl
integers (negsuc a) (negsuc b) o = tests_back a b o

last : (x y : ℤ) → is_lt (int_cmp x y) ≡ lt_z x y
last x y = go (lt_z x y) (lt_z y x)
  where
    go : (a b : Bool) → is_lt (cond a Less (cond b Greater Equal)) ≡ a
    go true b = refl
    go false true = refl
    go false false = refl

-- the triple of m, a and b stands before another
abbrev compared : ℕ → ℤ → ℤ → ℕ → ℤ → ℤ → Bool
compared m a b m' a' b' =
    is_some_and is_lt (partial_ordering_then (partial_ordering_then (Some (nat_cmp m m')) (Some (int_cmp a a'))) (Some (int_cmp b b')))

triples : (p q : Point) → compared p.m.0 p.a p.b q.m.0 q.a q.b ≡ earlier p q
unfolding earlier
triples p q =
    parts (nat_cmp p.m.0 q.m.0) (int_cmp p.a q.a) (int_cmp p.b q.b)
    ∙ naturals (ltb p.m.0 q.m.0) (eqb p.m.0 q.m.0) (ordering_then (int_cmp p.a q.a) (int_cmp p.b q.b))
    ∙ ap (λ (b : Bool). ltb p.m.0 q.m.0 || (eqb p.m.0 q.m.0 && b)) (integers p.a q.a (int_cmp p.b q.b))
    ∙ ap (λ (b : Bool). ltb p.m.0 q.m.0 || (eqb p.m.0 q.m.0 && (lt_z p.a q.a || (eq_z p.a q.a && b)))) (last p.b q.b)

pub returns : goal.returns
returns c =
    let p = c.args.p in
    let q = c.args.q in
    let pa : to_z w32 (of_z w32 p.a) ≡ p.a = omega (arith, ints) in
    let pb : to_z w32 (of_z w32 p.b) ≡ p.b = omega (arith, ints) in
    let qa : to_z w32 (of_z w32 q.a) ≡ q.a = omega (arith, ints) in
    let qb : to_z w32 (of_z w32 q.b) ≡ q.b = omega (arith, ints) in
    c.lt.ensures ∙ (λ i. compared p.m.0 (pa i) (pb i) q.m.0 (qa i) (qb i)) ∙ triples p q
