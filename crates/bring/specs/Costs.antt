-- How many subdivisions at most bring a vertex of a grown mesh to degree 6. A neighbour that has to be brought first lies beside the creator of the
-- vertex (`creator-near` in Ends), which has been subdivided: so two of its own at most.
-- `near_most` for one neighbour at level b · `cost` what a parent may cost, the creator 1 · `total`, `total-length`, `total-most` those still open.
-- Assumes nothing.
use Rattle.std.specs.Prelude.{◌≡◌, Bool, true, false, cond, List, [], ◌∷◌, ℕ, zero, suc, ◌+◌, ◌*◌, ◌≤◌, ◌<◌, length, ltb}
use Rattle.std.proofs.Math.Path.{refl}
use Rattle.std.proofs.Common.{ap, arith, suc-mul, lt-ltb, le-ltb}
use Rattle.growth.specs.Normal.{Pt, rank}
use Rattle.growth.specs.Parents.{par, creator-ex}
use Rattle.bring.specs.Ways.{open_of}

-- one neighbour subdivided at level b: itself, and where it has to be brought first, two of its own a level lower
unfoldable pub near_most : ℕ → ℕ
near_most zero = 1
near_most (suc i) = 2 * near_most i + 1

near-one : (b : ℕ) → 1 ≤ near_most b
unfolding near_most
near-one zero = omega arith
near-one (suc b) = omega arith

pub near-most : (b i : ℕ) → b ≡ suc i → 2 * near_most i + 1 ≤ near_most b
unfolding near_most
near-most zero i e = absurd (omega arith)
near-most (suc b) i e = let z : b ≡ i = omega arith in let y = ap near_most z in omega arith

-- what parent k of p may cost, subdivided at p's birth level b: the creator is of degree 6 already
unfoldable pub cost : Pt → ℕ → ℕ → ℕ
cost p b k = cond (ltb (rank (par p k b)) b) 1 (near_most b)

pub cost-one : (p : Pt) (b k : ℕ) → 1 ≤ cost p b k
unfolding cost
cost-one p b k = go (ltb (rank (par p k b)) b)
  where
    go : (x : Bool) → 1 ≤ cond x 1 (near_most b)
    go true = omega arith
    go false = near-one b

cost-most : (p : Pt) (b k : ℕ) → cost p b k ≤ near_most b
unfolding cost
cost-most p b k = go (ltb (rank (par p k b)) b)
  where
    go : (x : Bool) → cond x 1 (near_most b) ≤ near_most b
    go true = near-one b
    go false = omega arith

pub cost-old : (p : Pt) (b k : ℕ) → b ≤ rank (par p k b) → cost p b k ≡ near_most b
unfolding cost
cost-old p b k h = ap (λ (x : Bool). cond x 1 (near_most b)) (le-ltb (rank (par p k b)) b h)

cost-creator : (p : Pt) (b k : ℕ) → rank (par p k b) < b → cost p b k ≡ 1
unfolding cost
cost-creator p b k h = ap (λ (x : Bool). cond x 1 (near_most b)) (lt-ltb (rank (par p k b)) b h)

unfoldable pub total : Pt → ℕ → List ℕ → ℕ
total p b [] = 0
total p b (k ∷ ks) = cost p b k + total p b ks

pub total-length : (p : Pt) (b : ℕ) (ks : List ℕ) → total p b ks ≤ length ks * near_most b
unfolding total
total-length p b [] = omega arith
total-length p b (k ∷ ks) =
    let ih = total-length p b ks in
    let e = suc-mul (length ks) (near_most b) in
    let c = cost-most p b k in omega arith

total-open : (p : Pt) (b : ℕ) (s0 s1 s2 : Bool) → total p b (open_of s0 s1 s2) ≤ cost p b 0 + cost p b 1 + cost p b 2
unfolding total open_of
total-open p b false false false = omega arith
total-open p b true false false = omega arith
total-open p b false true false = omega arith
total-open p b false false true = omega arith
total-open p b true true false = omega arith
total-open p b true false true = omega arith
total-open p b false true true = omega arith
total-open p b true true true = omega arith

-- of any vertex: one of its three parents is the creator, if its rank is above 1
pub total-most : (p : Pt) (b : ℕ) → rank p ≡ suc b → (s0 s1 s2 : Bool) → total p b (open_of s0 s1 s2) ≤ 2 * near_most b + 1
total-most p zero f s0 s1 s2 =
    let t = total-open p 0 s0 s1 s2 in
    let a = cost-most p 0 0 in
    let b = cost-most p 0 1 in
    let c = cost-most p 0 2 in
    let n : near_most 0 ≡ 1 = near-zero in omega arith
  where
    near-zero : near_most 0 ≡ 1
    near-zero = unfold near_most in refl
total-most p (suc i) f s0 s1 s2 = let (k, h, l) = creator-ex p i f in go k h (cost-creator p (suc i) k (omega arith))
  where
    go : (k : ℕ) → k < 3 → cost p (suc i) k ≡ 1 → total p (suc i) (open_of s0 s1 s2) ≤ 2 * near_most (suc i) + 1
    go zero h e = let t = total-open p (suc i) s0 s1 s2 in let a = cost-most p (suc i) 1 in let b = cost-most p (suc i) 2 in omega arith
    go (suc zero) h e = let t = total-open p (suc i) s0 s1 s2 in let a = cost-most p (suc i) 0 in let b = cost-most p (suc i) 2 in omega arith
    go (suc (suc zero)) h e = let t = total-open p (suc i) s0 s1 s2 in let a = cost-most p (suc i) 0 in let b = cost-most p (suc i) 1 in omega arith
    go (suc (suc (suc k))) h e = absurd (omega arith)
