-- A face's four numbers in one: a number that rises as the faces' lines do.
-- `packed`, `unpacked` · `Small` numbers that fit · `pack-rises` the packed numbers rise as the faces do · `unpack-pack` the four numbers again.
-- Assumes nothing.
use Rattle.std.specs.Prelude.{◌≡◌, refl, Bool, true, false, cond, ◌&&◌, ◌||◌, ℕ, ◌+◌, ◌*◌, ◌/◌, ◌%◌, ◌≤◌, ◌<◌, eqb, ltb}
use Rattle.std.proofs.Math.Path.{sym}
use Rattle.std.proofs.Common.{ap, ◌∙◌, arith, mul-le-mul_right, suc-mul, lt-ltb, le-ltb, eq-eqb, ne_eqb}
use mathlib.Core.List.{List, [], ◌∷◌, map, Memᴰ}
use Rattle.std.proofs.Math.Decide.{dec_lt}
use Rattle.writers.specs.Kept.{places}
use Rattle.viewer_lines.specs.ViewerLines.{corners, is_least, next_first, least_first, rises}
use Rattle.viewer_lines.specs.declared.corners.Corners.{Corners}

-- the square of the greatest table's slots, and the cube
abbrev pub places² : ℕ
places² = 4294967296

abbrev pub places³ : ℕ
places³ = 281474976710656

-- each number is that of a vertex
pub record Small (q : Corners) : Type 0 where
  pub a : q.a < places
  pub b : q.b < places
  pub c : q.c < places
  pub d : q.d < places

unfoldable pub packed : Corners → ℕ
packed q = q.a * places³ + (q.b * places² + (q.c * places + q.d))

unfoldable pub unpacked : ℕ → Corners
unpacked v = corners (v / places³) (v / places² % places) (v / places % places) (v % places)

-- ---- two numbers in one rise by the first, then by the second

pair : (M x y d e : ℕ) → d < M → e < M → ltb x y || (eqb x y && ltb d e) ≡ ltb (x * M + d) (y * M + e)
pair M x y d e hd he = go (dec_lt x y) (dec_lt y x)
  where
    over : (u v : ℕ) → u < v → u * M + M ≤ v * M
    over u v l = let a = mul-le-mul_right M l in let b = suc-mul u M in omega arith

    level : x ≡ y → Dec (d < e) → ltb x y || (eqb x y && ltb d e) ≡ ltb (x * M + d) (y * M + e)
    level q (yes l) =
        let z = ap (λ (k : ℕ). k * M) q in
        rw (le-ltb x y (omega arith), eq-eqb x y q, lt-ltb d e l) (sym (lt-ltb (x * M + d) (y * M + e) (omega arith)))
    level q (no l) =
        let z = ap (λ (k : ℕ). k * M) q in
        rw (le-ltb x y (omega arith), eq-eqb x y q, le-ltb d e (omega arith)) (sym (le-ltb (x * M + d) (y * M + e) (omega arith)))

    go : Dec (x < y) → Dec (y < x) → ltb x y || (eqb x y && ltb d e) ≡ ltb (x * M + d) (y * M + e)
    go (yes l) k = let a = over x y l in rw (lt-ltb x y l) (sym (lt-ltb (x * M + d) (y * M + e) (omega arith)))
    go (no l) (yes k) =
        let a = over y x k in
        rw (le-ltb x y (omega arith), ne_eqb x y (omega arith)) (sym (le-ltb (x * M + d) (y * M + e) (omega arith)))
    go (no l) (no k) = level (omega arith) (dec_lt d e)

pub pack-rises : (q r : Corners) → Small q → Small r → rises q r ≡ ltb (packed q) (packed r)
unfolding rises packed
pack-rises q r s z =
    let qc = s.c in
    let qd = s.d in
    let qb = s.b in
    let rc = z.c in
    let rd = z.d in
    let rb = z.b in
    ap (λ (t : Bool). ltb q.a r.a || (eqb q.a r.a && (ltb q.b r.b || (eqb q.b r.b && t))))
    (pair places q.c r.c q.d r.d qd rd)
    ∙ ap (λ (t : Bool). ltb q.a r.a || (eqb q.a r.a && t))
    (pair places² q.b r.b (q.c * places + q.d) (r.c * places + r.d) (omega arith) (omega arith))
    ∙ pair places³ q.a r.a (q.b * places² + (q.c * places + q.d)) (r.b * places² + (r.c * places + r.d)) (omega arith) (omega arith)

-- ---- and back

last : (x d : ℕ) → d < places → (x * places + d) % places ≡ d
last x d h = omega arith

first : (a b c d : ℕ) → b < places → c < places → d < places → (a * places³ + (b * places² + (c * places + d))) / places³ ≡ a
first a b c d hb hc hd = omega arith

upper : (a b c d : ℕ) → c < places → d < places → (a * places³ + (b * places² + (c * places + d))) / places² ≡ a * places + b
upper a b c d hc hd = omega arith

middle : (a b c d : ℕ) → d < places → (a * places³ + (b * places² + (c * places + d))) / places ≡ (a * places + b) * places + c
middle a b c d hd = omega arith

lowest : (a b c d : ℕ) → a * places³ + (b * places² + (c * places + d)) ≡ ((a * places + b) * places + c) * places + d
lowest a b c d = omega arith

pub unpack-pack : (q : Corners) → Small q → unpacked (packed q) ≡ q
unfolding packed unpacked
unpack-pack q s =
    let a = q.a in
    let b = q.b in
    let c = q.c in
    let d = q.d in
    λ i.
    corners
    (first a b c d s.b s.c s.d i)
    ((ap (λ (x : ℕ). x % places) (upper a b c d s.c s.d) ∙ last a b s.b) i)
    ((ap (λ (x : ℕ). x % places) (middle a b c d s.d) ∙ last (a * places + b) c s.c) i)
    ((ap (λ (x : ℕ). x % places) (lowest a b c d) ∙ last ((a * places + b) * places + c) d s.d) i)

pub unpack-all : (qs : List Corners) → ((q : Corners) → Memᴰ q qs → Small q) → map unpacked (map packed qs) ≡ qs
unpack-all [] h = refl
unpack-all (q ∷ qs) h = λ i. unpack-pack q (h q (Memᴰ.head refl)) i ∷ unpack-all qs (λ r m. h r (Memᴰ.tail m)) i

-- ---- which of the four comes first, as the code finds it

module _ (q : Corners) where
  abbrev q₁ : Corners
  q₁ = next_first q

  abbrev q₂ : Corners
  q₂ = next_first q₁

  abbrev q₃ : Corners
  q₃ = next_first q₂

  abbrev among-three : Bool → Bool → Bool → Corners
  among-three x y z = cond x q (cond y q₁ (cond z q₂ q₃))

  pub least-here : is_least q ≡ true → q ≡ least_first q
  unfolding least_first
  least-here a = sym (ap (λ (x : Bool). among-three x (is_least q₁) (is_least q₂)) a)

  pub least-second : is_least q ≡ false → is_least q₁ ≡ true → q₁ ≡ least_first q
  unfolding least_first
  least-second a b = sym (λ i. among-three (a i) (b i) (is_least q₂))

  pub least-third : is_least q ≡ false → is_least q₁ ≡ false → is_least q₂ ≡ true → q₂ ≡ least_first q
  unfolding least_first
  least-third a b c = sym (λ i. among-three (a i) (b i) (c i))

  pub least-last : is_least q ≡ false → is_least q₁ ≡ false → is_least q₂ ≡ false → q₃ ≡ least_first q
  unfolding least_first
  least-last a b c = sym (λ i. among-three (a i) (b i) (c i))
