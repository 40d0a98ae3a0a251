-- Remainders of whole numbers on division by 3 and by 9 (`mod_z`, never negative), for sums and multiples.
-- `three-minus`, `nine-add` sums · `zero-three` a remainder 0 is what normalising asks · `three-power`, `nine-thrice` multiples.
-- Assumes nothing.
use Rattle.std.specs.Prelude.{◌≡◌, ℕ, suc, ◌+◌, ◌*◌, ◌%◌, ◌/◌, ◌<◌, ◌-◌, ◌^◌, ℤ, pos, negsuc, ◌+ℤ◌, ◌*ℤ◌, ◌-ℤ◌, nat_abs}
use Rattle.std.proofs.Common.{sym, ◌∙◌, ap, arith, pow-suc}
use Rattle.laws.specs.Residue.{mod_z}
use Rattle.laws.specs.Parts.{up, dn, add_is, minus_is, up-mul, dn-mul}
use Rattle.laws.specs.Multiples.{mul-mul}

-- a remainder by parts: -1 leaves 2 of 3, and 8 of 9
-- whole multiples leave nothing
drop3 : (a b k : ℕ) → a ≡ b + 3 * k → a % 3 ≡ b % 3
drop3 a b k h = omega arith

drop9 : (a b k : ℕ) → a ≡ b + 9 * k → a % 9 ≡ b % 9
drop9 a b k h = omega arith

small3 : (b : ℕ) → b < 3 → b % 3 ≡ b
small3 b h = omega arith

small9 : (b : ℕ) → b < 9 → b % 9 ≡ b
small9 b h = omega arith

three-is : (z : ℤ) → mod_z z 3 ≡ (up z + 2 * dn z) % 3
three-is (pos n) = omega arith
three-is (negsuc n) = sym (drop3 (0 + 2 * suc n) (2 - n % 3) (2 * (n / 3) + n % 3) (omega arith) ∙ small3 (2 - n % 3) (omega arith))

nine-is : (z : ℤ) → mod_z z 9 ≡ (up z + 8 * dn z) % 9
nine-is (pos n) = omega arith
nine-is (negsuc n) = sym (drop9 (0 + 8 * suc n) (8 - n % 9) (8 * (n / 9) + n % 9) (omega arith) ∙ small9 (8 - n % 9) (omega arith))

pub three-below : (z : ℤ) → mod_z z 3 < 3
three-below z = omega (arith, three-is z)

split3 : (x y : ℕ) → (x % 3 + y % 3) % 3 ≡ (x + y) % 3
split3 x y = omega arith

split3² : (x y : ℕ) → (x % 3 + 2 * (y % 3)) % 3 ≡ (x + 2 * y) % 3
split3² x y = sym (drop3 (x + 2 * y) (x % 3 + 2 * (y % 3)) (x / 3 + 2 * (y / 3)) (omega arith))

split9 : (x y : ℕ) → (x % 9 + y % 9) % 9 ≡ (x + y) % 9
split9 x y = omega arith

pub three-minus : (x y : ℤ) → mod_z (x -ℤ y) 3 ≡ (mod_z x 3 + 2 * mod_z y 3) % 3
three-minus x y =
    three-is (x -ℤ y) ∙ parts (up (x -ℤ y)) (dn (x -ℤ y)) (up x) (dn x) (up y) (dn y) (minus_is x y) ∙ sym (split3² (up x + 2 * dn x) (up y + 2 * dn y))
    ∙ (λ i. (sym (three-is x) i + 2 * sym (three-is y) i) % 3)
  where
    parts : (s t a b c d : ℕ) → s + (b + c) ≡ a + d + t → (s + 2 * t) % 3 ≡ (a + 2 * b + 2 * (c + 2 * d)) % 3
    parts s t a b c d h = omega arith

pub nine-add : (x y : ℤ) → mod_z (x +ℤ y) 9 ≡ (mod_z x 9 + mod_z y 9) % 9
nine-add x y =
    nine-is (x +ℤ y) ∙ parts (up (x +ℤ y)) (dn (x +ℤ y)) (up x) (dn x) (up y) (dn y) (add_is x y) ∙ sym (split9 (up x + 8 * dn x) (up y + 8 * dn y))
    ∙ (λ i. (sym (nine-is x) i + sym (nine-is y) i) % 9)
  where
    parts : (s t a b c d : ℕ) → s + (b + d) ≡ a + c + t → (s + 8 * t) % 9 ≡ (a + 8 * b + (c + 8 * d)) % 9
    parts s t a b c d h = omega arith

-- what is left of 9 tells what is left of 3
pub nine-three : (z : ℤ) → mod_z z 9 % 3 ≡ mod_z z 3
nine-three z = ap (λ (n : ℕ). n % 3) (nine-is z) ∙ parts (up z) (dn z) ∙ sym (three-is z)
  where
    parts : (a b : ℕ) → (a + 8 * b) % 9 % 3 ≡ (a + 2 * b) % 3
    parts a b = omega arith

pub nine-below : (z : ℤ) → mod_z z 9 < 9
nine-below z = omega (arith, nine-is z)

pub zero-three : (z : ℤ) → mod_z z 3 ≡ 0 → nat_abs z % 3 ≡ 0
zero-three (pos n) h = h
zero-three (negsuc n) h = omega arith

thrice3 : (z : ℤ) → mod_z (z *ℤ pos 3) 3 ≡ 0
thrice3 z = three-is (z *ℤ pos 3) ∙ (λ i. (up-mul z 3 i + 2 * dn-mul z 3 i) % 3) ∙ drop3 (up z * 3 + 2 * (dn z * 3)) 0 (up z + 2 * dn z) (omega arith)

pub three-power : (z : ℤ) (k : ℕ) → mod_z (z *ℤ pos (3 ^ suc k)) 3 ≡ 0
three-power z k = ap (λ (n : ℕ). mod_z (z *ℤ pos n) 3) (pow-suc 3 k) ∙ ap (λ (w : ℤ). mod_z w 3) (sym (mul-mul z (3 ^ k) 3)) ∙ thrice3 (z *ℤ pos (3 ^ k))

pub nine-thrice : (z : ℤ) → mod_z (z *ℤ pos 3) 9 ≡ 3 * mod_z z 3
nine-thrice z = nine-is (z *ℤ pos 3) ∙ (λ i. (up-mul z 3 i + 8 * dn-mul z 3 i) % 9) ∙ parts (up z) (dn z) ∙ ap (λ (n : ℕ). 3 * n) (sym (three-is z))
  where
    parts : (a b : ℕ) → (a * 3 + 8 * (b * 3)) % 9 ≡ 3 * ((a + 2 * b) % 3)
    parts a b = omega arith
