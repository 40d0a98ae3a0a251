-- How long the texts of coordinates are: `decimals-long`, `coordinate-minus`, `coordinate-plus`, `position-long`, `position-least`. What they are worth:
-- `Worth`, `decimals-worth`.
-- Assumes nothing.
use Rattle.std.specs.Prelude.{◌≡◌, refl, Bool, true, false, cond, List, [], ◌∷◌, ◌++◌, ℕ, ◌+◌, ◌*◌, ◌-◌, ◌/◌, ◌%◌, ◌≤◌, ◌<◌, ℤ, pos, nat_abs, length}
use Rattle.std.proofs.Common.{sym, ap, ◌∙◌, subst, arith, length-append}
use Rattle.std.proofs.Math.Nat.{div-div-eq-div-mul, mod-add-div}
use Rattle.std.specs.Int.Signed.{lt_z}
use Rattle.text.specs.LineLengths.{length_three}
use Rattle.lattice.specs.declared.points.Point.{Point}
use Rattle.text.specs.Decimal.{minus, digit, digits, ended}
use Rattle.text.specs.Reading.{value, plain}
use Rattle.text.specs.DecimalLaws.{Digits, digits-join, digits_are, digits-small, digits-some, digits_value, digits-plain, value-join}
use Rattle.coordinates.specs.Coordinates.{blank, dot, across_of, near_x, near_y, four, decimals, coordinate, flat, text_x, text_y, position_text}

pub decimals-long : (n : ℕ) → length (decimals n) ≡ length (digits (n / 10000)) + 6
unfolding decimals four
decimals-long n =
    length-append (ended (digits (n / 10000)) dot) (ended (four (n % 10000)) blank)
    ∙ (let a = length-append (digits (n / 10000)) (dot ∷ []) in omega arith)

pub coordinate-minus : (z : ℤ) (n : ℕ) → lt_z z (pos 0) ≡ true → coordinate z n ≡ minus ∷ decimals n
unfolding coordinate
coordinate-minus z n e = ap (λ (b : Bool). cond b (minus ∷ []) [] ++ decimals n) e

pub coordinate-plus : (z : ℤ) (n : ℕ) → lt_z z (pos 0) ≡ false → coordinate z n ≡ decimals n
unfolding coordinate
coordinate-plus z n e = ap (λ (b : Bool). cond b (minus ∷ []) [] ++ decimals n) e

coordinate-least : (z : ℤ) (n : ℕ) → 7 ≤ length (coordinate z n)
coordinate-least z n = go (lt_z z (pos 0)) refl
  where
    go : (b : Bool) → lt_z z (pos 0) ≡ b → 7 ≤ length (coordinate z n)
    go true e = omega (arith, ap length (coordinate-minus z n e), decimals-long n, digits-some (n / 10000))
    go false e = omega (arith, ap length (coordinate-plus z n e), decimals-long n, digits-some (n / 10000))

position-is : (p : Point) → position_text p ≡ text_x p ++ (text_y p ++ flat)
unfolding position_text
position-is p = refl

pub position-long : (p : Point) → length (position_text p) ≡ length (text_x p) + (length (text_y p) + 7)
position-long p = ap length (position-is p) ∙ length_three (text_x p) (text_y p) flat

pub position-least : (p : Point) → 21 ≤ length (position_text p)
position-least p =
    let x = coordinate-least (across_of p) (near_x (nat_abs (across_of p)) p.m.0) in
    let y = coordinate-least p.b (near_y (nat_abs p.b) p.m.0) in
    omega (arith, position-long p)

-- ---- what is written is worth n ten-thousandths: a whole part without a leading zero, the point, four decimals, the blank; the digits of both parts count n

pub record Worth (n : ℕ) (text : List ℕ) : Type 0 where
  pub whole : List ℕ
  pub part : List ℕ
  pub written : text ≡ ended whole dot ++ ended part blank
  pub figures : Digits (whole ++ part)
  pub unpadded : plain whole ≡ true
  pub places : length part ≡ 4
  pub counts : value 0 (whole ++ part) ≡ n

-- four digits to the base ten, over plain variables
tens : (v n x y z a b c : ℕ) → a + 10 * x ≡ n → b + 10 * y ≡ x → c + 10 * z ≡ y
    → (((v * 10 + (48 + z - 48)) * 10 + (48 + c - 48)) * 10 + (48 + b - 48)) * 10 + (48 + a - 48) ≡ v * 10000 + n
tens v n x y z a b c p q r = omega arith

four-value : (v n : ℕ) → value v (four n) ≡ v * 10000 + n
unfolding value four
four-value v n =
    let hundreds : n / 100 ≡ n / 10 / 10 = sym (div-div-eq-div-mul n 10 10) in
    let thousands : n / 1000 ≡ n / 10 / 10 / 10 = sym (ap (λ (x : ℕ). x / 10) (div-div-eq-div-mul n 10 10) ∙ div-div-eq-div-mul n 100 10) in
    let p = mod-add-div n 10 in
    let q = mod-add-div (n / 10) 10 in
    let r = mod-add-div (n / 10 / 10) 10 in
    rw (hundreds, thousands) (tens v n (n / 10) (n / 10 / 10) (n / 10 / 10 / 10) (n % 10) (n / 10 % 10) (n / 10 / 10 % 10) p q r)

four-long : (n : ℕ) → length (four n) ≡ 4
unfolding four
four-long n = refl

one-digit : (d : ℕ) → d < 10 → Digits (digit d ∷ [])
one-digit d h = subst Digits (digits-small d h) (digits_are d)

four-digits : (n : ℕ) → n < 10000 → Digits (four n)
unfolding four
four-digits n h =
    digits-join (one-digit (n / 1000) (omega arith)) (digits-join (one-digit (n / 100 % 10) (omega arith))
    (digits-join (one-digit (n / 10 % 10) (omega arith)) (one-digit (n % 10) (omega arith))))

pub decimals-worth : (n : ℕ) → Worth n (decimals n)
unfolding decimals
decimals-worth n = record {
  whole = digits (n / 10000);
  part = four (n % 10000);
  written = refl;
  figures = digits-join (digits_are (n / 10000)) (four-digits (n % 10000) (omega arith));
  unpadded = digits-plain (n / 10000);
  places = four-long (n % 10000);
  counts =
      value-join 0 (digits (n / 10000)) (four (n % 10000))
      ∙ ap (λ (v : ℕ). value v (four (n % 10000))) (digits_value (n / 10000))
      ∙ four-value (n / 10000) (n % 10000)
      ∙ omega arith;
}
