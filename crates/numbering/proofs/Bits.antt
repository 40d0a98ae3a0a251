-- A truth as a number: 1 of true, 0 of false.
use Rattle.std.proofs.Common.{◌≡◌, refl, Bool, true, false, ◌≤◌, arith}
use mir.Val.{bool_byte}
use Rattle.firsts.specs.Faces.{bit}

pub byte-bit : (t : Bool) → bool_byte t ≡ bit t
byte-bit true = refl
byte-bit false = refl

pub byte-most : (t : Bool) → bool_byte t ≤ 1
byte-most true = omega arith
byte-most false = omega arith
