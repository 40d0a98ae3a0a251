-- What refusals obey: `number-some` no refusal's number is 0, `number-one` no two have one number, `told-one` so an outcome's number settles it.
-- Assumes nothing.
use Rattle.std.specs.Prelude.{◌≡◌, refl, cond, ℕ, eqb, Result, Ok, Err}
use Rattle.std.proofs.Common.{sym, ◌∙◌, ap, arith}
use Rattle.lattice.specs.declared.refusals.Refusal.{Refusal}
use Rattle.lattice.specs.declared.refusals.Refusal.TheVariants as refusal
use Rattle.lattice.specs.Refusals.{number_of, number_told}

pub number-some : (why : Refusal) → number_of why ≡ 0 → ⊥
number-some refusal.NotInOrder e = omega arith
number-some refusal.BadList e = omega arith
number-some refusal.NoRecord e = omega arith
number-some refusal.NotSix e = omega arith
number-some refusal.LastLevel e = omega arith
number-some refusal.Torn e = omega arith
number-some refusal.NoRoom e = omega arith
number-some refusal.NotValid e = omega arith
number-some refusal.NotAbove e = omega arith
number-some refusal.NotGrown e = omega arith
number-some refusal.Redundant e = omega arith
number-some refusal.Short e = omega arith
number-some refusal.Boundary e = omega arith
number-some refusal.BadFinding e = omega arith
number-some refusal.AtTheRim e = omega arith
number-some refusal.BadOutline e = omega arith
number-some refusal.TwoRecords e = omega arith
number-some refusal.NotLeft e = omega arith

-- the refusal that has a number
abbrev numbered : ℕ → Refusal
numbered n =
    cond (eqb n 1) refusal.NotInOrder (cond (eqb n 2) refusal.BadList (cond (eqb n 3) refusal.NoRecord (cond (eqb n 4) refusal.NotSix (
    cond (eqb n 5) refusal.LastLevel (cond (eqb n 7) refusal.Torn (cond (eqb n 8) refusal.NoRoom (cond (eqb n 9) refusal.NotValid (
    cond (eqb n 10) refusal.NotAbove (cond (eqb n 11) refusal.NotGrown (cond (eqb n 12) refusal.Redundant (cond (eqb n 13) refusal.Short (
    cond (eqb n 14) refusal.Boundary (cond (eqb n 15) refusal.BadFinding (cond (eqb n 16) refusal.AtTheRim (cond (eqb n 17) refusal.BadOutline (
    cond (eqb n 20) refusal.TwoRecords (refusal.NotLeft)))))))))))))))))

numbered-back : (why : Refusal) → numbered (number_of why) ≡ why
numbered-back refusal.NotInOrder = refl
numbered-back refusal.BadList = refl
numbered-back refusal.NoRecord = refl
numbered-back refusal.NotSix = refl
numbered-back refusal.LastLevel = refl
numbered-back refusal.Torn = refl
numbered-back refusal.NoRoom = refl
numbered-back refusal.NotValid = refl
numbered-back refusal.NotAbove = refl
numbered-back refusal.NotGrown = refl
numbered-back refusal.Redundant = refl
numbered-back refusal.Short = refl
numbered-back refusal.Boundary = refl
numbered-back refusal.BadFinding = refl
numbered-back refusal.AtTheRim = refl
numbered-back refusal.BadOutline = refl
numbered-back refusal.TwoRecords = refl
numbered-back refusal.NotLeft = refl

pub number-one : (x y : Refusal) → number_of x ≡ number_of y → x ≡ y
number-one x y e = sym (numbered-back x) ∙ ap numbered e ∙ numbered-back y

pub told-one : (x y : Result Unit Refusal) → number_told x ≡ number_told y → x ≡ y
told-one (Ok x) (Ok y) e = refl
told-one (Ok x) (Err why) e = absurd (number-some why (sym e))
told-one (Err why) (Ok x) e = absurd (number-some why e)
told-one (Err x) (Err y) e = ap Err (number-one x y e)
