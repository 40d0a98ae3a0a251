-- Linear equations of whole numbers, shown on natural ones: an expression `Exp` has a value, and two parts that `omega` computes with.
-- `same e f (omega arith)` the values of e and f are equal · `told-≡` what such a fact says of the parts.
-- Assumes nothing.
use Rattle.std.specs.Prelude.{◌≡◌, refl, ℕ, ◌+◌, ◌*◌, ℤ, neg_ℤ, pos, ◌+ℤ◌, ◌*ℤ◌, ◌-ℤ◌}
use Rattle.std.proofs.Common.{sym, ◌∙◌, ap, arith, mul-add}
use Rattle.laws.specs.Parts.{eqℤ, add_is, up_neg, dn-neg, up-times, dn-times, up, dn, minus_is}

infixl 6 ◌⊕◌ ◌⊝◌
infixl 7 ◌⊗◌
pub data Exp : Type 0 where
  ‵ : ℤ → Exp
  ◌⊕◌ ◌⊝◌ : Exp → Exp → Exp
  ⊟ : Exp → Exp
  ◌⊗◌ : ℕ → Exp → Exp

abbrev pub val : Exp → ℤ
val (‵ z) = z
val (e ⊕ f) = val e +ℤ val f
val (e ⊝ f) = val e -ℤ val f
val (⊟ e) = neg_ℤ (val e)
val (k ⊗ e) = pos k *ℤ val e

abbrev mutual
  pub hi : Exp → ℕ
  hi (‵ z) = up z
  hi (e ⊕ f) = hi e + hi f
  hi (e ⊝ f) = hi e + lo f
  hi (⊟ e) = lo e
  hi (k ⊗ e) = k * hi e

  pub lo : Exp → ℕ
  lo (‵ z) = dn z
  lo (e ⊕ f) = lo e + lo f
  lo (e ⊝ f) = lo e + hi f
  lo (⊟ e) = hi e
  lo (k ⊗ e) = k * lo e

-- the value of an expression is the difference of the two
is-val : (e : Exp) → up (val e) + lo e ≡ hi e + dn (val e)
is-val (‵ z) = refl
is-val (e ⊕ f) = omega (arith, is-val e, is-val f, add_is (val e) (val f))
is-val (e ⊝ f) = omega (arith, is-val e, is-val f, minus_is (val e) (val f))
is-val (⊟ e) = omega (arith, is-val e, up_neg (val e), dn-neg (val e))
is-val (k ⊗ e) = rw (up-times, dn-times) (sym (mul-add k (up (val e)) (lo e)) ∙ ap (λ (n : ℕ). k * n) (is-val e) ∙ mul-add k (hi e) (dn (val e)))

-- two expressions have one value
pub same : (e f : Exp) → hi e + lo f ≡ hi f + lo e → val e ≡ val f
same e f h = eqℤ (val e) (val f) (omega (arith, is-val e, is-val f))

-- what an equation, or an order, of two values says of natural numbers
pub told-≡ : (e f : Exp) → val e ≡ val f → hi e + lo f ≡ hi f + lo e
told-≡ e f h = omega (arith, is-val e, is-val f, ap up h, ap dn h)
