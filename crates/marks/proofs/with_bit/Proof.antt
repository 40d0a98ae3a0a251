-- `marks::with_bit` meets its promise: by the bit. A walk, which the wrong program `unfit_sum_named` does not fit. Assumes nothing.
use borrow.Author.Rules.{rules}
use mathlib.Core.Path.{◌≡◌, sym, ◌∙◌, ap}
use mathlib.Core.Bool.{Bool, cond}
use Prim.Native.Nat.{ℕ, ◌+◌, ◌/◌, ◌^◌, ◌<◌}
use native.Mathlib.Omega.{arith}
use native.Mathlib.Nat.{mod-lt}
use borrow.Author.Tests.{eq-eqb, ne_eqb}
use lib.Dec.{lit<}
use Rattle.laws.specs.Bits.{bit_of, bit-room}
use Rattle.marks.proofs.with_bit.Statement.{statement}
use Rattle.marks.proofs.with_bit.Tie as tie

clear : (e : tie.Else-byte-k-eq1) → bit_of e.before.args.byte e.before.args.k ≡ 0
clear e =
    let a = e.before.args in
    let l : bit_of a.byte a.k < 2 = mod-lt (a.byte / 2 ^ a.k) (lit< tt) in
    let n = e.if-byte-k-eq1.false in
    omega arith

add-result : tie.Need-overflow_add-result
add-result c =
    let e = c.before in
    let s = e.before in
    let p = c.power.ensures in
    let room = bit-room s.args.byte s.ranges.byte.fits s.args.k s.requires (clear e) in
    record { fits = omega arith }

returns : tie.Need-returns-then-byte-k-eq1
returns c =
    let s = c.before in
    let x = s.args.byte in
    (sym (ap (λ (b : Bool). cond b x (x + 2 ^ s.args.k)) (eq-eqb (bit_of x s.args.k) 1 c.if-byte-k-eq1.true)), s.ranges.byte.fits)

returns-2 : tie.Need-returns-else-byte-k-eq1
returns-2 c =
    let s = c.before.before in
    let x = s.args.byte in (
      ap (λ (p : ℕ). x + p) c.power.ensures
          ∙ sym (ap (λ (b : Bool). cond b x (x + 2 ^ s.args.k)) (ne_eqb (bit_of x s.args.k) 1 c.before.if-byte-k-eq1.false)),
      s.ranges.byte.fits,
    )

pub with_bit_spec : {M : Type 1} → statement M
with_bit_spec = tie.close (tie.spec (λ c. search rules) (λ c. search rules) (λ c κs. search rules) add-result returns returns-2)
