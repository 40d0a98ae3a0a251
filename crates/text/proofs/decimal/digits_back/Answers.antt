-- `text::digits_back` meets its contract: a digit is stored in front of which the tens are to stand. Assumes nothing.
use Rattle.std.proofs.Common.{◌≡◌, sym, ap, ◌∙◌, ℕ, ◌+◌, ◌-◌, ◌/◌, ◌%◌, ◌≤◌, ◌<◌, length, set, arith}
use Rattle.std.proofs.lemmas.List.Edits.{sets}
use Rattle.text.specs.Decimal.{digit, digits}
use Rattle.text.specs.DecimalLaws.{digits-some, digits-small, more-length}
use Rattle.text.specs.Back.{digits-store}
use Rattle.text.proofs.decimal.digits_back.Goals as goal

pub overflow_sub-at : goal.overflow_sub-at
overflow_sub-at c = omega (arith, digits-some c.loop-v.v)

pub bounds-out-at : goal.bounds-out-at
bounds-out-at c = omega (arith, digits-some c.loop-v.v)

pub loop-v-preserved : goal.loop-v-preserved
loop-v-preserved c =
    let o = c.loop-v.out in
    let v = c.loop-v.v in
    let start = c.args.end - length (digits c.args.n) in
    let big : 10 ≤ v = omega arith in
    let spot : c.loop-v.at - 1 ≡ start + length (digits (v / 10)) = omega (arith, more-length v big) in
    record {
      past = omega arith;
      spot = sym spot;
      bytes = ap (λ (k : ℕ). sets (set o k (digit (v % 10))) start (digits (v / 10))) spot ∙ digits-store o start v big ∙ c.loop-v.invariant.bytes;
    }

pub overflow_sub-at-2 : goal.overflow_sub-at-2
overflow_sub-at-2 c = omega (arith, digits-some c.loop-v.v)

pub bounds-out-at-2 : goal.bounds-out-at-2
bounds-out-at-2 c = omega (arith, digits-some c.loop-v.v)

pub returns : goal.returns
returns c =
    let o = c.loop-v.out in
    let v = c.loop-v.v in
    let n = c.args.n in
    let start = c.args.end - length (digits n) in
    let small : v < 10 = omega arith in
    let one = ap length (digits-small v small) in
    let spot : c.loop-v.at - 1 ≡ start = omega arith in
    record {
      bytes =
          ap (λ (k : ℕ). set o k (digit v)) spot ∙ ap (sets o start) (sym (digits-small v small)) ∙ c.loop-v.invariant.bytes
          ∙ ap (λ (k : ℕ). sets c.args.out.now k (digits n)) (sym spot);
      past = omega (arith, c.requires.0);
    }
