-- `coordinates::texts::decimals_back` meets its promise: the decimals and the blank, and the whole part before them. Assumes nothing.
use Rattle.std.proofs.Common.{◌≡◌, ◌∙◌, [], ◌∷◌, ℕ, ◌+◌, ◌-◌, ◌/◌, ◌%◌, length, length-append, arith}
use Rattle.std.proofs.lemmas.List.Edits.{sets}
use Rattle.laws.specs.Stores.{Wrote}
use Rattle.text.specs.Decimal.{digits, ended}
use Rattle.text.specs.Back.{wrote-before}
use Rattle.coordinates.specs.Coordinates.{blank, dot, four, decimals}
use Rattle.coordinates.specs.TextLaws.{decimals-long}
use Rattle.coordinates.proofs.texts.decimals_back.Goals as goal

whole_long : (n : ℕ) → length (ended (digits (n / 10000)) dot) + 5 ≡ length (decimals n)
whole_long n = let a = decimals-long n in let b = length-append (digits (n / 10000)) (dot ∷ []) in omega arith

pub overflow_sub-at : goal.overflow_sub-at
overflow_sub-at c = omega (arith, whole_long c.args.n, c.requires.0)

pub write_bytes-requires : goal.write_bytes-requires
write_bytes-requires c = omega (arith, whole_long c.args.n, c.requires)

pub number_back-requires : goal.number_back-requires
number_back-requires c = (omega (arith, whole_long c.args.n, c.requires.0), omega (arith, c.write_bytes.auto.out, c.requires.1))

pub returns : goal.returns
unfolding decimals four
returns c =
    let o = c.args.out.now in
    let at = c.args.end - 5 in
    let f = c.args.n % 10000 in
    let tail : Wrote o at (ended (four f) blank) c.write_bytes.new.out c.args.end = record {
      bytes =
          c.write_bytes.ensures.bytes
          ∙ (λ i. sets o at (c.digit.ensures i ∷ c.digit-2.ensures i ∷ c.digit-3.ensures i ∷ c.digit-4.ensures i ∷ blank ∷ []));
      past = omega (arith, whole_long c.args.n, c.requires.0);
    } in
    wrote-before tail c.number_back.ensures
