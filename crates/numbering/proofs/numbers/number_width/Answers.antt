-- A digit more for each order reached.
use Rattle.std.proofs.Common.{◌≡◌, ℕ, ◌+◌, ◌<◌, ◌∙◌, ap, subst, arith, leb}
use mir.Val.{bool_byte}
use Rattle.firsts.specs.Faces.{bit}
use Rattle.text.specs.LineOrder.{orders}
use Rattle.numbering.specs.Ranks.{cuts-width}
use Rattle.numbering.proofs.Bits.{byte-bit, byte-most}
use Rattle.numbering.proofs.numbers.number_width.Goals as goal

reached : (x y z n : ℕ) → n ≡ bool_byte (leb y x) → x ≡ z → n ≡ bit (leb y z)
reached x y z n e at = e ∙ byte-bit (leb y x) ∙ ap (λ (v : ℕ). bit (leb y v)) at

pub returns : goal.returns
returns c =
    let w = c.args.w in
    let x = c.order-x.result in
    let at = c.order-x.ensures.0 in
    let two = reached x w.two _ c.from-two.result c.from-two.ensures at in
    let three = reached x w.three _ c.from-three.result c.from-three.ensures at in
    let four = reached x w.four _ c.from-four.result c.from-four.ensures at in
    let five = reached x w.five _ c.from-five.result c.from-five.ensures at in
    let inside = subst (λ (v : ℕ). v < orders) at c.order-x.ensures.1 in (
      λ t d u few. (λ i. 1 + two i + three i + four i + five i) ∙ cuts-width t d c.args.first w u c.requires.by_index.1 c.args.p c.requires.close few inside,
      omega (
        arith,
        c.from-two.ensures,
        c.from-three.ensures,
        c.from-four.ensures,
        c.from-five.ensures,
        byte-most (leb w.two x),
        byte-most (leb w.three x),
        byte-most (leb w.four x),
        byte-most (leb w.five x),
      ),
    )
