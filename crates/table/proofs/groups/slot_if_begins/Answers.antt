-- `table::slot_if_begins` meets its promise: other words are another point's. Assumes nothing.
use Rattle.std.proofs.Common.{◌≡◌, ◌+◌, ◌*◌, Bool, ◌&&◌, get_or, eqb, refl, sym, ap, ◌∙◌, arith, ne_eqb, of_z}
use Rattle.std.specs.Int.{w32}
use Rattle.lattice.specs.Points.{pt}
use Rattle.table.specs.Slots.{slot_width}
use Rattle.table.specs.Reading.{pair_of, reads_as}
use Rattle.table.specs.PairLaws.{paired, hit-both}
use Rattle.table.proofs.groups.slot_if_begins.Goals as goal

pub returns-else-first_words-pair : goal.returns-else-first_words-pair
returns-else-first_words-pair c ne =
    let x = c.args in
    let t = x.t.now in
    let e = paired x.a x.b _ _ _ c.ranges.a c.ranges.b c.cast_unsigned.ensures c.cast_unsigned-2.ensures c.pair.ensures in
    let differ = ne_eqb c.first_words.result (pair_of (of_z w32 x.a) (of_z w32 x.b)) (λ q. c.if-first_words-pair.false (q ∙ sym e)) in (
      refl,
      λ m j l.
          let here : x.i + j ≡ x.i = omega arith in
          ap (reads_as t (pt x.a x.b m)) here
          ∙ sym (hit-both t (slot_width * x.i) c.first_words.result c.first_words.ensures (pt x.a x.b m) c.ranges.a c.ranges.b)
          ∙ ap (λ (y : Bool). y && eqb (get_or t (slot_width * x.i + 8) 0) m) differ,
    )
