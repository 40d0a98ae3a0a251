-- `table::reads_as` meets its promise: the first two words are the point's, and so is the depth. Assumes nothing.
use Rattle.std.proofs.Common.{ℕ, ◌+◌, ◌*◌, ◌&&◌, get_or, eqb, ap, ◌∙◌}
use Rattle.lattice.specs.Points.{pt}
use Rattle.table.specs.Slots.{slot_width}
use Rattle.table.specs.PairLaws.{paired, hit-both}
use Rattle.table.proofs.groups.reads_as.Goals as goal

pub returns : goal.returns
returns c =
    let x = c.args in
    ap (λ (y : ℕ). eqb c.first_words.result y && eqb (get_or x.t.now (slot_width * x.i + 8) 0) x.m)
    (paired x.a x.b _ _ _ c.ranges.a c.ranges.b c.cast_unsigned.ensures c.cast_unsigned-2.ensures c.pair.ensures)
    ∙ hit-both x.t.now (slot_width * x.i) c.first_words.result c.first_words.ensures (pt x.a x.b x.m) c.ranges.a c.ranges.b
