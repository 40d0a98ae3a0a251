-- `table::weight` meets its promise: no step leaves 64 bits. Assumes nothing.
use Rattle.std.proofs.Common.{pos, lit≤, arith}
use Rattle.std.specs.Int.{w32, w64}
use Rattle.std.proofs.lemmas.Int.{to_z-of_z}
use Rattle.laws.specs.Sizes.{fits-size}
use Rattle.laws.specs.Machine.{whole, ◌+ᵐ◌, ◌*ᵐ◌, back}
use Rattle.table.proofs.home.weight.Goals as goal

pub returns : goal.returns
returns c =
    let a = c.args.a in
    let b = c.args.b in
    rw (c.from.ensures, to_z-of_z w32 a c.ranges.a, c.from-2.ensures, to_z-of_z w32 b c.ranges.b, c.from-3.ensures)
    (back {w = w64}
    (whole (pos 7919) 7919 (lit≤ tt) *ᵐ whole a 2147483648 (fits-size w32 a c.ranges.a)
    +ᵐ whole (pos 104729) 104729 (lit≤ tt) *ᵐ whole b 2147483648 (fits-size w32 b c.ranges.b)
    +ᵐ whole (pos c.args.m) 255 (omega arith))
    tt)
