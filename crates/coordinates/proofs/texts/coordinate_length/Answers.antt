-- `coordinates::texts::coordinate_length` meets its promise. Assumes nothing.
use Rattle.std.proofs.Common.{ap, length, arith}
use Rattle.std.proofs.lemmas.Int.{to_z-of_z}
use mir.Syntax.{w32}
use Rattle.coordinates.specs.TextLaws.{decimals-long, coordinate-minus, coordinate-plus}
use Rattle.coordinates.proofs.texts.coordinate_length.Goals as goal

pub returns-then-z-lt0 : goal.returns-then-z-lt0
returns-then-z-lt0 c =
    let same = to_z-of_z w32 c.args.z c.ranges.z in
    let e = ap length (coordinate-minus c.args.z c.args.n (simp same at c.if-z-lt0.true)) in
    let d = decimals-long c.args.n in
    (omega arith, omega arith)

pub returns-else-z-lt0 : goal.returns-else-z-lt0
returns-else-z-lt0 c =
    let same = to_z-of_z w32 c.args.z c.ranges.z in
    let e = ap length (coordinate-plus c.args.z c.args.n (simp same at c.if-z-lt0.false)) in
    let d = decimals-long c.args.n in
    (omega arith, omega arith)
