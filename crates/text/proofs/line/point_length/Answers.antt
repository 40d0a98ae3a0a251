-- `text::point_length` meets its promise. Assumes nothing.
use Rattle.std.proofs.Common.{arith, rules}
use Rattle.std.proofs.lemmas.Int.{to_z-of_z}
use mir.Syntax.{w32}
use mir.Val.{SFits}
use Rattle.text.specs.LineLengths.{point-long}
use Rattle.text.proofs.line.point_length.Goals as goal

pub returns : goal.returns
returns c =
    let p = c.args.p in
    let fa : SFits w32 p.a = search rules in
    let fb : SFits w32 p.b = search rules in
    (omega (arith, simp to_z-of_z at c.signed_width.ensures.value, simp to_z-of_z at c.signed_width-2.ensures.value, point-long p), omega arith)
