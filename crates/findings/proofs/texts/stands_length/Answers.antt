-- `findings::texts::stands_length` meets its promise. Assumes nothing.
use Rattle.std.proofs.Common.{ap, length, arith}
use Rattle.lattice.specs.declared.points.Point.{Point}
use Rattle.text.specs.Line.{point_text}
use Rattle.findings.specs.TextLengths.{stands-long}
use Rattle.findings.proofs.texts.stands_length.Goals as goal

pub returns : goal.returns
returns c l h =
    let point = ap (λ (q : Point). length (point_text q)) c.point_of.ensures in
    omega (arith, point, c.tail_length.ensures.by_index l h, stands-long l c.args.f)
