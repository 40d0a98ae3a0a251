-- `findings::texts::write_stands` meets its promise. Assumes nothing.
use Rattle.std.proofs.Common.{ap, subst, length, arith}
use Rattle.laws.specs.Stores.{Wrote}
use Rattle.lattice.specs.declared.points.Point.{Point}
use Rattle.text.specs.Line.{point_text}
use Rattle.text.specs.Back.{wrote-before}
use Rattle.findings.specs.Findings.{stands_text}
use Rattle.findings.specs.TextLengths.{stands-long}
use Rattle.findings.proofs.texts.write_stands.Goals as goal

pub tail_back-past-requires : goal.tail_back-past-requires
tail_back-past-requires c = (c.requires.0, (omega (arith, stands-long c.args.list.now c.args.f, c.requires.1.0), c.requires.1.1))

pub point_back-requires : goal.point_back-requires
point_back-requires c =
    let point = ap (λ (p : Point). length (point_text p)) c.point_of.ensures in (
      omega (arith, point, stands-long c.args.list.now c.args.f, c.requires.1.0, c.tail_back-past.ensures.past),
      omega (arith, c.requires.1.1, c.tail_back-past.ensures.past, c.tail_back-past.auto.out),
    )

pub returns : goal.returns
unfolding stands_text
returns c =
    wrote-before c.tail_back-past.ensures
    (subst (λ (q : Point). Wrote c.tail_back-past.new.out c.point_back.result (point_text q) c.point_back.new.out c.tail_back-past.result)
    c.point_of.ensures c.point_back.ensures)
