-- `text::point_back` meets its contract. Assumes nothing.
use Rattle.std.proofs.Common.{arith, rules}
use Rattle.std.proofs.lemmas.Int.{to_z-of_z}
use mir.Syntax.{w32}
use mir.Val.{SFits}
use Rattle.text.specs.Line.{point_text}
use Rattle.text.specs.LineLengths.{point-length}
use Rattle.text.specs.Back.{wrote-before}
use Rattle.text.proofs.line.point_back.Goals as goal

pub number_back-past_b-requires : goal.number_back-past_b-requires
number_back-past_b-requires c = (omega (arith, point-length c.args.p, c.requires.0), c.requires.1)

pub signed_back-past_a-requires : goal.signed_back-past_a-requires
signed_back-past_a-requires c =
    let f : SFits w32 c.args.p.b = search rules in
    (simp to_z-of_z (omega (arith, point-length c.args.p, c.requires.0)), omega arith)

pub signed_back-requires : goal.signed_back-requires
signed_back-requires c =
    let fa : SFits w32 c.args.p.a = search rules in
    let fb : SFits w32 c.args.p.b = search rules in
    let past = simp to_z-of_z at c.signed_back-past_a.ensures.past in
    (simp to_z-of_z (omega (arith, point-length c.args.p, c.requires.0, past)), omega arith)

pub returns : goal.returns
unfolding point_text
returns c =
    let fa : SFits w32 c.args.p.a = search rules in
    let fb : SFits w32 c.args.p.b = search rules in
    wrote-before (wrote-before c.number_back-past_b.ensures (simp to_z-of_z at c.signed_back-past_a.ensures)) (simp to_z-of_z at c.signed_back.ensures)
