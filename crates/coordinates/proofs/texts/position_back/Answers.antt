-- `coordinates::texts::position_back` meets its promise. Assumes nothing.
use Rattle.std.proofs.Common.{arith, rules}
use Rattle.std.proofs.lemmas.Int.{to_z-of_z}
use mir.Syntax.{w32}
use mir.Val.{SFits}
use Rattle.text.specs.Back.{wrote-before}
use Rattle.coordinates.specs.Coordinates.{position_text}
use Rattle.coordinates.specs.TextLaws.{position-long}
use Rattle.coordinates.proofs.texts.position_back.Goals as goal

pub flat_back-past_y-requires : goal.flat_back-past_y-requires
flat_back-past_y-requires c = (omega (arith, position-long c.args.p, c.requires.1.0), c.requires.1.1)

pub y_back-past_x-requires : goal.y_back-past_x-requires
y_back-past_x-requires c =
    let p = c.args.p in
    let fb : SFits w32 p.b = search rules in
    simp to_z-of_z (
      (c.requires.0.b, c.requires.0.m),
      (
        omega (arith, position-long p, c.requires.1.0, c.flat_back-past_y.ensures.past),
        omega (arith, c.requires.1.1, c.flat_back-past_y.ensures.past, c.flat_back-past_y.auto.out),
      ),
    )

pub x_back-requires : goal.x_back-requires
x_back-requires c =
    let p = c.args.p in
    let fa : SFits w32 p.a = search rules in
    let fb : SFits w32 p.b = search rules in
    let y = simp to_z-of_z at c.y_back-past_x.ensures.past in
    simp to_z-of_z (
      c.requires.0,
      (
        omega (arith, position-long p, c.requires.1.0, c.flat_back-past_y.ensures.past, y),
        omega (arith, c.requires.1.1, c.flat_back-past_y.ensures.past, c.flat_back-past_y.auto.out, y, c.y_back-past_x.auto.out),
      ),
    )

pub returns : goal.returns
unfolding position_text
returns c =
    let fa : SFits w32 c.args.p.a = search rules in
    let fb : SFits w32 c.args.p.b = search rules in
    wrote-before (wrote-before c.flat_back-past_y.ensures (simp to_z-of_z at c.y_back-past_x.ensures)) (simp to_z-of_z at c.x_back.ensures)
