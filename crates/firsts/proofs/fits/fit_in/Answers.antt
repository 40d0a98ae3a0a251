-- `firsts::fit_in` meets its promise: by what the slot holds. Assumes nothing.
use Rattle.std.proofs.Common.{◌≡◌, ◌≤◌, true, sym, ◌∙◌, arith}
use Rattle.laws.specs.Choices.{of-true}
use Rattle.lattice.specs.Records.{valid_of}
use Rattle.lattice.specs.RecordLaws.{valid-turn}
use Rattle.table.specs.Slots.{slots_of}
use Rattle.firsts.specs.EarlierLaws.{earlier-slot, earlier-valid, valid-inner}
use Rattle.firsts.proofs.fits.fit_in.Goals as goal

pub fit-requires : goal.fit-requires
fit-requires c =
    let a = c.args in
    let all : a.n ≤ slots_of a.t.now = omega arith in
    let ok : valid_of c.in-Some.u ≡ true =
    earlier-valid a.t.now c.requires.0 a.n all a.s c.in-Some.u (sym c.earlier.ensures ∙ c.in-Some.is) in
    (valid-inner c.in-Some.u 0 ok (omega (arith, c.if-u-eq0.false)), valid-turn c.in-Some.u (of-true ok))

pub returns-else-u-eq0 : goal.returns-else-u-eq0
returns-else-u-eq0 c =
    let a = c.args in
    let all : a.n ≤ slots_of a.t.now = omega arith in
    let x = earlier-slot a.t.now c.requires.0 a.n all a.s c.in-Some.u (sym c.earlier.ensures ∙ c.in-Some.is) in
    λ h. (c.if-not-there.false, record { rec = c.in-Some.u; below = omega (arith, x.0, all); holds = x.1; fit = c.fit.ensures h })
