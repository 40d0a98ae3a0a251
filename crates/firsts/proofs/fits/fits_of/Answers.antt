-- `firsts::fits_of` meets its promise: the strides, and what they tell. Assumes nothing.
use Rattle.std.proofs.Common.{◌≡◌, ℕ, ◌<◌, refl, ap, subst, ◌∙◌, arith}
use Rattle.laws.specs.Choices.{of-true}
use Rattle.lattice.specs.RecordLaws.{valid-turn}
use Rattle.table.specs.Slots.{slots_of}
use Rattle.table.specs.Entries.{is_held}
use Rattle.table.specs.MapLaws.{slot-looked}
use Rattle.firsts.specs.Faces.{next_place}
use Rattle.firsts.specs.Strides.{stride_of, adjacent_row, side_row, other_row, FitsBy}
use Rattle.firsts.specs.ToldLaws.{round-told}
use Rattle.firsts.proofs.fits.fits_of.Goals as goal

pub returns : goal.returns
returns c =
    let a = c.args in
    let t = a.t.now in
    let w = a.v in
    let stands : a.k < slots_of t = omega arith in
    let turn : w.k < 12 = valid-turn w (of-true (c.requires.in_order.0.valid a.k w stands c.requires.k_value)) in
    let at : ℕ → ℕ → ℕ = λ r j. stride_of r j w.k w.n.0 in
    let x1 : c.stride-va.result ≡ at (adjacent_row w.d) a.j = c.stride-va.ensures.0 ∙ ap (λ (r : ℕ). at r a.j) c.adjacents.ensures in
    let x2 : c.stride-vb.result ≡ at (adjacent_row w.d) (next_place w.d a.j) =
    c.stride-vb.ensures.0 ∙ (λ i. at (c.adjacents-2.ensures i) (c.next_place.ensures.0 i)) in
    let x3 : c.stride-ao.result ≡ at (side_row w.d a.second) a.j = c.stride-ao.ensures.0 ∙ ap (λ (r : ℕ). at r a.j) c.sides.ensures in
    let x4 : c.stride-bo.result ≡ at (other_row w.d a.second) a.j = c.stride-bo.ensures.0 ∙ ap (λ (r : ℕ). at r a.j) c.others.ensures in
    round-told t c.requires.in_order.0 w c.requires.inner.0 turn a.j c.requires.inner.1 a.second a.o.at c.requires.second_value
    (omega (arith, x3)) (omega (arith, x4)) a.a a.o a.b c.requires.round refl
    (ap is_held (slot-looked t c.requires.in_order.0 a.k w stands c.requires.k_value)) c.fits_by.result
    (subst (λ (x : ℕ). FitsBy t a.a.slot a.o.slot a.b.slot (at (adjacent_row w.d) a.j) (at (adjacent_row w.d) (next_place w.d a.j))
    (at (side_row w.d a.second) a.j) x c.fits_by.result) x4
    (subst (λ (x : ℕ). FitsBy t a.a.slot a.o.slot a.b.slot (at (adjacent_row w.d) a.j) (at (adjacent_row w.d) (next_place w.d a.j))
    x c.stride-bo.result c.fits_by.result) x3
    (subst (λ (x : ℕ). FitsBy t a.a.slot a.o.slot a.b.slot (at (adjacent_row w.d) a.j) x c.stride-ao.result c.stride-bo.result
    c.fits_by.result) x2
    (subst (λ (x : ℕ). FitsBy t a.a.slot a.o.slot a.b.slot x c.stride-vb.result c.stride-ao.result c.stride-bo.result
    c.fits_by.result) x1
    c.fits_by.ensures))))
