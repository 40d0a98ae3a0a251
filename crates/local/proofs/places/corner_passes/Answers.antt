-- `local::corner_passes` meets its promise: by the number of hexagons round it, and its degree. Assumes nothing.
use Rattle.std.proofs.Common.{◌≡◌, ℕ, ltb, sym, ◌∙◌, ap, arith}
use Rattle.lattice.specs.Points.{class_of}
use Rattle.growth.specs.Local.{star_test}
use Rattle.local.specs.Sheet.{sheet_of}
use Rattle.local.specs.Rings.{ring_of, ring-none, ring-boundary, ring_cut, ring-whole}
use Rattle.local.specs.Places.{turn_of}
use Rattle.local.specs.PlaceLaws.{corner-by}
use Rattle.local.proofs.places.corner_passes.Goals as goal

pub returns-then-h-eq0 : goal.returns-then-h-eq0
returns-then-h-eq0 c =
    let a = c.args in
    let R = sheet_of a.t.now in
    let h = ring_of R a.r.at (turn_of (class_of a.r.at)) in
    let number : c.ring_count-h.result ≡ h = c.ring_count-h.ensures.0 ∙ ap (ring_of R a.r.at) (c.turn.ensures ∙ ap turn_of c.class.ensures) in
    ring-none h a.r.d (star_test R a.r) (sym number ∙ c.if-h-eq0.true) ∙ corner-by a.t.now a.r

pub returns-then-d-eq0 : goal.returns-then-d-eq0
returns-then-d-eq0 c =
    let a = c.args in
    let R = sheet_of a.t.now in
    let h = ring_of R a.r.at (turn_of (class_of a.r.at)) in
    let number : c.ring_count-h.result ≡ h = c.ring_count-h.ensures.0 ∙ ap (ring_of R a.r.at) (c.turn.ensures ∙ ap turn_of c.class.ensures) in
    ap (λ (x : ℕ). ltb x 3) number ∙ ring-boundary h a.r.d (star_test R a.r) (λ e. c.if-h-eq0.false (number ∙ e)) c.if-d-eq0.true ∙ corner-by a.t.now a.r

pub returns-then-h-lt3 : goal.returns-then-h-lt3
returns-then-h-lt3 c =
    let a = c.args in
    let R = sheet_of a.t.now in
    let h = ring_of R a.r.at (turn_of (class_of a.r.at)) in
    let number : c.ring_count-h.result ≡ h = c.ring_count-h.ensures.0 ∙ ap (ring_of R a.r.at) (c.turn.ensures ∙ ap turn_of c.class.ensures) in
    ring_cut h a.r.d (star_test R a.r) (λ e. c.if-h-eq0.false (number ∙ e)) c.if-d-eq0.false (omega arith) ∙ corner-by a.t.now a.r

pub returns : goal.returns
returns c =
    let a = c.args in
    let R = sheet_of a.t.now in
    let h = ring_of R a.r.at (turn_of (class_of a.r.at)) in
    let number : c.ring_count-h.result ≡ h = c.ring_count-h.ensures.0 ∙ ap (ring_of R a.r.at) (c.turn.ensures ∙ ap turn_of c.class.ensures) in
    c.star_passes.ensures ∙ ring-whole h a.r.d (star_test R a.r) (λ e. c.if-h-eq0.false (number ∙ e)) c.if-d-eq0.false (omega arith) ∙ corner-by a.t.now a.r
