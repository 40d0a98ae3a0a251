-- `mesh_faces::fresh_plain` meets its promise: by the adjacent points, then by the opposite that is chosen. Assumes nothing.
use Rattle.std.proofs.Common.{ℕ, Bool, ◌||◌, ap, sym, ◌∙◌}
use Rattle.std.proofs.Math.Bool.{or-true}
use Rattle.lattice.specs.Stars.{adjacent_at}
use Rattle.firsts.specs.Faces.{next_place}
use Rattle.firsts.specs.Earlier.{slot_in, inner_in}
use Rattle.firsts.specs.Choices.{choice-is, choice-neither}
use Rattle.firsts.specs.declared.earlier.Placed.{Placed}
use Rattle.mesh_faces.specs.Once.{fresh-none}
use Rattle.mesh_faces.specs.Plain.{plain-hidden}
use Rattle.mesh_faces.proofs.fresh.fresh_plain.Goals as goal

pub returns-then-inner_before : goal.returns-then-inner_before
returns-then-inner_before c =
    let a = c.args in
    let inner : ℕ → Bool = inner_in a.t.now a.k in
    let slot = ap (λ (x : Placed). x.slot) c.requires.a_value.0 in
    plain-hidden a.t.now a.k a.v a.j c.requires.j_value
    (ap (λ (x : Bool). x || inner (slot_in a.t.now (adjacent_at a.v (next_place a.v.d a.j))))
    (ap inner (sym slot) ∙ sym c.inner_before.ensures ∙ c.if-inner_before.true))

pub returns-then-inner_before-2 : goal.returns-then-inner_before-2
returns-then-inner_before-2 c =
    let a = c.args in
    let inner : ℕ → Bool = inner_in a.t.now a.k in
    let slot = ap (λ (x : Placed). x.slot) c.requires.a_value.1 in
    let x = inner (slot_in a.t.now (adjacent_at a.v a.j)) in
    plain-hidden a.t.now a.k a.v a.j c.requires.j_value
    (ap (λ (y : Bool). x || y) (ap inner (sym slot) ∙ sym c.inner_before-2.ensures ∙ c.if-inner_before-2.true) ∙ or-true x)

pub lone_face-requires-clause-round : goal.lone_face-requires-clause-round
lone_face-requires-clause-round c =
    let a = c.args in
    let x = choice-is a.t.now a.v a.j c.in-Some.o (sym c.in-Some.ensures) in
    (record { adjacent = c.requires.a_value.0; chosen = x.chosen; opposite = x.slot; next = c.requires.a_value.1 }, c.requires.j_value)

pub lone_face-requires-clause-slot_value : goal.lone_face-requires-clause-slot_value
lone_face-requires-clause-slot_value c = (sym c.inner_before.ensures ∙ c.if-inner_before.false, sym c.inner_before-2.ensures ∙ c.if-inner_before-2.false)

pub returns-in-None : goal.returns-in-None
returns-in-None c =
    let a = c.args in
    fresh-none a.t.now a.k a.v a.j (choice-neither a.t.now a.v a.j (sym c.in-None.ensures))
