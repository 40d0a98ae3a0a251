-- `mesh_faces::any_torn` meets its promise: slot by slot. Assumes nothing.
use Rattle.std.proofs.Common.{◌≡◌, ℕ, ◌||◌, ap, sym, ◌∙◌, arith}
use Rattle.laws.specs.Some.{some_of}
use Rattle.table.specs.Entries.{records_below}
use Rattle.mesh_faces.specs.MeshFaces.{torn_at, torn_of}
use Rattle.mesh_faces.specs.Once.{torn-none, torn-more, torn-found}
use Rattle.mesh_faces.proofs.torn.any_torn.Goals as goal

pub loop-i-init : goal.loop-i-init
loop-i-init c = torn-none c.args.t.now

pub returns-then-slot_torn : goal.returns-then-slot_torn
unfolding torn_of
returns-then-slot_torn c = sym (torn-found c.args.t.now c.loop-i.i (omega arith) (sym c.slot_torn.ensures ∙ c.if-slot_torn.true))

pub loop-i-preserved : goal.loop-i-preserved
loop-i-preserved c =
    torn-more c.args.t.now c.loop-i.i ∙ (λ i. c.loop-i.invariant i || (sym c.slot_torn.ensures ∙ c.if-slot_torn.false) i)

pub returns : goal.returns
unfolding torn_of
returns c =
    let e : c.loop-i.i ≡ c.args.n = omega arith in
    sym c.loop-i.invariant ∙ ap (λ (k : ℕ). some_of (torn_at c.args.t.now) (records_below c.args.t.now k)) (e ∙ c.requires.1)
