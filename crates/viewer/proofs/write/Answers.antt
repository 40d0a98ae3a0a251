-- `viewer::write` meets its promise: 1, then 7 where not all corners are plain and one is torn, or what is written. Assumes nothing.
use Rattle.std.proofs.Common.{◌≡◌, sym, ◌∙◌, Bool, true, false, List, ℕ}
use Rattle.std.proofs.lemmas.Bool.{not-false}
use Rattle.table.specs.Order.{InOrder, in_order_of}
use Rattle.table.specs.MapLaws.{test-order}
use Rattle.mesh_faces.specs.MeshFaces.{torn_of}
use Rattle.mesh_faces.specs.Plain.{plain-untorn}
use Rattle.viewer.specs.CallLaws.{view-disorder, view-torn, view-whole}
use Rattle.viewer.proofs.write.Goals as goal
use Rattle.viewer.proofs.write.Goals.{else-not-found-via-then-not-found+else-any_torn, else-not-found-via-else-not-found}

pub returns-then-not-in_order : goal.returns-then-not-in_order
returns-then-not-in_order c =
    let a = c.args in view-disorder a.s a.t.now a.out.now (sym c.in_order.ensures ∙ c.if-not-in_order.true)

-- the table is in order
ordered : (t : List ℕ) (b : Bool) → b ≡ in_order_of t → b ≡ true → InOrder t
ordered t b e f = test-order t (sym e ∙ f)

pub surveyed-found-requires : goal.surveyed-found-requires
surveyed-found-requires c = (ordered c.args.t.now c.in_order.result c.in_order.ensures c.if-not-in_order.false, c.slots_of-n.ensures)

pub any_torn-requires : goal.any_torn-requires
any_torn-requires c = (ordered c.args.t.now c.in_order.result c.in_order.ensures c.if-not-in_order.false, c.slots_of-n.ensures)

pub returns-then-any_torn : goal.returns-then-any_torn
returns-then-any_torn c =
    let a = c.args in
    view-torn a.s a.t.now a.out.now (sym c.in_order.ensures ∙ c.if-not-in_order.false) (sym c.any_torn.ensures ∙ c.if-any_torn.true)

pub write_file-requires-clause-in_order : goal.write_file-requires-clause-in_order
write_file-requires-clause-in_order c = (ordered c.args.t.now c.in_order.result c.in_order.ensures c.if-not-in_order.false, c.slots_of-n.ensures)

pub write_file-requires-clause-t_value : goal.write_file-requires-clause-t_value
write_file-requires-clause-t_value c =
    let whole : torn_of c.args.t.now ≡ false =
    elim c.else-not-found.branch [
      | else-not-found-via-then-not-found+else-any_torn w ↦ sym w.any_torn.ensures ∙ w.if-any_torn.false
      | else-not-found-via-else-not-found w ↦ plain-untorn c.args.t.now (sym c.surveyed-found.ensures.1 ∙ not-false c.surveyed-found.result.plain w.if-not-found.false)
    ] in
    (whole, c.requires)

pub returns : goal.returns
returns c =
    let a = c.args in
    let whole : torn_of a.t.now ≡ false =
    elim c.else-not-found.branch [
      | else-not-found-via-then-not-found+else-any_torn w ↦ sym w.any_torn.ensures ∙ w.if-any_torn.false
      | else-not-found-via-else-not-found w ↦ plain-untorn a.t.now (sym c.surveyed-found.ensures.1 ∙ not-false c.surveyed-found.result.plain w.if-not-found.false)
    ] in
    c.write_file.ensures ∙ view-whole a.s a.t.now a.out.now (sym c.in_order.ensures ∙ c.if-not-in_order.false) whole
