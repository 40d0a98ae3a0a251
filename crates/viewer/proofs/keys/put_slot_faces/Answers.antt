-- `viewer::keys::put_slot_faces` meets its promise: by what the slot holds. Assumes nothing.
use Rattle.std.proofs.Common.{◌≡◌, sym, ◌∙◌, ap, subst, List, arith, length}
use Rattle.firsts.specs.declared.faces.Face.{Face}
use Rattle.mesh_faces.specs.Once.{fresh_slot, fresh_star, fresh-free, fresh_holds}
use Rattle.viewer.specs.BodyLaws.{FacesIn, faces-none}
use Rattle.viewer.proofs.keys.put_slot_faces.Goals as goal
use Rattle.viewer.proofs.keys.put_slot_faces.Goals.{In-Some}

-- the slot holds a record
star : (c : In-Some) → fresh_slot c.args.t.now c.args.k ≡ fresh_star c.args.t.now c.args.k c.in-Some.v
star c = fresh_holds c.args.t.now c.args.k c.in-Some.v (sym c.read_slot.ensures ∙ c.in-Some.is)

pub put_star-requires-clause-vertices_le_from : goal.put_star-requires-clause-vertices_le_from
put_star-requires-clause-vertices_le_from c =
    (c.requires.vertices_le_at.0, omega (arith, ap length (star (goal.at.put_star-requires-clause-vertices_le_from c).In-Some)))

pub returns-in-None : goal.returns-in-None
returns-in-None c = let a = c.args in faces-none a.t.now a.out.now a.at _ (fresh-free a.t.now a.k (sym c.read_slot.ensures ∙ c.in-None.is))

pub returns-in-Some : goal.returns-in-Some
returns-in-Some c =
    let a = c.args in
    subst (λ (fs : List Face). FacesIn a.t.now a.out.now a.at fs c.put_star.new.out c.put_star.result) (sym (star (goal.at.returns-in-Some c).In-Some))
    c.put_star.ensures
