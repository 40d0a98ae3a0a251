-- `mesh::calls::subdivide_vertex` meets its promise. Assumes nothing.
use Rattle.std.proofs.Common.{◌∙◌, ◌≤◌, ◌<◌, arith}
use Rattle.table.specs.Slots.{free_slots}
use Rattle.mesh.specs.WriteLaws.{ready-inner, ready-turn}
use Rattle.mesh.specs.CallLaws.{standing-ready, centre-inner, vertex-7-old, vertex-7-new, vertex-8, ready-whole, vertex-0, after-parts}
use Rattle.mesh.proofs.calls.subdivide_vertex.Goals as goal

pub ring-requires : goal.ring-requires
ring-requires c = ready-inner (standing-ready c.args.t.now c.args.v c.requires.1.0 (omega arith) (omega arith))

pub adjacents_fit-requires : goal.adjacents_fit-requires
adjacents_fit-requires c =
    (c.requires.0, (standing-ready c.args.t.now c.args.v c.requires.1.0 (omega arith) (omega arith), c.ring.ensures))

pub returns-in_default : goal.returns-in_default
returns-in_default c =
    let p = after-parts (vertex-7-old c.args.t.now c.args.v (omega arith) (omega arith) c.in_default.ensures) in
    record { value = p.0; t_after = p.1 }

pub centre-c-requires : goal.centre-c-requires
centre-c-requires c =
    let r = standing-ready c.args.t.now c.args.v c.requires.1.0 (omega arith) (omega arith) in
    let b = r.below in
    (ready-turn r, omega arith)

pub ring-requires-2 : goal.ring-requires-2
ring-requires-2 c =
    let r = standing-ready c.args.t.now c.args.v c.requires.1.0 (omega arith) (omega arith) in
    rw c.centre-c.ensures (centre-inner c.args.t.now c.args.v r)

pub all_absent-requires : goal.all_absent-requires
all_absent-requires c =
    let r = standing-ready c.args.t.now c.args.v c.requires.1.0 (omega arith) (omega arith) in
    (c.requires.0, (rw c.centre-c.ensures (centre-inner c.args.t.now c.args.v r), (rw c.centre-c.ensures (omega arith), c.ring-2.ensures)))

pub returns-in_default-all_absent : goal.returns-in_default-all_absent
returns-in_default-all_absent c =
    let a = c.args in
    let new = rw c.centre-c.ensures at c.in_default-all_absent.ensures in
    let p = after-parts (vertex-7-new a.t.now a.v (omega arith) (omega arith) c.in-Some.ensures.0 new) in
    record { value = p.0; t_after = p.1 }

pub returns-then-free-lt6 : goal.returns-then-free-lt6
returns-then-free-lt6 c =
    let a = c.args in
    let new = rw c.centre-c.ensures at c.in-Some-all_absent.ensures.0 in
    let few : free_slots a.t.now < 6 = omega (arith, c.requires.1.1.1) in
    let p = after-parts (vertex-8 a.t.now a.v (omega arith) (omega arith) c.in-Some.ensures.0 new few) in
    record { value = p.0; t_after = p.1 }

pub divide-requires : goal.divide-requires
divide-requires c =
    let a = c.args in
    let t = a.t.now in
    let r = standing-ready t a.v c.requires.1.0 (omega arith) (omega arith) in
    let room : 6 ≤ free_slots t = omega (arith, c.requires.1.1.1) in
    let new = rw c.centre-c.ensures at c.in-Some-all_absent.ensures in
    record {
      table = (c.requires.0, (ready-whole t a.v r c.in-Some.ensures.0 new.0 room, c.requires.1.1.0));
      old_in = c.in-Some.ensures.1;
      value = (rw c.centre-c.ensures at c.ring-2.ensures, new.1 (omega arith));
    }

pub returns : goal.returns
returns c =
    let a = c.args in
    let new = rw c.centre-c.ensures at c.in-Some-all_absent.ensures.0 in
    let room : 6 ≤ free_slots a.t.now = omega (arith, c.requires.1.1.1) in
    let p = after-parts (vertex-0 a.t.now a.v (omega arith) (omega arith) c.in-Some.ensures.0 new room) in
    record { value = p.0; t_after = c.divide.ensures ∙ p.1 }
