-- `mesh::writes::renew_all` meets its promise. Assumes nothing.
use Rattle.std.proofs.Common.{◌≡◌, refl, ◌∙◌, ap, List, ℕ, ◌+◌, ◌*◌, ◌≤◌, ◌<◌, length, get_or, arith}
use Rattle.lattice.specs.Stars.{adjacent_at}
use Rattle.lattice.specs.Subdivision.{back_of}
use Rattle.lattice.specs.declared.records.Record.{Record}
use Rattle.table.specs.Search.{find_of}
use Rattle.table.specs.Slots.{slot_width, slots_of}
use Rattle.table.specs.Order.{InOrder}
use Rattle.table.specs.MapLaws.{at_room}
use Rattle.table.specs.declared.probe.Found.TheVariants as found
use Rattle.mesh.specs.WriteLaws.{Renewable, renew_slot, ByteLevel, found-low, renew-found, renewed-more, renewed-none}
use Rattle.mesh.specs.Subdivide.{renewed_to, renew_of}
use Rattle.mesh.specs.Met.{OldIn}
use Rattle.mesh.proofs.writes.renew_all.Goals as goal

pub loop-j-init : goal.loop-j-init
loop-j-init c = renewed-none c.args.t.now c.args.v

-- the vertex at the place that the loop has come to stands where it was met
module _ (t : List ℕ) (v : Record) (slots : List ℕ) (r : Renewable t v) (m : OldIn t v slots 6) (j : ℕ) (h : j < 6)
    (u : List ℕ) (e : u ≡ renewed_to t v j) where
  abbrev slot : ℕ
  slot = get_or slots j 0

  met : find_of u (adjacent_at v j) ≡ found.At slot
  met = rw e (r.find j (omega arith) (adjacent_at v j) ∙ m j h)

  ordered : InOrder u
  ordered = rw e (r.order j (omega arith))

  asked : (slot_width * slot + slot_width ≤ length u) × ByteLevel u slot
  asked = (at_room u (slots_of u) ordered.fits (adjacent_at v j) slot met, found-low u ordered (adjacent_at v j) slot met)

  next : renew_slot u slot (back_of v.k j) ≡ renewed_to t v (j + 1)
  next = renew-found u ordered (adjacent_at v j) v j refl slot met ∙ ap (λ x. renew_of x v j) e ∙ renewed-more t v j

pub renew_slot-requires : goal.renew_slot-requires
renew_slot-requires c =
    let a = c.args in
    let n = asked a.t.now a.v a.slots.now c.requires.0 c.requires.1 c.loop-j.j c.loop-j-test.true c.loop-j.t c.loop-j.invariant in
    rw c.from.ensures (n.0, (omega (arith, c.back.ensures), n.1))

pub loop-j-preserved : goal.loop-j-preserved
loop-j-preserved c =
    let a = c.args in
    rw (c.from.ensures, c.back.ensures) at c.renew_slot.ensures
    ∙ next a.t.now a.v a.slots.now c.requires.0 c.requires.1 c.loop-j.j c.loop-j-test.true c.loop-j.t c.loop-j.invariant
