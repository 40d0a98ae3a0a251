-- `base::lay_corner` meets its promise: by where the search ended. Assumes nothing.
use Rattle.std.proofs.Common.{◌≡◌, List, sym, ap, ◌∙◌, ℕ}
use Rattle.lattice.specs.declared.points.Point.{Point}
use Rattle.table.specs.Slots.{put_slot}
use Rattle.table.specs.Search.{find_of}
use Rattle.table.specs.MapLaws.{free-room, put-enter}
use Rattle.table.specs.declared.probe.Found.{Found}
use Rattle.table.specs.declared.probe.Found.TheVariants as found
use Rattle.base.specs.Base.{Room, corner_record}
use Rattle.centres.specs.Marks.{in_marks}
use Rattle.base.specs.LayLaws.{corner-at, lay_at_lem}
use Rattle.base.proofs.hexagons.lay_corner.Goals as goal

-- the search for the corner is that for its record
ended : (t m : List ℕ) (q : Point) (f o : Found) → f ≡ find_of t q → f ≡ o → find_of t (corner_record (in_marks m) q).at ≡ o
ended t m q f o e g = ap (find_of t) (corner-at (in_marks m) q) ∙ sym e ∙ g

pub write_slot-requires : goal.write_slot-requires
write_slot-requires c = free-room c.args.table.now c.args.n c.requires.0 c.args.q c.in-Free.i (sym c.find.ensures.value ∙ c.in-Free.is)

pub returns-in-At : goal.returns-in-At
returns-in-At c =
    let t = c.args.table.now in
    let m = c.args.marks.now in
    lay_at_lem t (corner_record (in_marks m) c.args.q) (found.At _) (ended t m c.args.q _ (found.At _) c.find.ensures.value c.in-At.is)

pub returns-in-Free : goal.returns-in-Free
returns-in-Free c =
    let t = c.args.table.now in
    let m = c.args.marks.now in
    let i = c.in-Free.i in
    let r = corner_record (in_marks m) c.args.q in
    let e = ended t m c.args.q _ (found.Free i) c.find.ensures.value c.in-Free.is in
    ap Room (c.write_slot.ensures ∙ ap (put_slot t i) c.corner_record.ensures ∙ put-enter t r i e) ∙ lay_at_lem t r (found.Free i) e

pub returns-in-Full : goal.returns-in-Full
returns-in-Full c =
    let t = c.args.table.now in
    let m = c.args.marks.now in
    lay_at_lem t (corner_record (in_marks m) c.args.q) found.Full (ended t m c.args.q _ found.Full c.find.ensures.value c.in-Full.is)
