-- `base::lay_hexagon` meets its promise: the centre, then the corners. Assumes nothing.
use Rattle.std.proofs.Common.{◌≡◌, List, ℕ, Bool, true, false, sym, ap, ◌∙◌, arith}
use Rattle.lattice.specs.declared.points.Point.{Point}
use Rattle.lattice.specs.declared.records.Record.{Record}
use Rattle.centres.specs.Marks.{in_marks}
use Rattle.base.specs.Laying.{laid_by, lay_corners}
use Rattle.base.specs.Base.{centre_record, Room, NoRoom, lay, lay_hexagon}
use Rattle.base.specs.LayLaws.{corners-none, corners-full, corners-hexagon}
use Rattle.base.proofs.hexagons.lay_hexagon.Goals as goal

-- past the centre
after : (m t u : List ℕ) (p : Point) (r : Record) (v w : Bool) → r ≡ centre_record p → laid_by v u ≡ lay (Room t) r → v ≡ w
    → lay_corners (in_marks m) p 6 (laid_by w u) ≡ lay_hexagon (in_marks m) p 7 (Room t)
after m t u p r v w er e h =
    ap (lay_corners (in_marks m) p 6) (ap (λ (x : Bool). laid_by x u) (sym h) ∙ e ∙ ap (λ (r : Record). lay (Room t) r) er)
    ∙ corners-hexagon (in_marks m) p (Room t) 6

none : (m : List ℕ) (p : Point) → lay_corners (in_marks m) p 6 NoRoom ≡ NoRoom
none m p = corners-full (in_marks m) p NoRoom 6 0 (omega arith) (corners-none (in_marks m) p NoRoom)

pub returns-then-lay_record : goal.returns-then-lay_record
returns-then-lay_record c =
    c.lay_corners.ensures
    ∙ after c.args.marks.now c.args.table.now c.lay_record.new.table c.args.p c.vertex.result _ true c.vertex.ensures c.lay_record.ensures c.if-lay_record.true

pub returns-else-lay_record : goal.returns-else-lay_record
returns-else-lay_record c =
    let m = c.args.marks.now in
    ap (λ (v : Bool). laid_by v c.lay_record.new.table) c.if-lay_record.false ∙ sym (none m c.args.p)
    ∙ after m c.args.table.now c.lay_record.new.table c.args.p c.vertex.result _ false c.vertex.ensures c.lay_record.ensures c.if-lay_record.false
