-- `salvage_lines::line::same_record` meets its promise. Assumes nothing.
use Rattle.std.proofs.Common.{ap, Bool, ◌&&◌, eqb}
use Rattle.salvage_lines.specs.OldLines.{same_record}
use Rattle.salvage_lines.proofs.line.same_record.Goals as goal

pub returns : goal.returns
unfolding same_record
returns c =
    let r = c.args.r in
    let q = c.args.q in
    ap (λ (b : Bool). b && (eqb r.d q.d && (eqb r.k q.k && eqb r.n.0 q.n.0))) c.same_point.ensures
