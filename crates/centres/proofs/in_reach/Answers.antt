-- `centres::in_reach` meets its promise. Assumes nothing.
use Rattle.std.proofs.Common.{◌≡◌, ◌∙◌, pos, to_z, of_z, w32, to_z-of_z, ◌&&◌}
use Rattle.centres.specs.MarkLaws.{reach-is}
use Rattle.std.specs.Int.Signed.{le_z}
use Rattle.std.specs.Prelude.{negsuc}
use Rattle.centres.proofs.in_reach.Goals as goal

pub returns : goal.returns
returns c =
    let e : to_z w32 (of_z w32 c.args.x) ≡ c.args.x = to_z-of_z c.ranges.x in
    (λ i. le_z (negsuc 249) (e i) && le_z (e i) (pos 250)) ∙ reach-is c.args.x
