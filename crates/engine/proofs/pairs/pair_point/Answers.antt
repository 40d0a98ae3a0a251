-- `engine::pairs::pair_point` meets its promise: its m is a byte. Assumes nothing.
use Rattle.std.proofs.Common.{◌∙◌, arith, pos, nat_abs, w32, SFits, to_z-of_z, get_or, ◌+◌, ◌*◌}
use Rattle.lattice.specs.Points.{normal_of}
use Rattle.engine.specs.Engine.{pair_depth, pair_point}
use Rattle.engine.proofs.pairs.pair_point.Goals as goal

pub returns : goal.returns
unfolding pair_point
returns c =
    let ps = c.args.pairs.now in
    let j = c.args.j in
    let fa : SFits w32 (get_or ps (4 * j) (pos 0)) = record { sfits = omega arith } in
    let fb : SFits w32 (get_or ps (4 * j + 1) (pos 0)) = record { sfits = omega arith } in
    let fm : SFits w32 (pair_depth ps j) = record { sfits = omega arith } in
    c.normalise.ensures ∙ (λ i. normal_of (to_z-of_z fa i) (to_z-of_z fb i) (nat_abs (to_z-of_z fm i)))
