-- `lattice::ranks::parent` meets its promise. Assumes nothing.
use Rattle.std.proofs.Common.{◌∙◌, arith, ◌+◌, ◌*◌, ◌-◌}
use Rattle.lattice.specs.Ranks.{move_of, parent_of}
use Rattle.lattice.specs.RankBounds.{rank-top, birth-below, birth-parity}
use Rattle.lattice.proofs.ranks.parent.Goals as goal

pub overflow_add-birth : goal.overflow_add-birth
overflow_add-birth c = omega (arith, birth-below c.args.p, c.birth.ensures)

pub moved-requires : goal.moved-requires
moved-requires c =
    let p = c.args.p in
    let b = c.birth.ensures in
    let r = c.rank.ensures in
    (c.requires.0, (omega (arith, birth-below p), (omega (arith, rank-top p), omega (arith, birth-parity p))))

pub returns : goal.returns
unfolding parent_of
returns c = c.moved.ensures ∙ (λ i. move_of c.args.p (c.birth.ensures i + 4 * c.args.t) (c.rank.ensures i - 1))
