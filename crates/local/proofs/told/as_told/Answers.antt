-- `local::as_told` meets its promise: by which parents were subdivided. Assumes nothing.
use Rattle.std.proofs.Common.{◌≡◌, ℕ, ◌+◌, ◌%◌, ◌-◌, cond, eqb, get_or, sym, ◌∙◌, ap, arith}
use Rattle.lattice.specs.Ranks.{rank_of}
use Rattle.lattice.specs.RankBounds.{birth-below}
use Rattle.local.specs.Parents.{splits_in, degrees, same_star}
use Rattle.local.specs.ParentLaws.{told-by}
use Rattle.local.proofs.told.as_told.Goals as goal

pub overflow_add-birth : goal.overflow_add-birth
overflow_add-birth c = record { fits = omega (arith, birth-below c.args.r.at, c.birth.ensures, c.turn_since.ensures.1) }

pub returns : goal.returns
returns c =
    let a = c.args in
    let i = c.splits-i.result in
    let n = a.r.n.0 in
    let is : i ≡ splits_in a.s (rank_of a.r.at - 1) = c.splits-i.ensures.0 ∙ ap (λ (k : ℕ). splits_in a.s (k - 1)) c.rank-b.ensures in
    c.same_star.ensures
    ∙ (λ j. same_star a.r (c.degree.ensures j) (c.either-k.ensures j) (c.either.ensures j))
    ∙ (λ j. same_star a.r (get_or degrees i 0) (cond (eqb i 7) (n % 2) (c.birth.ensures j + c.turn_since.ensures.0 j))
    (cond (eqb i 7) n (c.rank-b.ensures j - 1)))
    ∙ told-by a.r a.s i (sym is)
