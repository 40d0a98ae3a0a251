-- `counts::count_slot` meets its promise: by what the slot holds. Assumes nothing.
use Rattle.std.proofs.Common.{sym, ◌∙◌}
use Rattle.firsts.specs.CaseLaws.{plain-free, plain-holds}
use Rattle.counts.specs.Counted.{faces_and_sides}
use Rattle.counts.specs.CaseLaws.{sides-free, sides-holds, faces-free, faces-holds}
use Rattle.counts.proofs.corners.count_slot.Goals as goal

pub returns-in-None-clause-value : goal.returns-in-None-clause-value
returns-in-None-clause-value c =
    let a = c.args in
    let h = sym c.in-None.ensures in
    λ i. faces_and_sides (faces-free a.t.now a.k h i) (sides-free a.t.now a.k h i) (plain-free a.t.now a.k h i)

pub returns-in-Some-clause-value : goal.returns-in-Some-clause-value
returns-in-Some-clause-value c =
    let a = c.args in
    let v = c.in-Some.v in
    let h = sym c.in-Some.ensures in
    c.count_star.ensures.value ∙ (λ i. faces_and_sides (faces-holds a.t.now a.k v h i) (sides-holds a.t.now a.k v h i) (plain-holds a.t.now a.k v h i))
