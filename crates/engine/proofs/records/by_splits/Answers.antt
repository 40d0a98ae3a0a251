-- `engine::records::by_splits` meets its promise: by which parents were subdivided. Assumes nothing.
use Rattle.growth.specs.Model.{by_splits}
use Rattle.engine.specs.ScanLaws.{split_at}
use Rattle.engine.proofs.records.by_splits.Goals as goal

pub returns-in-true-true-true : goal.returns-in-true-true-true
unfolding by_splits
returns-in-true-true-true c =
    let a = c.args in
    let i = c.in-true-true-true in
    split_at a.p a.x a.y a.z a.k a.b a.n c.filled.result c.filled.ensures i.is-0 i.is-1 i.is-2

pub returns-in-true-true-false : goal.returns-in-true-true-false
unfolding by_splits
returns-in-true-true-false c =
    let a = c.args in
    let i = c.in-true-true-false in
    split_at a.p a.x a.y a.z a.k a.b a.n c.filled-in-true-true-false.result c.filled-in-true-true-false.ensures i.is-0 i.is-1 i.is-2

pub returns-in-true-false-true : goal.returns-in-true-false-true
unfolding by_splits
returns-in-true-false-true c =
    let a = c.args in
    let i = c.in-true-false-true in
    split_at a.p a.x a.y a.z a.k a.b a.n c.filled-in-true-false-true.result c.filled-in-true-false-true.ensures i.is-0 i.is-1 i.is-2

pub returns-in-true-false-false : goal.returns-in-true-false-false
unfolding by_splits
returns-in-true-false-false c =
    let a = c.args in
    let i = c.in-true-false-false in
    split_at a.p a.x a.y a.z a.k a.b a.n c.filled-in-true-false-false.result c.filled-in-true-false-false.ensures i.is-0 i.is-1 i.is-2

pub returns-in-false-true-true : goal.returns-in-false-true-true
unfolding by_splits
returns-in-false-true-true c =
    let a = c.args in
    let i = c.in-false-true-true in
    split_at a.p a.x a.y a.z a.k a.b a.n c.filled-in-false-true-true.result c.filled-in-false-true-true.ensures i.is-0 i.is-1 i.is-2

pub returns-in-false-true-false : goal.returns-in-false-true-false
unfolding by_splits
returns-in-false-true-false c =
    let a = c.args in
    let i = c.in-false-true-false in
    split_at a.p a.x a.y a.z a.k a.b a.n c.filled-in-false-true-false.result c.filled-in-false-true-false.ensures i.is-0 i.is-1 i.is-2

pub returns-in-false-false-true : goal.returns-in-false-false-true
unfolding by_splits
returns-in-false-false-true c =
    let a = c.args in
    let i = c.in-false-false-true in
    split_at a.p a.x a.y a.z a.k a.b a.n c.filled-in-false-false-true.result c.filled-in-false-false-true.ensures i.is-0 i.is-1 i.is-2

pub returns-in-false-false-false : goal.returns-in-false-false-false
unfolding by_splits
returns-in-false-false-false c =
    let a = c.args in
    let i = c.in-false-false-false in
    split_at a.p a.x a.y a.z a.k a.b a.n c.filled-in-false-false-false.result c.filled-in-false-false-false.ensures i.is-0 i.is-1 i.is-2
