-- `table::found_at` meets its promise: at home at once, near it by a group, else by the search from there. Assumes nothing.
use Rattle.std.proofs.Common.{subst, ◌∙◌}
use Rattle.table.specs.Told.{Reaches}
use Rattle.table.specs.EntryLaws.{home-reached, reached-found}
use Rattle.table.proofs.order.found_at.Goals as goal

pub returns-then-h-i : goal.returns-then-h-i
returns-then-h-i c =
    let a = c.args in
    let begun = home-reached a.t.now a.n c.requires.table.0 a.p c.home-h.result c.home-h.ensures.0 in
    reached-found a.t.now a.n c.requires.table.0 a.p a.i (subst (Reaches a.t.now a.p) c.if-h-i.true begun) c.requires.p_value

pub find_from-requires : goal.find_from-requires
find_from-requires c = (c.requires.table.0, home-reached c.args.t.now c.args.n c.requires.table.0 c.args.p c.home-h.result c.home-h.ensures.0)

pub returns-then-group_reaches : goal.returns-then-group_reaches
returns-then-group_reaches c =
    let a = c.args in
    c.if-group_reaches.true ∙ reached-found a.t.now a.n c.requires.table.0 a.p a.i (c.group_reaches.ensures c.if-group_reaches.true) c.requires.p_value
