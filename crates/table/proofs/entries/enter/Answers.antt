-- `table::enter` meets its promise: the search from the home slot, which every search comes to. Assumes nothing.
use Rattle.table.specs.EntryLaws.{home-reached}
use Rattle.table.proofs.entries.enter.Goals as goal

pub enter_from-requires : goal.enter_from-requires
enter_from-requires c = (c.requires, home-reached c.args.t.now c.args.n c.requires c.args.r.at c.home.result c.home.ensures.0)
