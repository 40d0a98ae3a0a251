-- `table::find` meets its promise: the search from the home slot, which every search comes to. Assumes nothing.
use Rattle.table.specs.EntryLaws.{home-reached}
use Rattle.table.proofs.probe.find.Goals as goal

pub find_from-requires : goal.find_from-requires
find_from-requires c = (c.requires, home-reached c.args.t.now c.args.n c.requires c.args.p c.home.result c.home.ensures.0)
