-- `outlines::listing::put_wanted` meets its promise. Assumes nothing.
use Rattle.std.proofs.Common.{sym}
use Rattle.text.specs.LineOrder.{close}
use Rattle.outlines.proofs.listing.put_wanted.Goals as goal

pub order-requires : goal.order-requires
order-requires c =
    let r = c.requires.in_order in
    close c.in-Some.v (r.0.valid c.args.i c.in-Some.v r.1 (sym c.in-Some.ensures))
