-- `outlines::listing::put_list` meets its promise. Assumes nothing.
use Rattle.std.proofs.Common.{◌≡◌, arith}
use Rattle.std.proofs.Math.ListN.{length-map}
use Rattle.writers.specs.Kept.{standing}
use Rattle.writers.specs.KeptLaws.{filled_none}
use Rattle.outlines.specs.ListLaws.{point_key, wanted_at, filled_next, standing-nil, standing-few}
use Rattle.outlines.proofs.listing.put_list.Goals as goal

pub loop-i-init : goal.loop-i-init
loop-i-init c = rw (standing-nil point_key (wanted_at c.args.o c.args.level c.args.table.now)) (filled_none c.args.out.now)

pub put_wanted-k-requires : goal.put_wanted-k-requires
put_wanted-k-requires c =
    let f = wanted_at c.args.o c.args.level c.args.table.now in
    let r = c.requires.in_order in
    let i = c.loop-i.invariant in
    record {
      in_order = (r.0, omega (arith, r.1));
      key_width_in_bounds =
          omega (arith, c.requires.out_len, r.1, r.0.fits.long, i.count, i.long, length-map (standing f c.loop-i.i) point_key, standing-few f c.loop-i.i);
    }

pub loop-i-preserved : goal.loop-i-preserved
loop-i-preserved c =
    let f = wanted_at c.args.o c.args.level c.args.table.now in
    filled_next point_key f c.loop-i.i c.args.out.now c.loop-i.out _ c.loop-i.k c.put_wanted-k.result c.loop-i.invariant c.put_wanted-k.ensures

pub returns : goal.returns
returns c = let e : c.loop-i.i ≡ c.args.n = omega arith in rw e at c.loop-i.invariant
