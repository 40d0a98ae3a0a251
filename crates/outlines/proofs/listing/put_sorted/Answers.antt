-- `outlines::listing::put_sorted` meets its promise. Assumes nothing.
use native.Mathlib.Omega.{arith}
use lib.ListN.{length-map}
use Rattle.writers.specs.Kept.{standing}
use Rattle.outlines.specs.ListLaws.{point_key, wanted_at, standing-few, listed_in}
use Rattle.outlines.proofs.listing.put_sorted.Goals as goal

pub sort-requires : goal.sort-requires
sort-requires c =
    let a = c.args in
    let f = wanted_at a.o a.level a.table.now in
    let r = c.requires.in_order in
    let k = c.put_list-k.ensures in
    omega (arith, k.count, k.long, length-map (standing f a.n) point_key, standing-few f a.n, c.requires.out_len, r.1, r.0.fits.long)

pub returns : goal.returns
returns c =
    let a = c.args in
    let r = c.requires.in_order in
    listed_in a.o a.level a.table.now r.0 a.out.now c.put_list-k.new.out c.sort.new.out a.n c.put_list-k.result r.1 c.requires.out_len c.put_list-k.ensures
    c.sort.ensures
