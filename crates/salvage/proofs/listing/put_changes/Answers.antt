-- `salvage::listing::put_changes` meets its promise. Assumes nothing.
use Rattle.salvage.specs.NoteLaws.{puts-most}
use Rattle.salvage.specs.ListedLaws.{listed-all}
use Rattle.salvage.proofs.listing.put_changes.Goals as goal

pub put_slots-requires : goal.put_slots-requires
put_slots-requires c = record {
  in_order = (c.requires.in_order.0, c.requires.in_order.1.0);
  start_bound = (puts-most c.put_lines-at.ensures.puts, c.requires.room_bound);
}

pub returns : goal.returns
returns c =
    let l = c.put_lines-at in
    let p = c.put_slots in
    listed-all c.args.table.now c.args.file.now c.args.out.now c.requires.in_order.0 c.requires.in_order.1.1 c.args.room l.new.out l.new.marks p.new.out
    l.result p.result c.args.n c.requires.in_order.1.0 l.ensures p.ensures
