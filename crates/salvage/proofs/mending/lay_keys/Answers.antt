-- `salvage::mending::lay_keys` meets its promise. Assumes nothing.
use Rattle.salvage.specs.KeyLaws.{keys-room, keys-few, keys-laid}
use Rattle.salvage.proofs.mending.lay_keys.Goals as goal

pub put_keys-put-requires : goal.put_keys-put-requires
put_keys-put-requires c = record {
  in_order = (c.requires.0, c.requires.1.0);
  n_in_bounds = keys-room c.args.table.now c.requires.0 c.args.n c.requires.1.0 c.args.scratch.now c.requires.1.1;
}

pub sort-requires : goal.sort-requires
sort-requires c =
    let p = c.put_keys-put in
    keys-few c.args.table.now c.requires.0 c.args.n c.requires.1.0 c.args.scratch.now p.new.out c.args.scratch.now p.result.keys c.requires.1.1
    p.ensures.filled

pub returns : goal.returns
returns c =
    let p = c.put_keys-put in
    keys-laid c.args.table.now c.requires.0 c.args.n c.requires.1.0 c.args.scratch.now p.new.out c.sort.new.out p.result.keys c.requires.1.1
    p.ensures.filled c.sort.ensures
