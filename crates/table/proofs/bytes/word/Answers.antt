-- `table::word` meets its promise. Assumes nothing.
use Rattle.std.proofs.Common.{◌+◌, arith}
use Rattle.laws.specs.Words.{word_at}
use Rattle.table.proofs.bytes.word.Goals as goal

pub returns : goal.returns
unfolding word_at
returns c =
    let p = c.args.p in
    record {
      is = omega (arith, c.from_le_bytes.ensures);
      byte0 = omega (arith, c.type_inv.t p);
      byte1 = omega (arith, c.type_inv.t (p + 1));
      byte2 = omega (arith, c.type_inv.t (p + 2));
      byte3 = omega (arith, c.type_inv.t (p + 3));
    }
