-- `salvage_lines::rounds::has_clash` meets its promise. Assumes nothing.
use Rattle.std.proofs.Common.{sym, ap, ◌∙◌, length, ◌/◌, arith}
use Rattle.table.specs.MapLaws.{clear-length, table_same}
use Rattle.salvage_lines.specs.RoundLaws.{cleared-again, searching-start, searching-all, searching-clash, searching-against, searching-on}
use Rattle.salvage_lines.proofs.rounds.has_clash.Goals as goal

pub loop-next-init : goal.loop-next-init
loop-next-init c = searching-start c.args.file.now c.args.table.now

pub gather-requires : goal.gather-requires
gather-requires c =
    let k = c.loop-next in
    let long = ap length c.clear.ensures ∙ clear-length k.table ∙ k.invariant.long in
    record {
      table = (table_same c.args.table.now c.clear.new.t c.args.n long c.requires, cleared-again k.table c.clear.new.t c.clear.ensures);
      room_nonzero = (omega arith, k.invariant.within);
    }

pub returns-in-All : goal.returns-in-All
returns-in-All c =
    let k = c.loop-next in
    let w = c.in-All.ensures in
    record {
      value = searching-all c.args.file.now c.args.table.now k.at k.table k.invariant (c.args.n / 2) c.clear.new.t c.gather.new.table w;
      table_len_unchanged = w.1 ∙ ap length c.clear.ensures ∙ clear-length k.table ∙ k.invariant.long;
    }

pub returns-in-Clashing : goal.returns-in-Clashing
returns-in-Clashing c =
    let k = c.loop-next in
    let w = c.in-Clashing.ensures in
    record {
      value = searching-clash c.args.file.now c.args.table.now k.at k.table k.invariant (c.args.n / 2) c.clear.new.t c.gather.new.table w;
      table_len_unchanged = w.1 ∙ ap length c.clear.ensures ∙ clear-length k.table ∙ k.invariant.long;
    }

pub some_against-requires : goal.some_against-requires
some_against-requires c =
    let k = c.loop-next in
    table_same c.args.table.now c.gather.new.table c.args.n
    (c.in-Upto.ensures.1 ∙ ap length c.clear.ensures ∙ clear-length k.table ∙ k.invariant.long) c.requires

pub returns-then-some_against : goal.returns-then-some_against
returns-then-some_against c =
    let k = c.loop-next in
    let w = c.in-Upto.ensures in
    record {
      value = searching-against c.args.file.now c.args.table.now k.at k.table k.invariant (c.args.n / 2) c.clear.new.t c.gather.new.table c.in-Upto.next w.0
          (sym c.some_against.ensures ∙ c.if-some_against.true);
      table_len_unchanged = w.1 ∙ ap length c.clear.ensures ∙ clear-length k.table ∙ k.invariant.long;
    }

pub loop-next-smaller : goal.loop-next-smaller
loop-next-smaller c = omega (arith, c.in-Upto.ensures.0.moves)

pub loop-next-preserved : goal.loop-next-preserved
loop-next-preserved c =
    let k = c.loop-next in
    let w = c.in-Upto.ensures in
    searching-on c.args.file.now c.args.table.now k.at k.table k.invariant (c.args.n / 2) c.clear.new.t c.gather.new.table c.in-Upto.next w.0
    (sym c.some_against.ensures ∙ c.if-some_against.false) (w.1 ∙ ap length c.clear.ensures ∙ clear-length k.table ∙ k.invariant.long)
