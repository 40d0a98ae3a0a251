-- `table::is_hit` meets its promise: the rest is asked where the first two words are the point's. Assumes nothing.
use Rattle.std.proofs.Common.{sym, ◌∙◌, ne_eqb, SFits}
use Rattle.std.specs.Int.{w32}
use borrow.Author.Rules.{rules}
use Rattle.table.specs.PairLaws.{paired, hit-rest, hit-none}
use Rattle.table.proofs.probe.is_hit.Goals as goal

pub returns-then-first-pair : goal.returns-then-first-pair
returns-then-first-pair c =
    let p = c.args.p in
    let fa : SFits w32 p.a = search rules in
    let fb : SFits w32 p.b = search rules in
    let e = paired p.a p.b _ _ _ fa fb c.cast_unsigned.ensures c.cast_unsigned-2.ensures c.pair.ensures in
    hit-rest c.args.t.now c.args.s c.args.first c.requires.first p fa fb (c.if-first-pair.true ∙ e)

pub returns-else-first-pair : goal.returns-else-first-pair
returns-else-first-pair c =
    let p = c.args.p in
    let fa : SFits w32 p.a = search rules in
    let fb : SFits w32 p.b = search rules in
    let e = paired p.a p.b _ _ _ fa fb c.cast_unsigned.ensures c.cast_unsigned-2.ensures c.pair.ensures in
    ne_eqb _ _ c.if-first-pair.false ∙ hit-none c.args.t.now c.args.s c.args.first c.requires.first p fa fb (λ q. c.if-first-pair.false (q ∙ sym e))
