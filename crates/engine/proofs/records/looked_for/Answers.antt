-- `engine::records::looked_for` meets its promise: by the rank. Assumes nothing.
use Rattle.std.proofs.Common.{◌≡◌, sym, ◌∙◌, arith, ◌-◌}
use Rattle.lattice.specs.Ranks.{rank_of}
use Rattle.engine.specs.Scan.{wants}
use Rattle.engine.specs.ScanLaws.{wanted-zero, wanted-more}
use Rattle.engine.proofs.records.looked_for.Goals as goal

pub returns-then-n-eq0 : goal.returns-then-n-eq0
returns-then-n-eq0 c = wanted-zero c.args.p (sym c.rank-n.ensures ∙ c.if-n-eq0.true)

pub returns : goal.returns
returns c =
    let p = c.args.p in
    let r = c.rank-n.ensures in
    let e : c.saturating_sub-entry.result ≡ rank_of p - 2 = omega (arith, c.saturating_sub-entry.ensures, r) in
    (λ i. wants p (c.parent-first.ensures i) (c.parent-second.ensures i) (c.parent-third.ensures i) (c.creator-maker.ensures i) (r i - 1) (e i))
    ∙ wanted-more p (λ h. c.if-n-eq0.false (r ∙ h))
