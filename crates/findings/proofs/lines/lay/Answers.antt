-- `findings::lay` meets its promise. Assumes nothing.
use Rattle.std.proofs.Common.{◌≡◌, refl, sym, ◌∙◌, arith}
use Rattle.findings.specs.EntryLaws.{entry_in, entry_next}
use Rattle.findings.specs.LayLaws.{laying-start, laying-key, laying-lost, laying-step, laying-end, laying-bad}
use Rattle.findings.specs.Findings.{entry_at}
use Rattle.findings.specs.Judged.{found}
use Rattle.findings.specs.Laying.{Laid}
use Rattle.findings.specs.declared.line.Entry.{Entry}
use Rattle.findings.specs.declared.line.Entry.TheVariants.{Good, Bad, End}
use Rattle.findings.proofs.lines.lay.Goals as goal

pub loop-f-init : goal.loop-f-init
loop-f-init c = laying-start c.args.table.now c.args.list.now c.args.start c.args.out.now c.requires.in_order.1.1

pub lay_one-ends-requires-clause-in_order : goal.lay_one-ends-requires-clause-in_order
lay_one-ends-requires-clause-in_order c =
    let r = c.requires.in_order in
    (r.0, (r.1.0, entry_in c.args.list.now c.loop-f.at c.in-Good.f (sym c.entry_at.ensures ∙ c.in-Good.is)))

pub lay_one-ends-requires-clause-key_width_in_bounds : goal.lay_one-ends-requires-clause-key_width_in_bounds
lay_one-ends-requires-clause-key_width_in_bounds c p =
    let v = c.requires.start_value in
    let k = laying-key c.args.table.now c.args.list.now c.args.start c.args.out.now c.requires.in_order.1.1 v.0 v.1 c.loop-f.out c.loop-f.at
    c.loop-f.ends.keys c.loop-f.ends.lost c.loop-f.invariant c.in-Good.f (sym c.entry_at.ensures ∙ c.in-Good.is) p in
    omega (arith, k, v.1, c.loop-f.invariant.laid.long)

pub lay_one-ends-requires-clause-f_in_bounds : goal.lay_one-ends-requires-clause-f_in_bounds
lay_one-ends-requires-clause-f_in_bounds c p =
    let v = c.requires.start_value in
    laying-lost c.args.table.now c.args.list.now c.args.start c.args.out.now c.requires.in_order.1.1 v.0 v.1 c.loop-f.out c.loop-f.at
    c.loop-f.ends.keys c.loop-f.ends.lost c.loop-f.invariant c.in-Good.f (sym c.entry_at.ensures ∙ c.in-Good.is) p

pub loop-f-smaller : goal.loop-f-smaller
loop-f-smaller c = omega (arith, entry_next c.args.list.now c.loop-f.at c.in-Good.f (sym c.entry_at.ensures ∙ c.in-Good.is))

pub loop-f-preserved : goal.loop-f-preserved
loop-f-preserved c =
    let v = c.requires.start_value in
    laying-step c.args.table.now c.args.list.now c.args.start c.args.out.now c.requires.in_order.1.1 v.0 v.1 c.loop-f.out c.loop-f.at
    c.loop-f.ends.keys c.loop-f.ends.lost c.loop-f.invariant c.in-Good.f (sym c.entry_at.ensures ∙ c.in-Good.is)
    c.lay_one-ends.new.out c.lay_one-ends.result.keys c.lay_one-ends.result.lost c.lay_one-ends.ensures

pub returns : goal.returns
returns c = go (entry_at c.args.list.now c.loop-f.at) refl
  where
    go : (e : Entry) → entry_at c.args.list.now c.loop-f.at ≡ e
        → Laid c.args.table.now c.args.list.now c.args.start (found c.args.list.now) c.args.out.now c.loop-f.out c.loop-f.ends.keys
    go End h =
        let v = c.requires.start_value in
        laying-end c.args.table.now c.args.list.now c.args.start c.args.out.now c.requires.in_order.1.1 v.0 v.1 c.loop-f.out c.loop-f.at
        c.loop-f.ends.keys c.loop-f.ends.lost c.loop-f.invariant h
    go Bad h =
        let v = c.requires.start_value in
        absurd (laying-bad c.args.table.now c.args.list.now c.args.start c.args.out.now c.requires.in_order.1.1 v.0 v.1 c.loop-f.out c.loop-f.at
        c.loop-f.ends.keys c.loop-f.ends.lost c.loop-f.invariant h)
    go (Good f) h = absurd (c.in_default.not-Good f (c.entry_at.ensures ∙ h))
