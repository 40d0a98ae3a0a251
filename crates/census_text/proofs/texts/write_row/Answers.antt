-- `census_text::write_row` meets its promise. Assumes nothing.
use Rattle.std.proofs.Common.{ℕ, ◌+◌, ◌≤◌, length, slice_index_or}
use Rattle.std.proofs.Math.Path.{subst, sym}
use Rattle.laws.specs.Stores.{Wrote}
use Rattle.text.specs.Decimal.{digits, ended}
use Rattle.census_text.specs.TextLaws.{rowed-room, rowed-more, rowed-all}
use Rattle.census_text.proofs.texts.write_row.Goals as goal

pub write_number-p-requires : goal.write_number-p-requires
write_number-p-requires c =
    let ns = c.args.ns.now in
    subst (λ (x : ℕ). c.loop-i.p + length (ended (digits (slice_index_or ns c.loop-i.i 0)) x) ≤ length c.loop-i.out) (sym c.stop_at.ensures)
    (rowed-room c.args.out.now c.args.at ns c.loop-i.i c.loop-i.out c.loop-i.p c.loop-i.invariant c.loop-i-test.true c.requires.0)

pub loop-i-preserved : goal.loop-i-preserved
loop-i-preserved c =
    let ns = c.args.ns.now in
    let o = c.write_number-p.new.out in
    let p = c.write_number-p.result in
    rowed-more c.args.out.now c.args.at ns c.loop-i.i c.loop-i.out c.loop-i.p c.loop-i.invariant c.loop-i-test.true o p
    (subst (λ (x : ℕ). Wrote c.loop-i.out c.loop-i.p (ended (digits (slice_index_or ns c.loop-i.i 0)) x) o p) c.stop_at.ensures
    c.write_number-p.ensures)

pub returns : goal.returns
returns c =
    rowed-all c.args.out.now c.args.at c.args.ns.now c.loop-i.i c.loop-i.out c.loop-i.p c.loop-i.invariant c.loop-i-test.false
