-- One line more, before those that stand.
use Rattle.std.proofs.Common.{◌≡◌, ℕ, List, ◌+◌, ◌-◌, ◌<◌, ◌∙◌, ap, subst, length, drop, arith}
use Rattle.laws.specs.Stores.{Wrote}
use Rattle.lattice.specs.declared.records.Record.{Record}
use Rattle.text.specs.Line.{line_of}
use Rattle.writers.specs.Kept.{record_for}
use Rattle.writers.specs.LeftLaws.{Left, left-start, left-room, left-top, left-place, left_step, left_end}
use Rattle.writers.proofs.lines.write_lines.Goals as goal

-- the last of those left
last : (K rest o : List ℕ) (left at : ℕ) → 0 < left → Left K rest o left at → Left K rest o (left - 1 + 1) at
last K rest o left at h l = let e : left ≡ left - 1 + 1 = omega arith in subst (λ (x : ℕ). Left K rest o x at) e l

pub loop-left-init : goal.loop-left-init
loop-left-init c K r = left-start K _ _ _ r

pub key-requires : goal.key-requires
key-requires c =
    let K = c.requires.0 in
    let v = c.loop-left.invariant K c.requires.1 in
    let room = left-room K (drop c.args.total c.args.out.now) c.loop-left.out c.loop-left.left c.loop-left.at v in
    omega (arith, v.room)

pub write_line_back-at-requires : goal.write_line_back-at-requires
write_line_back-at-requires c =
    let K = c.requires.0 in
    let rest = drop c.args.total c.args.out.now in
    let k = c.loop-left.left - 1 in
    let one = last K rest c.loop-left.out c.loop-left.left c.loop-left.at (omega arith) (c.loop-left.invariant K c.requires.1) in
    let place = left-place K rest c.loop-left.out k c.loop-left.at one in
    let is = c.unpack-r.ensures ∙ ap record_for (c.key.ensures ∙ left-top K rest c.loop-left.out k c.loop-left.at one) in
    let long = ap (λ (x : Record). length (line_of x)) is in
    (omega arith, one.room)

pub loop-left-preserved : goal.loop-left-preserved
loop-left-preserved c K r =
    let rest = drop c.args.total c.args.out.now in
    let k = c.loop-left.left - 1 in
    let at = c.loop-left.at in
    let one = last K rest c.loop-left.out c.loop-left.left at (omega arith) (c.loop-left.invariant K r) in
    let is = c.unpack-r.ensures ∙ ap record_for (c.key.ensures ∙ left-top K rest c.loop-left.out k at one) in
    let long = ap (λ (x : Record). length (line_of x)) is in
    let w = c.write_line_back-at in
    left_step K rest c.loop-left.out k at one w.new.out w.result at (omega (arith, w.ensures.past))
    (subst (λ (y : Record). Wrote c.loop-left.out w.result (line_of y) w.new.out at) is w.ensures)

pub returns : goal.returns
returns c K r =
    let rest = drop c.args.total c.args.out.now in
    let e : c.loop-left.left ≡ 0 = omega arith in
    left_end K rest c.loop-left.out c.loop-left.at (subst (λ (x : ℕ). Left K rest c.loop-left.out x c.loop-left.at) e (c.loop-left.invariant K r))
