-- `viewer_lines::lines::write_head` meets its promise. Assumes nothing.
use Rattle.std.proofs.Common.{ℕ, List, ◌++◌, sym, ap, subst, arith, length, drop}
use Rattle.laws.specs.Stores.{Wrote, wrote_then}
use Rattle.viewer_lines.specs.ViewerLines.{head_text}
use Rattle.viewer_lines.specs.Lines.{head-is, head-parts, head-none, stored-first}
use Rattle.viewer_lines.proofs.lines.write_head.Goals as goal

pub write_bytes-past_name-requires : goal.write_bytes-past_name-requires
write_bytes-past_name-requires c = omega (arith, head-parts c.args.s c.args.c c.if-s.true)

pub write_number-past_v-requires : goal.write_number-past_v-requires
write_number-past_v-requires c = omega (arith, head-parts c.args.s c.args.c c.if-s.true)

pub write_number-past_f-requires : goal.write_number-past_f-requires
write_number-past_f-requires c = omega (arith, head-parts c.args.s c.args.c c.if-s.true)

pub write_number-requires : goal.write_number-requires
write_number-requires c = omega (arith, head-parts c.args.s c.args.c c.if-s.true)

pub returns-then-s : goal.returns-then-s
returns-then-s c =
    let a = c.args in
    let o' = c.write_number.new.out in
    let past = c.write_number.result in
    stored-first a.out.now (head_text a.s a.c) o' past c.requires
    (subst (λ (l : List ℕ). Wrote a.out.now 0 l o' past) (sym (head-is a.s a.c c.if-s.true))
    (wrote_then (wrote_then (wrote_then c.write_bytes-past_name.ensures c.write_number-past_v.ensures) c.write_number-past_f.ensures) c.write_number.ensures))

pub returns-else-s : goal.returns-else-s
returns-else-s c = ap (λ (l : List ℕ). l ++ drop (length l) c.args.out.now) (sym (head-none c.args.s c.args.c c.if-s.false))
