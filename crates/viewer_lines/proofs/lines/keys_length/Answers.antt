-- `viewer_lines::lines::keys_length` meets its promise. Assumes nothing.
use Rattle.std.proofs.Common.{◌≡◌, ◌+◌, ◌≤◌, ◌∙◌, ap, ℕ, arith, length}
use Rattle.sorting.specs.Sorting.{key_in, keys_in}
use Rattle.viewer_lines.specs.ViewerLines.{texts}
use Rattle.viewer_lines.specs.Backward.{firsts-start, firsts_more, firsts-fewer}
use Rattle.viewer_lines.specs.Lines.{key_line}
use Rattle.viewer_lines.proofs.lines.keys_length.Goals as goal
use Rattle.viewer_lines.proofs.lines.keys_length.Goals.{After-key_length-total}

pub loop-i-init : goal.loop-i-init
loop-i-init c = let a = c.args in firsts-start (key_line a.s) (key_in a.out.now)

-- one key more
more : (c : After-key_length-total)
    → c.loop-i.total + c.key_length-total.result ≡ length (texts (key_line c.args.s) (keys_in c.args.out.now (c.loop-i.i + 1)))
more c =
    let b = c.key_length-total.ensures.0 ∙ ap (λ (v : ℕ). length (key_line c.args.s v)) c.key.ensures in
    let d = firsts_more (key_line c.args.s) (key_in c.args.out.now) c.loop-i.i in
    omega arith

pub overflow_add-total : goal.overflow_add-total
overflow_add-total c =
    let h : c.loop-i.i + 1 ≤ c.args.k = omega arith in
    let m = more (goal.at.overflow_add-total c).After-key_length-total in
    omega (arith, m, firsts-fewer (key_line c.args.s) (key_in c.args.out.now) (c.loop-i.i + 1) c.args.k h, c.requires.k_in_bounds)

pub loop-i-preserved : goal.loop-i-preserved
loop-i-preserved c = more (goal.at.loop-i-preserved c).After-key_length-total
