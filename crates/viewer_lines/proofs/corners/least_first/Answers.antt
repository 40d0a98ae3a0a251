-- `viewer_lines::corners::least_first` meets its promise: turned as often as the first is not the smallest. Assumes nothing.
use Rattle.std.proofs.Common.{sym, ◌∙◌, ap}
use Rattle.viewer_lines.specs.ViewerLines.{is_least, next_first}
use Rattle.viewer_lines.specs.Packed.{least-here, least-second, least-third, least-last}
use Rattle.viewer_lines.proofs.corners.least_first.Goals as goal

pub returns-then-is_least : goal.returns-then-is_least
returns-then-is_least c = least-here c.args.q (sym c.is_least.ensures ∙ c.if-is_least.true)

pub returns-then-is_least-2 : goal.returns-then-is_least-2
returns-then-is_least-2 c =
    let s = c.next_first-second.ensures in
    s ∙ least-second c.args.q (sym c.is_least.ensures ∙ c.if-is_least.false) (ap is_least (sym s) ∙ sym c.is_least-2.ensures ∙ c.if-is_least-2.true)

pub returns-then-is_least-3 : goal.returns-then-is_least-3
returns-then-is_least-3 c =
    let s = c.next_first-second.ensures in
    let t = c.next_first-third.ensures ∙ ap next_first s in
    t ∙ least-third c.args.q (sym c.is_least.ensures ∙ c.if-is_least.false) (ap is_least (sym s) ∙ sym c.is_least-2.ensures ∙ c.if-is_least-2.false)
    (ap is_least (sym t) ∙ sym c.is_least-3.ensures ∙ c.if-is_least-3.true)

pub returns : goal.returns
returns c =
    let s = c.next_first-second.ensures in
    let t = c.next_first-third.ensures ∙ ap next_first s in
    c.next_first.ensures ∙ ap next_first t
    ∙ least-last c.args.q (sym c.is_least.ensures ∙ c.if-is_least.false) (ap is_least (sym s) ∙ sym c.is_least-2.ensures ∙ c.if-is_least-2.false)
    (ap is_least (sym t) ∙ sym c.is_least-3.ensures ∙ c.if-is_least-3.false)
