-- `salvage_lines::line::past_line` meets its promise. Assumes nothing.
use Rattle.std.proofs.Common.{◌≡◌, ℕ, ◌-◌, List, sym, ap, ◌∙◌, take, drop, length, length-drop, arith}
use Rattle.std.proofs.lemmas.List.{take_all}
use Rattle.salvage_lines.specs.OldLines.{past_line}
use Rattle.salvage_lines.specs.LineLaws.{before_feed, span-most, span-feed, span-none}
use Rattle.salvage_lines.proofs.line.past_line.Goals as goal

-- a part to the file's end
whole : (f : List ℕ) (at : ℕ) → take (length f - at) (drop at f) ≡ drop at f
whole f at = take_all (length f - at) (drop at f) (omega (arith, length-drop at f))

pub returns-then-file-at : goal.returns-then-file-at
unfolding past_line
returns-then-file-at c = omega (arith, span-most (drop c.args.at c.args.file.now), length-drop c.args.at c.args.file.now)

pub overflow_add-result : goal.overflow_add-result
overflow_add-result c =
    let f = c.args.file.now in
    let s = span-feed (drop c.args.at f) c.in-Some.count (sym c.in-Some.is ∙ c.before_feed.ensures ∙ ap before_feed (whole f c.args.at)) in
    omega (arith, s, length-drop c.args.at f)

pub returns-in-Some : goal.returns-in-Some
unfolding past_line
returns-in-Some c =
    let f = c.args.file.now in
    omega (arith, span-feed (drop c.args.at f) c.in-Some.count (sym c.in-Some.is ∙ c.before_feed.ensures ∙ ap before_feed (whole f c.args.at)))

pub returns-in-None : goal.returns-in-None
unfolding past_line
returns-in-None c =
    let f = c.args.file.now in
    let s = span-none (drop c.args.at f) (sym c.in-None.is ∙ c.before_feed.ensures ∙ ap before_feed (whole f c.args.at)) in
    omega (arith, s, length-drop c.args.at f)
