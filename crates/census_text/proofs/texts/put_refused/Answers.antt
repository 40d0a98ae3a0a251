-- `census_text::put_refused` meets its promise: the word, the number and the line. Assumes nothing.
use Rattle.std.proofs.Common.{◌≡◌, List, ℕ, ◌≤◌, ◌∙◌, length}
use Rattle.std.proofs.Math.Path.{ap, subst}
use Rattle.lattice.specs.Refusals.{number_of, number_told}
use Rattle.census_text.specs.Census.{put, put_text, refused_text}
use Rattle.census_text.specs.TextLaws.{refused-is}
use Rattle.census_text.proofs.texts.put_refused.Goals as goal

pub returns-clause-out_after : goal.returns-clause-out_after
returns-clause-out_after c =
    let w = c.put_text.result in
    subst
    (λ (n : ℕ). put (number_told w.outcome) w.written c.put_text.new.out ≡ put_text (number_of c.args.why) (refused_text n c.args.line) c.args.out.now)
    c.number.ensures
    (c.put_text.ensures.out_after
    ∙ ap (λ (l : List ℕ). put_text (number_of c.args.why) l c.args.out.now) (refused-is c.number.result c.args.line))

pub returns-clause-line_len_bound : goal.returns-clause-line_len_bound
returns-clause-line_len_bound c =
    subst (λ (n : ℕ). length (refused_text n c.args.line) ≤ 128) c.number.ensures
    (subst (λ (l : List ℕ). length l ≤ 128) (refused-is c.number.result c.args.line) c.put_text.ensures.ns_len_bound)
