-- `census_text::put_counts` meets its promise: the header, and the numbers. Assumes nothing.
use Rattle.std.proofs.Common.{List, ℕ, ◌++◌, ◌≤◌, ◌∙◌, length}
use Rattle.std.proofs.Math.Path.{sym, ap, subst}
use Rattle.census_text.specs.Census.{in_row, row, put_text}
use Rattle.census_text.specs.TextLaws.{header_is}
use Rattle.census_text.proofs.texts.put_counts.Goals as goal

pub returns-clause-out_after : goal.returns-clause-out_after
returns-clause-out_after c =
    c.put_text.ensures.out_after ∙ ap (λ (l : List ℕ). put_text 0 (l ++ row (in_row c.args.c)) c.args.out.now) (sym header_is)

pub returns-clause-c_len_bound : goal.returns-clause-c_len_bound
returns-clause-c_len_bound c = subst (λ (l : List ℕ). length (l ++ row (in_row c.args.c)) ≤ 128) (sym header_is) c.put_text.ensures.ns_len_bound
