-- `lattice::patterns::foremost` meets its promise. Assumes nothing.
use Rattle.std.proofs.Common.{◌≡◌, ap, ◌∙◌, arith, ℕ, pos, to_z, w8, ◌/◌, ◌%◌}
use Rattle.lattice.specs.Patterns.{pattern_of, orient}
use Rattle.lattice.specs.PatternLaws.{orient-split}
use Rattle.lattice.specs.Points.{pt, turns}
use Rattle.lattice.specs.RowLaws.{foremost-row}
use Rattle.std.proofs.Math.Facts.{to_z_pos}
use Rattle.lattice.proofs.patterns.foremost.Goals as goal

kept : (k : ℕ) → pt (pos 1) (to_z w8 (k % 2)) (k % 2) ≡ orient (k % 2) (pattern_of 6 0).adjacent
kept k = (λ i. pt (pos 1) (to_z_pos w8 {n = k % 2} (omega arith) i) (k % 2)) ∙ foremost-row (k % 2) (omega arith)

pub returns : goal.returns
returns c =
    let k = c.args.k in
    c.point.ensures ∙ c.turned.ensures ∙ ap (turns (k / 2)) (kept k) ∙ orient-split k (pattern_of 6 0).adjacent
