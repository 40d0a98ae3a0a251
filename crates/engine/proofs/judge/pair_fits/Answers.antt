-- `engine::judge::pair_fits` meets its promise: by whether its m is a byte, then by the record of its vertex. Assumes nothing.
use Rattle.std.proofs.Common.{◌≡◌, sym, ap, subst, ◌∙◌, arith, w32, SFits, to_z-of_z, true, false, T}
use Rattle.laws.specs.Triples.{is_byte}
use Rattle.lattice.specs.Points.{is_normal}
use Rattle.lattice.specs.declared.points.Point.{Point}
use Rattle.centres.specs.Marks.{in_marks}
use Rattle.engine.specs.Engine.{pair_depth, pair_level, record_by, six_at}
use Rattle.engine.specs.ScanLaws.{fits-none, fits_byte}
use Rattle.engine.specs.MadeLaws.{pair-normal}
use Rattle.engine.proofs.judge.pair_fits.Goals as goal

pub returns-then-not-is_byte : goal.returns-then-not-is_byte
returns-then-not-is_byte c =
    let ps = c.args.pairs.now in
    let j = c.args.j in
    let f : SFits w32 (pair_depth ps j) = record { sfits = omega arith } in
    let no : is_byte (pair_depth ps j) ≡ false = sym (simp (to_z-of_z f) at c.is_byte.ensures) ∙ c.if-not-is_byte.true in
    fits-none (in_marks c.args.marks.now) ps j no

pub pair_point-requires-clause-j_value : goal.pair_point-requires-clause-j_value
pair_point-requires-clause-j_value c =
    let f : SFits w32 (pair_depth c.args.pairs.now c.args.j) = record { sfits = omega arith } in
    sym (simp (to_z-of_z f) at c.is_byte.ensures) ∙ c.if-not-is_byte.false

pub record_at-requires-clause-t : goal.record_at-requires-clause-t
record_at-requires-clause-t c =
    subst (λ (q : Point). T (is_normal q)) (sym c.pair_point.ensures) (pair-normal c.args.pairs.now c.args.j)

pub returns : goal.returns
returns c =
    let H = in_marks c.args.marks.now in
    let ps = c.args.pairs.now in
    let j = c.args.j in
    let f : SFits w32 (pair_depth ps j) = record { sfits = omega arith } in
    let g : SFits w32 (pair_level ps j) = record { sfits = omega arith } in
    let yes : is_byte (pair_depth ps j) ≡ true = sym (simp (to_z-of_z f) at c.is_byte.ensures) ∙ c.if-not-is_byte.false in
    c.is_six.ensures
    ∙ (λ i. six_at (to_z-of_z g i) ((c.record_at.ensures ∙ ap (record_by H ps j) c.pair_point.ensures) i))
    ∙ fits_byte H ps j yes
