-- `engine::many::triple_record` meets its promise: by whether its m is a byte. Assumes nothing.
use Rattle.std.proofs.Common.{◌≡◌, sym, ap, subst, ◌∙◌, arith, refl, ℤ, pos, nat_abs, w8, w32, SFits, Fits, to_z-of_z, true, false, get_or, T, ◌+◌, ◌*◌}
use Rattle.laws.specs.Triples.{is_byte}
use Rattle.std.specs.Int.Signed.{non_neg}
use Rattle.lattice.specs.Points.{is_normal, normal_of}
use Rattle.lattice.specs.declared.points.Point.{Point}
use Rattle.geometry.specs.Forms.{form-normal}
use Rattle.laws.specs.Choices.{of-true}
use Rattle.centres.specs.Marks.{in_marks}
use Rattle.engine.specs.Engine.{pairs_in, record_by, tell_at}
use Rattle.engine.specs.ScanLaws.{byte-is}
use Rattle.engine.specs.ManyLaws.{row_by}
use Rattle.std.specs.Prelude.{Option, Some, None}
use Rattle.std.specs.Option.{unwrap_or}
use Rattle.lattice.specs.Records.{nobody}
use Rattle.lattice.specs.declared.records.Record.{Record}
use Rattle.engine.proofs.many.triple_record.Goals as goal

-- all zeros where there is none
or-zeros : (v : Option Record) → unwrap_or v nobody ≡ (tell_at v).vertex
or-zeros None = refl
or-zeros (Some r) = refl

pub returns-then-not-is_byte : goal.returns-then-not-is_byte
returns-then-not-is_byte c =
    let qs = c.args.points.now in
    let i = c.args.i in
    let f : SFits w32 (get_or qs (3 * i + 2) (pos 0)) = record { sfits = omega arith } in
    let no : is_byte (get_or qs (3 * i + 2) (pos 0)) ≡ false = sym (simp (to_z-of_z f) at c.is_byte.ensures) ∙ c.if-not-is_byte.true in
    c.blank.ensures ∙ row_by (in_marks c.args.marks.now) c.args.pairs.now qs i false no

pub overflow_cast-m : goal.overflow_cast-m
overflow_cast-m c =
    let z = get_or c.args.points.now (3 * c.args.i + 2) (pos 0) in
    let f : SFits w32 z = record { sfits = omega arith } in
    let b = byte-is z (sym (simp (to_z-of_z f) at c.is_byte.ensures) ∙ c.if-not-is_byte.false) in
    subst (λ (z : ℤ). T (non_neg z) × Fits w8 (nat_abs z)) (sym (to_z-of_z f)) (b.sign, record { fits = b.size })

pub record_at-requires-clause-t : goal.record_at-requires-clause-t
record_at-requires-clause-t c = subst (λ (q : Point). T (is_normal q)) (sym c.normalise.ensures) (of-true (form-normal _ _ _))

pub returns : goal.returns
returns c =
    let H = in_marks c.args.marks.now in
    let ps = c.args.pairs.now in
    let qs = c.args.points.now in
    let i = c.args.i in
    let fa : SFits w32 (get_or qs (3 * i) (pos 0)) = record { sfits = omega arith } in
    let fb : SFits w32 (get_or qs (3 * i + 1) (pos 0)) = record { sfits = omega arith } in
    let fm : SFits w32 (get_or qs (3 * i + 2) (pos 0)) = record { sfits = omega arith } in
    let yes : is_byte (get_or qs (3 * i + 2) (pos 0)) ≡ true = sym (simp (to_z-of_z fm) at c.is_byte.ensures) ∙ c.if-not-is_byte.false in
    let point = c.normalise.ensures ∙ (λ j. normal_of (to_z-of_z fa j) (to_z-of_z fb j) (nat_abs (to_z-of_z fm j))) in
    c.unwrap_or.ensures
    ∙ ap (unwrap_or c.record_at.result) c.blank-2.ensures
    ∙ or-zeros c.record_at.result
    ∙ (λ j. (tell_at ((c.record_at.ensures ∙ ap (record_by H ps (pairs_in ps)) point) j)).vertex)
    ∙ row_by H ps qs i true yes
