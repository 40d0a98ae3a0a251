-- `findings::line::numbered` meets its promise. Assumes nothing.
use Rattle.std.proofs.Common.{◌≡◌, sym, ◌∙◌, ap, Bool, true, false, ltb, leb, eqb, ◌&&◌, cond, List, ℕ, ◌+◌, ◌-◌, take, drop, get_or, length, arith, length-drop, Option, Some}
use Rattle.std.proofs.lemmas.List.{take_all}
use Rattle.std.specs.List.{position}
use Rattle.lattice.specs.declared.points.Point.{Point}
use Rattle.text.specs.Decimal.{feed}
use Rattle.text.specs.Limits.{in_limits}
use Rattle.text.specs.Line.{place_at}
use Rattle.findings.specs.Findings.{breaks, longest_note, finding}
use Rattle.findings.specs.EntryCases.{numbered_at, numbered-nowhere, numbered-unended, numbered-ended, place-inside}
use Rattle.findings.specs.declared.line.Entry.TheVariants.{Good, Bad}
use Rattle.findings.proofs.line.numbered.Goals as goal

-- a part to the list's end
whole : (l : List ℕ) (note : ℕ) → take (length l - note) (drop note l) ≡ drop note l
whole l note = take_all (length l - note) (drop note l) (omega (arith, length-drop note l))

pub returns-in_default : goal.returns-in_default
returns-in_default c = numbered-nowhere c.args.list.now c.args.from c.args.number c.args.past (sym c.read_point.ensures ∙ c.in_default.is)

pub slice_bounds-rest-count : goal.slice_bounds-rest-count
slice_bounds-rest-count c = place-inside c.args.list.now c.args.past _ _ (sym c.read_point.ensures ∙ c.in-Some.is)

pub slice_bounds-rest-start : goal.slice_bounds-rest-start
slice_bounds-rest-start c = place-inside c.args.list.now c.args.past _ _ (sym c.read_point.ensures ∙ c.in-Some.is)

pub returns-in_default-note_end : goal.returns-in_default-note_end
returns-in_default-note_end c =
    let l = c.args.list.now in
    let there = sym c.read_point.ensures ∙ c.in-Some.is in
    numbered-unended l c.args.from c.args.number c.args.past c.in-Some.p c.in-Some.note there (place-inside l c.args.past _ _ there)
    (sym c.in_default-note_end.is ∙ c.note_end.ensures ∙ ap (position breaks) (whole l c.in-Some.note))

-- a byte ends the note, and the tests say what stands there
ends : (l : List ℕ) (from number past : ℕ) (p : Point) (note n : ℕ) (near b : Bool) (o : Option ℕ) → place_at l past ≡ Some (p, note) → near ≡ in_limits p
    → o ≡ Some n → o ≡ position breaks (take (length l - note) (drop note l))
    → (ltb 0 number && (near && (eqb (get_or (take (length l - note) (drop note l)) n 0) feed && leb n longest_note))) ≡ b
    → cond b (Good (finding number p from note (note + n + 1))) Bad ≡ numbered_at l from number past
ends l from number past p note n near b o there limits is found h =
    numbered-ended l from number past p note n b there (sym is ∙ found ∙ ap (position breaks) (whole l note))
    ((λ i. ltb 0 number && (sym limits i && (eqb (get_or (sym (whole l note) i) n 0) feed && leb n longest_note))) ∙ h)

pub returns-then-good : goal.returns-then-good
returns-then-good c =
    ends c.args.list.now c.args.from c.args.number c.args.past c.in-Some.p c.in-Some.note c.in-Some-note_end.n c.in_limits.result true c.note_end.result
    (sym c.read_point.ensures ∙ c.in-Some.is) c.in_limits.ensures c.in-Some-note_end.is c.note_end.ensures c.if-good.true

pub returns-else-good : goal.returns-else-good
returns-else-good c =
    ends c.args.list.now c.args.from c.args.number c.args.past c.in-Some.p c.in-Some.note c.in-Some-note_end.n c.in_limits.result false c.note_end.result
    (sym c.read_point.ensures ∙ c.in-Some.is) c.in_limits.ensures c.in-Some-note_end.is c.note_end.ensures c.if-good.false
