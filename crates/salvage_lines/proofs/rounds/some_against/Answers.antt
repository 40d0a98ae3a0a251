-- `salvage_lines::rounds::some_against` meets its promise. Assumes nothing.
use Rattle.std.proofs.Common.{◌≡◌, refl, sym, ap, ◌∙◌, Bool, ◌||◌, List, ℕ, arith}
use Rattle.laws.specs.Some.{some_of}
use Rattle.lattice.specs.declared.records.Record.{Record}
use Rattle.salvage_lines.specs.OldLines.{piece_at}
use Rattle.salvage_lines.specs.LinesOn.{records_on, kept_next, dropped-next, records-over, records-dropped, records-kept}
use Rattle.salvage_lines.specs.ClashLaws.{against}
use Rattle.salvage_lines.specs.declared.line.Piece.TheVariants as piece
use Rattle.salvage_lines.proofs.rounds.some_against.Goals as goal

pub loop-next-init : goal.loop-next-init
loop-next-init c = refl

pub returns-in-Over : goal.returns-in-Over
returns-in-Over c =
    ap (some_of (against c.args.table.now)) (sym (records-over c.args.file.now c.loop-next.p (sym c.piece_at.ensures ∙ c.in-Over.is)))
    ∙ c.loop-next.invariant

pub loop-next-smaller-in-Dropped : goal.loop-next-smaller-in-Dropped
loop-next-smaller-in-Dropped c =
    omega (arith, dropped-next c.args.file.now c.loop-next.p c.in-Dropped.next (sym c.piece_at.ensures ∙ c.in-Dropped.is))

pub loop-next-preserved-in-Dropped : goal.loop-next-preserved-in-Dropped
loop-next-preserved-in-Dropped c =
    ap (some_of (against c.args.table.now))
    (sym (records-dropped c.args.file.now c.loop-next.p c.in-Dropped.next (sym c.piece_at.ensures ∙ c.in-Dropped.is))) ∙ c.loop-next.invariant

-- a record is kept, by what was told of it
told : (t f : List ℕ) (p next : ℕ) (r : Record) (changed : Bool) {x b : Bool} → piece_at f p ≡ piece.Kept r changed next
    → some_of (against t) (records_on f p) ≡ x → against t r ≡ b → (b || some_of (against t) (records_on f next)) ≡ x
told t f p next r changed e w h =
    ap (λ (y : Bool). y || some_of (against t) (records_on f next)) (sym h)
    ∙ ap (some_of (against t)) (sym (records-kept f p r changed next e)) ∙ w

pub returns-then-goes_against : goal.returns-then-goes_against
returns-then-goes_against c =
    told c.args.table.now c.args.file.now c.loop-next.p c.in-Kept.next c.in-Kept.r c.in-Kept.field-1 (sym c.piece_at.ensures ∙ c.in-Kept.is)
    c.loop-next.invariant (sym c.goes_against.ensures ∙ c.if-goes_against.true)

pub loop-next-smaller : goal.loop-next-smaller
loop-next-smaller c =
    let w = kept_next c.args.file.now c.loop-next.p c.in-Kept.r c.in-Kept.field-1 c.in-Kept.next (sym c.piece_at.ensures ∙ c.in-Kept.is) in
    omega (arith, w.0)

pub loop-next-preserved : goal.loop-next-preserved
loop-next-preserved c =
    told c.args.table.now c.args.file.now c.loop-next.p c.in-Kept.next c.in-Kept.r c.in-Kept.field-1 (sym c.piece_at.ensures ∙ c.in-Kept.is)
    c.loop-next.invariant (sym c.goes_against.ensures ∙ c.if-goes_against.false)
