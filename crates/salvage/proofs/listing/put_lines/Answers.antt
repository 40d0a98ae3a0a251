-- `salvage::listing::put_lines` meets its promise. Assumes nothing.
use Rattle.std.proofs.Common.{sym, ◌∙◌, subst, arith}
use Rattle.table.specs.Slots.{Table}
use Rattle.salvage_lines.specs.LinesOn.{kept_next, dropped-next}
use Rattle.salvage.specs.NoteLaws.{puts-most}
use Rattle.salvage.specs.ListedLaws.{listing_start, listing-over, listing-dropped, listing-kept}
use Rattle.salvage.proofs.listing.put_lines.Goals as goal

pub loop-next-init : goal.loop-next-init
loop-next-init c =
    listing_start c.args.table.now c.args.file.now c.args.out.now c.args.room c.args.marks.now c.requires.in_order.0 c.requires.in_order.1.1
    c.requires.marks_value.0

pub returns-in-Over : goal.returns-in-Over
returns-in-Over c =
    let k = c.loop-next in
    listing-over c.args.table.now c.args.file.now c.args.out.now c.args.room k.p k.line k.at k.out k.marks k.invariant (sym c.piece_at.ensures ∙ c.in-Over.is)

pub put_dropped-at-requires : goal.put_dropped-at-requires
put_dropped-at-requires c = (puts-most c.loop-next.invariant.puts, c.requires.marks_value.1)

pub overflow_add-line : goal.overflow_add-line
overflow_add-line c =
    let m = dropped-next c.args.file.now c.loop-next.p c.in-Dropped.next (sym c.piece_at.ensures ∙ c.in-Dropped.is) in
    omega (arith, m, c.loop-next.invariant.few)

pub loop-next-smaller-in-Dropped : goal.loop-next-smaller-in-Dropped
loop-next-smaller-in-Dropped c =
    omega (arith, dropped-next c.args.file.now c.loop-next.p c.in-Dropped.next (sym c.piece_at.ensures ∙ c.in-Dropped.is))

pub loop-next-preserved-in-Dropped : goal.loop-next-preserved-in-Dropped
loop-next-preserved-in-Dropped c =
    let k = c.loop-next in
    listing-dropped c.args.table.now c.args.file.now c.args.out.now c.args.room k.p k.line k.at k.out k.marks k.invariant c.in-Dropped.next
    (sym c.piece_at.ensures ∙ c.in-Dropped.is) c.put_dropped-at.new.out c.put_dropped-at.result c.put_dropped-at.ensures

pub had_line-again-requires : goal.had_line-again-requires
had_line-again-requires c = subst (Table c.args.table.now) (sym c.requires.in_order.1.0) c.requires.in_order.0.fits

pub put_kept-at-requires : goal.put_kept-at-requires
put_kept-at-requires c = (puts-most c.loop-next.invariant.puts, c.requires.marks_value.1)

pub overflow_add-line-in-Kept : goal.overflow_add-line-in-Kept
overflow_add-line-in-Kept c =
    let m = kept_next c.args.file.now c.loop-next.p c.in-Kept.r c.in-Kept.changed c.in-Kept.next (sym c.piece_at.ensures ∙ c.in-Kept.is) in
    omega (arith, m.0, c.loop-next.invariant.few)

pub loop-next-smaller : goal.loop-next-smaller
loop-next-smaller c =
    let m = kept_next c.args.file.now c.loop-next.p c.in-Kept.r c.in-Kept.changed c.in-Kept.next (sym c.piece_at.ensures ∙ c.in-Kept.is) in
    omega (arith, m.0)

pub loop-next-preserved : goal.loop-next-preserved
loop-next-preserved c =
    let k = c.loop-next in
    let d = c.had_line-again in
    listing-kept c.args.table.now c.args.file.now c.args.out.now c.args.room k.p k.line k.at k.out k.marks k.invariant c.in-Kept.r c.in-Kept.changed
    c.in-Kept.next (sym c.piece_at.ensures ∙ c.in-Kept.is) c.requires.in_order.0 d.result d.new.marks d.ensures.value d.ensures.marks
    c.put_kept-at.new.out c.put_kept-at.result c.put_kept-at.ensures
