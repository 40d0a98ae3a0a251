-- `salvage::calls::write_both` meets its promise: the room of both, then both. Assumes nothing.
use Rattle.std.proofs.Common.{◌≡◌, sym, ap, ◌∙◌, List, ℕ, Bool, length, ltb, true, false, refl, ltb-true, ltb-false, arith}
use Rattle.std.proofs.Common.{Option, Some, None, is_some, MatchOption}
use Rattle.lattice.specs.RefusalLaws.{number-some}
use Rattle.laws.specs.Each.{not-both}
use Rattle.table.specs.Slots.{free_slots}
use Rattle.table.specs.Order.{in_order_of}
use Rattle.table.specs.MapLaws.{order-test}
use Rattle.writers.specs.Files.{full_file, put_of}
use Rattle.writers.specs.CallLaws.{unmarked-file}
use Rattle.salvage_lines.specs.OldLines.{salvaged}
use Rattle.salvage.specs.Salvage.{changes}
use Rattle.salvage.specs.CallLaws.{both-short, both-list, both-done, puts-over, put-told, capped-past, capped-within}
use Rattle.salvage.proofs.calls.write_both.Goals as goal

-- what the measure tells of the full file
measured : (t o : List ℕ) {b c : Bool} {file : List ℕ} → b ≡ ltb (length o) (length file) → file ≡ full_file t → b ≡ c
    → ltb (length o) (length (full_file t)) ≡ c
measured t o e f h = ap (λ (x : List ℕ). ltb (length o) (length x)) (sym f) ∙ sym e ∙ h

-- the free slots of a table in order are counted
counted : (t : List ℕ) (o : Option ℕ) → MatchOption o (in_order_of t ≡ false) (λ f. (in_order_of t ≡ true) × (f ≡ free_slots t)) → in_order_of t ≡ true
    → (f : ℕ) × (o ≡ Some f) × (f ≡ free_slots t)
counted t None h e = absurd (not-both e h)
counted t (Some f) h e = (f, refl, h.1)

pub unwrap-free-requires : goal.unwrap-free-requires
unwrap-free-requires c =
    let k = counted c.args.table.now c.check_order.result c.check_order.ensures (order-test c.args.table.now c.requires.0) in ap is_some k.1

some_same : {a b : ℕ} {o : Option ℕ} → o ≡ Some a → o ≡ Some b → a ≡ b
some_same e f = cc

pub is_short-requires-clause-free_value : goal.is_short-requires-clause-free_value
is_short-requires-clause-free_value c =
    let k = counted c.args.table.now c.check_order.result c.check_order.ensures (order-test c.args.table.now c.requires.0) in
    some_same c.unwrap-free.ensures k.1 ∙ k.2

pub returns-then-is_short : goal.returns-then-is_short
returns-then-is_short c =
    let t = c.args.table.now in
    let o = c.args.out.now in
    both-short t c.args.file.now o c.args.list.now
    (ltb-true (length o) (length (full_file t)) (measured t o c.is_short.ensures (unmarked-file t) c.if-is_short.true))

pub returns-then-room-total : goal.returns-then-room-total
returns-then-room-total c =
    let t = c.args.table.now in
    let o = c.args.out.now in
    let l = c.args.list.now in
    both-list t c.args.file.now o l
    (ltb-false (length o) (length (full_file t)) (measured t o c.is_short.ensures (unmarked-file t) c.if-is_short.false))
    (capped-past (length l) (length (changes (salvaged c.args.file.now) t)) c.measure-total.result c.measure-total.ensures c.if-room-total.true)

pub write_kept-requires-clause-free_value : goal.write_kept-requires-clause-free_value
write_kept-requires-clause-free_value c =
    let k = counted c.args.table.now c.check_order.result c.check_order.ensures (order-test c.args.table.now c.requires.0) in
    some_same c.unwrap-free.ensures k.1 ∙ k.2

-- the full file was measured
pub returns-in_err-written : goal.returns-in_err-written
returns-in_err-written c =
    let t = c.args.table.now in
    let o = c.args.out.now in
    let fits = ltb-false (length o) (length (full_file t)) (measured t o c.is_short.ensures (unmarked-file t) c.if-is_short.false) in
    let put = put-told (full_file t) o fits _ _ c.write_kept.new.out (c.in_err-written.ensures ∙ ap (λ (x : List ℕ). put_of x o) (unmarked-file t)) in
    absurd (number-some c.in_err-written.field-0.0 put.2)

pub returns : goal.returns
returns c =
    let t = c.args.table.now in
    let o = c.args.out.now in
    let l = c.args.list.now in
    let text = changes (salvaged c.args.file.now) t in
    let fits = ltb-false (length o) (length (full_file t)) (measured t o c.is_short.ensures (unmarked-file t) c.if-is_short.false) in
    let room = capped-within (length l) (length text) c.measure-total.result c.measure-total.ensures (omega (arith, c.if-room-total.false)) in
    let put = put-told (full_file t) o fits 0 c.in_ok-written.written c.write_kept.new.out
    (c.in_ok-written.ensures ∙ ap (λ (x : List ℕ). put_of x o) (unmarked-file t)) in
    both-done t c.args.file.now o l fits room _ _ _ _ put.0 (c.measure-total.ensures.within room) put.1
    (puts-over l text c.put_changes.new.out c.put_changes.result c.put_changes.ensures room)
