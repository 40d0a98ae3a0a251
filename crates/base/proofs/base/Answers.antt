-- `base::base` meets its promise: by the tests, in the order of document 01. Assumes nothing.
use Rattle.std.proofs.Common.{◌≡◌, List, ℕ, Bool, true, false, ℤ, sym, ap, subst, ◌∙◌, arith, length, replicate}
use Rattle.table.specs.SlotLaws.{table-test, slots-table, no-slots}
use Rattle.table.specs.MapLaws.{clear-table}
use Rattle.table.specs.Slots.{Table, cleared_of}
use Rattle.centres.specs.Marks.{mark_bytes}
use Rattle.centres.specs.MarkLaws.{marks-none, list-empty, list-odd, list-even}
use Rattle.base.specs.Laying.{laid_by}
use Rattle.base.specs.Base.{centres_in, Room, lay_all, laid_of, base_after}
use Rattle.base.specs.LayLaws.{base-unfit, base-unpaired, base-bad, base-laid, laid-is}
use Rattle.base.proofs.base.Goals as goal

-- what was laid into the cleared table
laid : (t u v : List ℕ) (cs : List ℤ) (b : Bool) → u ≡ cleared_of t → laid_by b v ≡ lay_all cs (centres_in cs) (Room u)
    → (w : Bool) → b ≡ w → laid_by w v ≡ laid_of t cs
laid t u v cs b k e w h =
    sym (ap (λ (x : Bool). laid_by x v) h) ∙ e ∙ ap (λ (x : List ℕ). lay_all cs (centres_in cs) (Room x)) k ∙ laid-is t cs

pub returns-then-n-eq0 : goal.returns-then-n-eq0
returns-then-n-eq0 c =
    let t = c.args.table.now in
    (λ i. base_after (c.refuse.ensures.0 i) (c.refuse.ensures.1 i) t)
    ∙ base-unfit t c.args.centres.now (no-slots t (sym c.slots_of-n.ensures ∙ c.if-n-eq0.true))

pub returns-then-l-eq0 : goal.returns-then-l-eq0
returns-then-l-eq0 c =
    let t = c.args.table.now in
    let cs = c.args.centres.now in
    let f = table-test t c.slots_of-n.result (slots-table t c.slots_of-n.result c.slots_of-n.ensures c.if-n-eq0.false) in
    (λ i. base_after (c.refuse-then-l-eq0.ensures.0 i) (c.refuse-then-l-eq0.ensures.1 i) (c.clear.ensures i))
    ∙ base-unpaired t cs f (list-empty cs c.if-l-eq0.true)

pub returns-then-l-ne0 : goal.returns-then-l-ne0
returns-then-l-ne0 c =
    let t = c.args.table.now in
    let cs = c.args.centres.now in
    let f = table-test t c.slots_of-n.result (slots-table t c.slots_of-n.result c.slots_of-n.ensures c.if-n-eq0.false) in
    (λ i. base_after (c.refuse-then-l-ne0.ensures.0 i) (c.refuse-then-l-ne0.ensures.1 i) (c.clear.ensures i))
    ∙ base-unpaired t cs f (list-odd cs c.if-l-eq0.false c.if-l-ne0.true)

pub first_bad-bad-requires : goal.first_bad-bad-requires
first_bad-bad-requires c = record { count_in_bounds = omega arith; marked = marks-none mark_bytes c.args.centres.now }

pub returns-then-bad-l : goal.returns-then-bad-l
returns-then-bad-l c =
    let t = c.args.table.now in
    let cs = c.args.centres.now in
    let f = table-test t c.slots_of-n.result (slots-table t c.slots_of-n.result c.slots_of-n.ensures c.if-n-eq0.false) in
    let p = list-even cs c.if-l-eq0.false c.if-l-ne0.false in
    let x = c.first_bad-bad.ensures.value in
    (λ i. base_after (c.refuse-then-bad-l.ensures.0 i) ((c.refuse-then-bad-l.ensures.1 ∙ x) i) (c.clear.ensures i))
    ∙ base-bad t cs f p (omega (arith, x, c.if-bad-l.true))

pub lay_all-requires : goal.lay_all-requires
lay_all-requires c =
    let t = c.args.table.now in
    let n = c.slots_of-n.result in
    record {
      table = subst (λ (x : List ℕ). Table x n) (sym c.clear.ensures) (clear-table t n (slots-table t n c.slots_of-n.ensures c.if-n-eq0.false));
      marks_value = c.first_bad-bad.ensures.marked_2 (omega (arith, c.if-bad-l.false));
    }

pub returns-then-lay_all : goal.returns-then-lay_all
returns-then-lay_all c =
    let t = c.args.table.now in
    let cs = c.args.centres.now in
    let f = table-test t c.slots_of-n.result (slots-table t c.slots_of-n.result c.slots_of-n.ensures c.if-n-eq0.false) in
    let p = list-even cs c.if-l-eq0.false c.if-l-ne0.false in
    let x = c.first_bad-bad.ensures.value in
    base-laid t cs f p (omega (arith, x, c.if-bad-l.false)) (laid_by true c.lay_all.new.table)
    (laid t c.clear.new.t c.lay_all.new.table cs c.lay_all.result c.clear.ensures c.lay_all.ensures true c.if-lay_all.true)

pub returns : goal.returns
returns c =
    let t = c.args.table.now in
    let cs = c.args.centres.now in
    let f = table-test t c.slots_of-n.result (slots-table t c.slots_of-n.result c.slots_of-n.ensures c.if-n-eq0.false) in
    let p = list-even cs c.if-l-eq0.false c.if-l-ne0.false in
    let x = c.first_bad-bad.ensures.value in
    let h : length c.lay_all.new.table ≡ length t = omega (arith, c.lay_all.auto.table, c.clear.auto.t) in
    (λ i. base_after (c.refuse-2.ensures.0 i) (c.refuse-2.ensures.1 i) ((c.clear-2.ensures ∙ ap (λ (l : ℕ). replicate l 255) h) i))
    ∙ base-laid t cs f p (omega (arith, x, c.if-bad-l.false)) (laid_by false c.lay_all.new.table)
    (laid t c.clear.new.t c.lay_all.new.table cs c.lay_all.result c.clear.ensures c.lay_all.ensures false c.if-lay_all.false)
