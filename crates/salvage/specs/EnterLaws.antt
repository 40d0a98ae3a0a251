-- Sorted records entered into a cleared table. `enter-all` where they are no more than the free slots, they are held · `enter-short` else 8 · `filled-lined`,
-- `filled-short` the same of a cleared table · `reader-agrees` "as that reader has them": reading their lines ends alike, and with the same table.
-- Assumes nothing.
use Rattle.std.specs.Prelude.{◌≡◌, refl, Bool, true, cond, ℕ, zero, suc, ◌+◌, ◌≤◌, ◌<◌, length, Option, None, Some}
use Rattle.std.proofs.Common.{sym, ap, ◌∙◌, subst, arith, zero-add}
use mathlib.Core.List.Memᴰ
use mathlib.Core.List.{List, [], ◌∷◌, ◌++◌, append_assoc, append-nil, Memᴰ}
use Rattle.std.proofs.Math.Decide.{dec_lt}
use Rattle.lattice.specs.Records.{valid_of}
use Rattle.lattice.specs.declared.records.Record.{Record}
use Rattle.table.specs.Slots.{Table, slots_in, slots_of, free_slots, cleared_of}
use Rattle.table.specs.Search.{find_of}
use Rattle.table.specs.Order.{InOrder}
use Rattle.table.specs.Entries.{look_up, enter_of}
use Rattle.table.specs.MapLaws.{Apart, find-free, find-full, enter-keeps, enter-free, enter-length, records-count}
use Rattle.table.specs.MapLaws.{clear-order, clear-absent, clear-free, clear-length, table_of, table-slots}
use Rattle.text.specs.Line.{line_of, lines, line_at}
use Rattle.text.specs.LineLengths.{lines-least}
use Rattle.text.specs.ReadingLaws.{Stands, stands_at}
use Rattle.text.specs.LineLaws.{line-next, line-end, lines_next}
use Rattle.text.specs.LineOrder.{order_of}
use Rattle.text.specs.declared.line.Line.TheVariants.{Good}
use Rattle.sorting.specs.SortLaws.{Rising}
use Rattle.writers.specs.FileLaws.{Before}
use Rattle.readers.specs.Readers.{Lines, Read, Fault, after, no_slot, line_read, lines_from, read_lines, Restored, With, Stopped}
use Rattle.readers.specs.ReadLaws.{Valid, Lined, bound, Sound, Below, bound-above, before-order, line-absent, line-adds, line-below, room-line, lines-good}
use Rattle.readers.specs.Additions.{held-absent}
use Rattle.archive.specs.Returns.{rising-apart}
use Rattle.salvage.specs.Salvage.{entering, enter_all}
use Rattle.salvage_lines.specs.ClashLaws.{Holding}
use Rattle.salvage_lines.specs.Rounds.{holding-more}
use Rattle.salvage.specs.FillLaws.{enter-stopped}

-- what entering records leaves
pub record Entered (t : List ℕ) (seen rs : List Record) : Type 0 where
  pub table : List ℕ
  pub is : enter_all rs (With t) ≡ With table
  pub holding : Holding table (seen ++ rs)
  pub long : length table ≡ length t
  pub free : free_slots table + length rs ≡ free_slots t

-- none of them is there
abbrev pub NoneThere : List ℕ → List Record → Type 0
NoneThere t rs = (r : Record) → Memᴰ r rs → look_up t r.at ≡ None

module _ (t : List ℕ) (o : InOrder t) (r : Record) (v : valid_of r ≡ true) (a : look_up t r.at ≡ None) where
  step_room : 0 < free_slots t → entering (With t) r ≡ With (enter_of t r)
  step_room free =
      let f = find-free t o.fits r.at a free in
      ap (λ (b : Bool). cond b (Stopped 8) (With (enter_of t r))) (ap no_slot f.1)

  step-full : free_slots t ≡ 0 → entering (With t) r ≡ Stopped 8
  step-full free = ap (λ (b : Bool). cond b (Stopped 8) (With (enter_of t r))) (ap no_slot (find-full t o.fits r.at a free))

  step-none : (rs : List Record) → ((q : Record) → Memᴰ q rs → q.at ≡ r.at → ⊥) → NoneThere t rs → NoneThere (enter_of t r) rs
  step-none rs apart lack q m = enter-keeps t o r v q.at (apart q m) ∙ lack q m

pub enter-all : (rs seen : List Record) (t : List ℕ) → Holding t seen → Valid rs → Apart rs → NoneThere t rs → length rs ≤ free_slots t → Entered t seen rs
unfolding enter_all
enter-all [] seen t h v a lack l =
    record { table = t; is = refl; holding = subst (Holding t) (sym (append-nil seen)) h; long = refl; free = omega arith }
enter-all (r ∷ rs) seen t h v a lack l =
    let o = h.order in
    let ok = v r (Memᴰ.head refl) in
    let gone = lack r (Memᴰ.head refl) in
    let free : 0 < free_slots t = omega arith in
    let less = enter-free t o r ok gone free in
    let w =
    enter-all rs (seen ++ r ∷ []) (enter_of t r) (holding-more t seen r h ok gone free) (λ q m. v q (Memᴰ.tail m)) a.1
    (step-none t o r ok gone rs a.0 (λ q m. lack q (Memᴰ.tail m))) (omega arith) in
    record {
      table = w.table;
      is = ap (enter_all rs) (step_room t o r ok gone free) ∙ w.is;
      holding = subst (Holding w.table) (append_assoc seen (r ∷ []) rs) w.holding;
      long = w.long ∙ enter-length t r;
      free = omega (arith, w.free);
    }

pub enter-short : (rs seen : List Record) (t : List ℕ) → Holding t seen → Valid rs → Apart rs → NoneThere t rs → free_slots t < length rs
    → enter_all rs (With t) ≡ Stopped 8
unfolding enter_all
enter-short [] seen t h v a lack l = absurd (omega arith)
enter-short (r ∷ rs) seen t h v a lack l =
    go (dec_lt 0 (free_slots t)) (λ free. enter-short rs (seen ++ r ∷ []) (enter_of t r) (holding-more t seen r h ok gone free) (λ q m. v q (Memᴰ.tail m))
    a.1
    (step-none t o r ok gone rs a.0 (λ q m. lack q (Memᴰ.tail m))) (let less = enter-free t o r ok gone free in omega arith))
  where
    o : InOrder t
    o = h.order

    ok : valid_of r ≡ true
    ok = v r (Memᴰ.head refl)

    gone : look_up t r.at ≡ None
    gone = lack r (Memᴰ.head refl)

    go : Dec (0 < free_slots t) → (0 < free_slots t → enter_all rs (With (enter_of t r)) ≡ Stopped 8) → enter_all rs (entering (With t) r) ≡ Stopped 8
    go (yes free) ih = ap (enter_all rs) (step_room t o r ok gone free) ∙ ih free
    go (no free) ih = ap (enter_all rs) (step-full t o r ok gone (omega arith)) ∙ enter-stopped rs 8

-- ---- into a cleared table of n slots
module _ (t : List ℕ) (n : ℕ) (w : Table t n) where
  fits : Table t (slots_of t)
  fits = table_of t n w

  empty : Holding (cleared_of t) []
  empty = record {
    order = clear-order t fits;
    held = λ r m. absurd (Memᴰ.not-nil m);
    only = λ p r h. held-absent h (clear-absent t fits p);
  }

  all-free : free_slots (cleared_of t) ≡ n
  all-free = clear-free t fits ∙ table-slots t n w

  module _ (rs : List Record) (rises : Rising Before rs) (v : Valid rs) where
    -- they are held, and no other
    pub filled-lined : length rs ≤ n → (u : List ℕ) × (enter_all rs (With (cleared_of t)) ≡ With u) × Lined (lines rs) n rs u
    filled-lined l =
        let c = all-free in
        let x = enter-all rs [] (cleared_of t) empty v (rising-apart rs rises v) (λ r m. clear-absent t fits r.at) (omega arith) in
        let slots : slots_of x.table ≡ n = ap slots_in (x.long ∙ clear-length t) ∙ table-slots t n w in (
          x.table,
          x.is,
          record {
            text = refl;
            rises = rises;
            valid = v;
            order = x.holding.order;
            slots = slots;
            held = x.holding.held;
            only = x.holding.only;
            count = omega (arith, records-count x.table, x.free);
          },
        )

    pub filled-short : n < length rs → enter_all rs (With (cleared_of t)) ≡ Stopped 8
    filled-short l =
        let c = all-free in
        enter-short rs [] (cleared_of t) empty v (rising-apart rs rises v) (λ r m. clear-absent t fits r.at) (omega arith)

-- ---- "as that reader has them"

-- a reader of the lines ends as entering does: with the same table, or with 8
abbrev pub EndsAlike : List Record → Restored → Lines → Type 0
EndsAlike rs x (Read qs u) = (qs ≡ rs) × (x ≡ With u)
EndsAlike rs x (Fault number line) = (number ≡ 8) × (x ≡ Stopped 8)

alike-after : (r : Record) (rs : List Record) (x : Restored) (l : Lines) → EndsAlike rs x l → EndsAlike (r ∷ rs) x (after r l)
alike-after r rs x (Read qs u) (e, h) = (ap (λ (l : List Record). r ∷ l) e, h)
alike-after r rs x (Fault number line) h = h

lines-alike : (f : List ℕ) (left p i : ℕ) (q : Option Record) (t : List ℕ) (rs : List Record) → InOrder t → Sound q → Below t q → Rising Before rs → Valid rs
    → ((r : Record) → Memᴰ r rs → bound q ≤ order_of r.at) → Stands f p (lines rs) (length f) → length f ≤ p + left
    → EndsAlike rs (enter_all rs (With t)) (lines_from f left p i q t)
unfolding lines_from lines enter_all
lines-alike f zero p i q t [] o s low rise ok late st h = (refl, refl)
lines-alike f zero p i q t (r ∷ rs) o s low rise ok late st h = absurd (omega (arith, st.past, lines-least (r ∷ rs)))
lines-alike f (suc left) p i q t [] o s low rise ok late st h =
    subst (EndsAlike [] (With t)) (sym (ap (line_read i q t (λ r next. lines_from f left next (i + 1) (Some r) (enter_of t r)))
    (line-end f p (omega (arith, st.past)))))
    (refl, refl)
lines-alike f (suc left) p i q t (r ∷ rs) o s low rise ok late st h =
    go (dec_lt 0 (free_slots t)) (λ free. lines-alike f left next (i + 1) (Some r) (enter_of t r) rs
    (line-adds t o q low r valid high free (λ z. Unit) tt).order valid
    (line-below t o q low r valid high free) rise.1
    (λ x m. ok x (Memᴰ.tail m))
    (λ x m. before-order r x valid (ok x (Memᴰ.tail m)) (rise.0 x m))
    e.1
    (let on = line-next f p next r e.0 in omega (arith, on)))
  where
    valid : valid_of r ≡ true
    valid = ok r (Memᴰ.head refl)

    high : bound q ≤ order_of r.at
    high = late r (Memᴰ.head refl)

    absent : look_up t r.at ≡ None
    absent = line-absent t o q low r valid high

    next : ℕ
    next = p + length (line_of r)

    e : (line_at f p ≡ Good r next) × Stands f next (lines rs) (length f)
    e = lines_next f p (length f) r rs valid st

    go : Dec (0 < free_slots t)
        → (0 < free_slots t → EndsAlike rs (enter_all rs (With (enter_of t r))) (lines_from f left next (i + 1) (Some r) (enter_of t r)))
        → EndsAlike (r ∷ rs) (enter_all rs (entering (With t) r)) (lines_from f (suc left) p i q t)
    go (yes free) ih =
        let is = lines-good f left p i q t r next e.0 (bound-above q r s valid high) (room-line t o q low r valid high free) in
        subst (EndsAlike (r ∷ rs) (enter_all rs (entering (With t) r))) (sym is)
        (subst (λ (x : Restored). EndsAlike (r ∷ rs) (enter_all rs x) (after r (lines_from f left next (i + 1) (Some r) (enter_of t r))))
        (sym (step_room t o r valid absent free))
        (alike-after r rs (enter_all rs (With (enter_of t r))) (lines_from f left next (i + 1) (Some r) (enter_of t r)) (ih free)))
    go (no free) ih =
        let None : free_slots t ≡ 0 = omega arith in
        let a = bound-above q r s valid high in
        let b : no_slot (find_of t r.at) ≡ true = ap no_slot (find-full t o.fits r.at absent None) in
        let is : lines_from f (suc left) p i q t ≡ Fault 8 i
        = ap (line_read i q t (λ x n. lines_from f left n (i + 1) (Some x) (enter_of t x))) e.0
        ∙ (λ j. cond (a j) (cond (b j) (Fault 8 i) (after r (lines_from f left next (i + 1) (Some r) (enter_of t r)))) (Fault 10 i)) in
        subst (EndsAlike (r ∷ rs) (enter_all rs (entering (With t) r))) (sym is)
        (refl, ap (enter_all rs) (step-full t o r valid absent None) ∙ enter-stopped rs 8)

-- the sorted lines read into a cleared table, and their records entered
pub reader-agrees : (t : List ℕ) (n : ℕ) → Table t n → (rs : List Record) → Rising Before rs → Valid rs
    → EndsAlike rs (enter_all rs (With (cleared_of t))) (read_lines (lines rs) (cleared_of t))
reader-agrees t n w rs rises v =
    lines-alike (lines rs) (length (lines rs)) 0 1 None (cleared_of t) rs (clear-order t (fits t n w)) tt
    (λ p r h. held-absent h (clear-absent t (fits t n w) p)) rises v (λ r m. omega arith)
    (subst (Stands (lines rs) 0 (lines rs)) (zero-add (length (lines rs))) (stands_at (lines rs) (lines rs) [] 0 (sym (append-nil (lines rs)))))
    (omega arith)
