-- What reading the lines of a file obeys: a file is read where it is the lines of valid records that rise strictly, and no more of them than slots; the
-- table then holds those records and no other. `read-lines` what a file that was read is (`Lined`) · `lines-read` such a file is read · `lines-one`
-- valid records are told by their lines.
-- The line before is a bound on the order of lines (text's specs/LineOrder): what the table holds lies below it, so the point of the next line is absent.
-- Assumes nothing.
use Rattle.std.specs.Prelude.{◌≡◌, refl, ◌⊎◌, Bool, false, cond, ℕ, zero, suc, ◌+◌, ◌≤◌, ◌<◌, length, drop, Option, Some, None}
use Rattle.std.proofs.Common.{sym, ◌∙◌, subst, inl, inr, arith, zero-add, ltb-true, lt-ltb, drop_of_length-le}
use Rattle.std.proofs.Math.Path.{ap}
use Rattle.std.proofs.Math.Bool.{true}
use mathlib.Core.List.Memᴰ
use mathlib.Core.List.{List, [], ◌∷◌, ◌++◌, append-nil, Memᴰ}
use Rattle.std.proofs.Math.Decide.{dec_lt}
use Rattle.laws.specs.Each.{not-both}
use Rattle.lattice.specs.Records.{valid_of}
use Rattle.lattice.specs.declared.points.Point.{Point}
use Rattle.lattice.specs.declared.records.Record.{Record}
use Rattle.table.specs.Slots.{Table, slots_in, slots_of, cleared_of, free_slots}
use Rattle.table.specs.Search.{find_of}
use Rattle.table.specs.Order.{InOrder}
use Rattle.table.specs.Entries.{look_up, enter_of, records_of}
use Rattle.table.specs.MapLaws.{Searched, there, room, full, searched, find-free, enter-finds, enter-free, enter-records, lookup-point, records-count}
use Rattle.table.specs.MapLaws.{table_of, table-slots, clear-order, clear-absent, clear-free, clear-length}
use Rattle.text.specs.Line.{line_of, lines, line_at}
use Rattle.text.specs.LineLengths.{lines-least}
use Rattle.text.specs.ReadingLaws.{Stands, stands_at}
use Rattle.text.specs.LineLaws.{line_write, line_read_lem, line-next, line-end, line-bad, line-prefix, lines_next}
use Rattle.text.specs.declared.line.Line.{Line}
use Rattle.text.specs.declared.line.Line.TheVariants.{Good, Bad, End}
use Rattle.sorting.specs.SortLaws.{Rising}
use Rattle.writers.specs.FileLaws.{Before}
use Rattle.text.specs.LineOrder.{order_of, close, order-earlier}
use Rattle.readers.specs.Readers.{Lines, Read, Fault, after, above, no_slot, line_read, lines_from, read_lines}
use Rattle.readers.specs.Additions.{Adds, adds_none, adds_one, adds_then, adds-as, adds-slots, held-absent}

-- ---- the order of lines, as a number

abbrev pub Valid : List Record → Type 0
Valid rs = (r : Record) → Memᴰ r rs → valid_of r ≡ true

module _ (r s : Record) (v : valid_of r ≡ true) (w : valid_of s ≡ true) where
  pub before-order : Before r s → order_of r.at < order_of s.at
  before-order h = ltb-true (order_of r.at) (order_of s.at) (sym (order-earlier r.at s.at (close r v) (close s w)) ∙ h)

  pub order-before : order_of r.at < order_of s.at → Before r s
  order-before h = order-earlier r.at s.at (close r v) (close s w) ∙ lt-ltb (order_of r.at) (order_of s.at) h

-- what the order of the lines to come is at least
abbrev pub bound : Option Record → ℕ
bound None = 0
bound (Some q) = suc (order_of q.at)

-- the line before, where there is one, was valid
abbrev pub Sound : Option Record → Type 0
Sound None = Unit
Sound (Some q) = valid_of q ≡ true

-- every point of the table is at the line before or above it
abbrev pub Below : List ℕ → Option Record → Type 0
Below t q = (p : Point) (r : Record) → look_up t p ≡ Some r → order_of r.at < bound q

above-bound : (q : Option Record) (r : Record) → Sound q → valid_of r ≡ true → above q r ≡ true → bound q ≤ order_of r.at
above-bound None r s v h = omega arith
above-bound (Some q) r s v h = let l = before-order q r s v h in omega arith

pub bound-above : (q : Option Record) (r : Record) → Sound q → valid_of r ≡ true → bound q ≤ order_of r.at → above q r ≡ true
bound-above None r s v h = refl
bound-above (Some q) r s v h = order-before q r s v (omega arith)

-- ---- the lines from position p on

-- records rs stand from p to the end of the file, behind line q, and u is t with them
pub record From (f : List ℕ) (p : ℕ) (q : Option Record) (t : List ℕ) (rs : List Record) (u : List ℕ) : Type 0 where
  pub text : drop p f ≡ lines rs
  pub rises : Rising Before rs
  pub valid : Valid rs
  pub later : (r : Record) → Memᴰ r rs → bound q ≤ order_of r.at
  pub adds : Adds (λ r. Memᴰ r rs) t u
  pub held : (r : Record) → Memᴰ r rs → look_up u r.at ≡ Some r
  pub count : length (records_of u) ≡ length (records_of t) + length rs

-- that, where no line was at fault
abbrev pub ReadAs : List ℕ → ℕ → Option Record → List ℕ → Lines → Type 0
ReadAs f p q t (Read rs u) = From f p q t rs u
ReadAs f p q t (Fault number line) = Unit

-- no line is met at the end of the file only
end_line : (f : List ℕ) (p : ℕ) → line_at f p ≡ End → length f ≤ p
end_line f p e = go (dec_lt p (length f))
  where
    not-bad : {A : Type 0} → line_at f p ≡ Bad → A
    not-bad h = absurd (let z : ◌≡◌ {A = ℕ} 0 1 = cc in omega arith)

    not_good : (r : Record) (q : ℕ) → line_at f p ≡ Good r q → ⊥
    not_good r q h = let z : ◌≡◌ {A = ℕ} 0 1 = cc in omega arith

    go : Dec (p < length f) → length f ≤ p
    go (no h) = omega arith
    go (yes h) = not-bad (line-bad f p h (λ r q v s. not_good r q (line_write f p q r v s)))

from_end : (f : List ℕ) (p : ℕ) (q : Option Record) (t : List ℕ) → InOrder t → length f ≤ p → From f p q t [] t
unfolding lines
from_end f p q t o h =
    record {
      text = drop_of_length-le f h;
      rises = tt;
      valid = λ r m. absurd (Memᴰ.not-nil m);
      later = λ r m. absurd (Memᴰ.not-nil m);
      adds = adds_none (λ r. Memᴰ r []) t o;
      held = λ r m. absurd (Memᴰ.not-nil m);
      count = omega arith;
    }

-- ---- one line more: r stands at p, above line q, and a slot is there
module _ (t : List ℕ) (o : InOrder t) (q : Option Record) (low : Below t q) (r : Record) (ok : valid_of r ≡ true) (high : bound q ≤ order_of r.at) where
  pub line-absent : look_up t r.at ≡ None
  line-absent = go (look_up t r.at) refl
    where
      go : (l : Option Record) → look_up t r.at ≡ l → look_up t r.at ≡ None
      go None e = e
      go (Some x) e = absurd (let l = low r.at x e in let k : order_of x.at ≡ order_of r.at = ap order_of (lookup-point t o r.at x e) in omega arith)

  pub line-room : no_slot (find_of t r.at) ≡ false → 0 < free_slots t
  line-room h = go (searched t o.fits r.at)
    where
      go : Searched t r.at → 0 < free_slots t
      go (there i x e l s a k) = held-absent k line-absent
      go (room i e l s a k) = k
      go (full e a k) = absurd (not-both (ap no_slot e) h)

  pub room-line : 0 < free_slots t → no_slot (find_of t r.at) ≡ false
  room-line h = ap no_slot (find-free t o.fits r.at line-absent h).1

  module _ (free : 0 < free_slots t) where
    pub line-adds : (P : Record → Type 0) → P r → Adds P t (enter_of t r)
    line-adds P h = adds_one P t r o ok line-absent free h

    pub line-below : Below (enter_of t r) (Some r)
    line-below p x h = go ((line-adds (λ y. y ≡ r) refl).only p x h)
      where
        go : (look_up t p ≡ Some x) ⊎ (x ≡ r) → order_of x.at < suc (order_of r.at)
        go (inl k) = let l = low p x k in omega arith
        go (inr k) = let l : order_of x.at ≡ order_of r.at = ap (λ (y : Record). order_of y.at) k in omega arith

    -- the records behind it, with it
    line-from : (f : List ℕ) (p next : ℕ) (rs : List Record) (u : List ℕ) → line_at f p ≡ Good r next → From f next (Some r) (enter_of t r) rs u
        → From f p q t (r ∷ rs) u
    unfolding lines
    line-from f p next rs u e w =
        let s = (line_read_lem f p next r e).1 in
        let c = enter-records t o r ok line-absent free in
        let d = w.count in
        record {
          text = s.here ∙ ap (λ (l : List ℕ). line_of r ++ l) w.text;
          rises = (λ x m. order-before r x ok (w.valid x m) (w.later x m), w.rises);
          valid = λ x m. sound x (Memᴰ.cases_cons m);
          later = λ x m. late x (Memᴰ.cases_cons m);
          adds =
              adds_then (λ x. Memᴰ x (r ∷ rs)) t (enter_of t r) u (line-adds (λ x. Memᴰ x (r ∷ rs)) (Memᴰ.head refl))
              (adds-as (λ x. Memᴰ x rs) (λ x. Memᴰ x (r ∷ rs)) (enter_of t r) u (λ x m. Memᴰ.tail m) w.adds);
          held = λ x m. stays x (Memᴰ.cases_cons m);
          count = omega arith;
        }
      where
        sound : (x : Record) → (x ≡ r) ⊎ Memᴰ x rs → valid_of x ≡ true
        sound x (inl h) = ap valid_of h ∙ ok
        sound x (inr m) = w.valid x m

        late : (x : Record) → (x ≡ r) ⊎ Memᴰ x rs → bound q ≤ order_of x.at
        late x (inl h) = subst (λ (y : Record). bound q ≤ order_of y.at) (sym h) high
        late x (inr m) = let l = w.later x m in omega arith

        stays : (x : Record) → (x ≡ r) ⊎ Memᴰ x rs → look_up u x.at ≡ Some x
        stays x (inl h) = subst (λ (y : Record). look_up u y.at ≡ Some y) (sym h) (w.adds.keeps r.at r (enter-finds t o r ok line-absent free))
        stays x (inr m) = w.held x m

-- ---- what was read

pub lines-told : (f : List ℕ) (left p i : ℕ) (q : Option Record) (t : List ℕ) → InOrder t → Sound q → Below t q → length f ≤ p + left
    → ReadAs f p q t (lines_from f left p i q t)
unfolding lines_from
lines-told f zero p i q t o s low h = from_end f p q t o (omega arith)
lines-told f (suc left) p i q t o s low h = go (line_at f p) refl (λ r next. lines-told f left next (i + 1) (Some r) (enter_of t r))
  where
    with_it : (r : Record) (next : ℕ) (ok : valid_of r ≡ true) (high : bound q ≤ order_of r.at) (free : 0 < free_slots t) → line_at f p ≡ Good r next
        → (x : Lines) → ReadAs f next (Some r) (enter_of t r) x → ReadAs f p q t (after r x)
    with_it r next ok high free e (Fault number line) w = tt
    with_it r next ok high free e (Read rs u) w = line-from t o q low r ok high free f p next rs u e w

    judge : (r : Record) (next : ℕ) → line_at f p ≡ Good r next
        → (InOrder (enter_of t r) → Sound (Some r) → Below (enter_of t r) (Some r) → length f ≤ next + left
        → ReadAs f next (Some r) (enter_of t r) (lines_from f left next (i + 1) (Some r) (enter_of t r)))
        → (a b : Bool) → above q r ≡ a → no_slot (find_of t r.at) ≡ b
        → ReadAs f p q t (cond a (cond b (Fault 8 i) (after r (lines_from f left next (i + 1) (Some r) (enter_of t r)))) (Fault 10 i))
    judge r next e ih false b x y = tt
    judge r next e ih true true x y = tt
    judge r next e ih true false x y =
        let ok = (line_read_lem f p next r e).0 in
        let high = above-bound q r s ok x in
        let free = line-room t o q low r ok high y in
        let l = line-next f p next r e in
        with_it r next ok high free e (lines_from f left next (i + 1) (Some r) (enter_of t r))
        (ih (line-adds t o q low r ok high free (λ z. Unit) tt).order ok (line-below t o q low r ok high free) (omega arith))

    go : (l : Line) → line_at f p ≡ l
        → ((r : Record) (next : ℕ) → InOrder (enter_of t r) → Sound (Some r) → Below (enter_of t r) (Some r) → length f ≤ next + left
        → ReadAs f next (Some r) (enter_of t r) (lines_from f left next (i + 1) (Some r) (enter_of t r)))
        → ReadAs f p q t (line_read i q t (λ r next. lines_from f left next (i + 1) (Some r) (enter_of t r)) l)
    go End e ih = from_end f p q t o (end_line f p e)
    go Bad e ih = tt
    go (Good r next) e ih = judge r next e (ih r next) (above q r) (no_slot (find_of t r.at)) refl refl

-- ---- what is read

-- a line above the one before, with a slot for it
pub lines-good : (f : List ℕ) (left p i : ℕ) (q : Option Record) (t : List ℕ) (r : Record) (next : ℕ) → line_at f p ≡ Good r next → above q r ≡ true
    → no_slot (find_of t r.at) ≡ false
    → lines_from f (suc left) p i q t ≡ after r (lines_from f left next (i + 1) (Some r) (enter_of t r))
unfolding lines_from
lines-good f left p i q t r next e a b =
    let rest = lines_from f left next (i + 1) (Some r) (enter_of t r) in
    ap (line_read i q t (λ r next. lines_from f left next (i + 1) (Some r) (enter_of t r))) e
    ∙ (λ j. cond (a j) (cond (b j) (Fault 8 i) (after r rest)) (Fault 10 i))

pub from-lines : (f : List ℕ) (left p i : ℕ) (q : Option Record) (t : List ℕ) (rs : List Record) → InOrder t → Sound q → Below t q → Rising Before rs → Valid rs
    → ((r : Record) → Memᴰ r rs → bound q ≤ order_of r.at) → length rs ≤ free_slots t → Stands f p (lines rs) (length f) → length f ≤ p + left
    → (u : List ℕ) × (lines_from f left p i q t ≡ Read rs u)
unfolding lines_from lines
from-lines f zero p i q t [] o s low rise ok late free st h = (t, refl)
from-lines f zero p i q t (r ∷ rs) o s low rise ok late free st h = absurd (omega (arith, st.past, lines-least (r ∷ rs)))
from-lines f (suc left) p i q t [] o s low rise ok late free st h =
    (t, ap (line_read i q t (λ r next. lines_from f left next (i + 1) (Some r) (enter_of t r))) (line-end f p (omega (arith, st.past))))
from-lines f (suc left) p i q t (r ∷ rs) o s low rise ok late free st h =
    let valid = ok r (Memᴰ.head refl) in
    let high = late r (Memᴰ.head refl) in
    let some-free : 0 < free_slots t = omega arith in
    let absent = line-absent t o q low r valid high in
    let e = lines_next f p (length f) r rs valid st in
    let next = p + length (line_of r) in
    let less = enter-free t o r valid absent some-free in
    let on = line-next f p next r e.0 in
    let w =
    from-lines f left next (i + 1) (Some r) (enter_of t r) rs (line-adds t o q low r valid high some-free (λ z. Unit) tt).order valid
    (line-below t o q low r valid high some-free) rise.1
    (λ x m. ok x (Memᴰ.tail m))
    (λ x m. before-order r x valid (ok x (Memᴰ.tail m)) (rise.0 x m))
    (omega arith)
    e.1
    (omega (arith, on)) in
    (w.0, lines-good f left p i q t r next e.0 (bound-above q r s valid high) (room-line t o q low r valid high some-free) ∙ ap (after r) w.1)

-- ---- a whole file, into a cleared table of n slots

-- f is the lines of records rs, "Lines rise strictly", and table u holds exactly those
pub record Lined (f : List ℕ) (n : ℕ) (rs : List Record) (u : List ℕ) : Type 0 where
  pub text : f ≡ lines rs
  pub rises : Rising Before rs
  pub valid : Valid rs
  pub order : InOrder u
  pub slots : slots_of u ≡ n
  pub held : (r : Record) → Memᴰ r rs → look_up u r.at ≡ Some r
  pub only : (p : Point) (r : Record) → look_up u p ≡ Some r → Memᴰ r rs
  -- as many records as lines
  pub count : length (records_of u) ≡ length rs

module _ (t : List ℕ) (n : ℕ) (w : Table t n) where
  fits : Table t (slots_of t)
  fits = table_of t n w

  nothing : Below (cleared_of t) None
  nothing p r h = held-absent h (clear-absent t fits p)

  no-records : length (records_of (cleared_of t)) ≡ 0
  no-records =
      let c = records-count (cleared_of t) in
      let d = clear-free t fits in
      let e : slots_of (cleared_of t) ≡ slots_of t = ap slots_in (clear-length t) in
      omega arith

  -- what a file that was read is
  pub read-lines : (f : List ℕ) (rs : List Record) (u : List ℕ) → read_lines f (cleared_of t) ≡ Read rs u → Lined f n rs u
  read-lines f rs u e =
      let x : From f 0 None (cleared_of t) rs u = subst (ReadAs f 0 None (cleared_of t)) e
      (lines-told f (length f) 0 1 None (cleared_of t) (clear-order t fits) tt nothing (omega arith)) in
      record {
        text = x.text;
        rises = x.rises;
        valid = x.valid;
        order = x.adds.order;
        slots = adds-slots (λ r. Memᴰ r rs) (cleared_of t) u x.adds ∙ ap slots_in (clear-length t) ∙ table-slots t n w;
        held = x.held;
        only = λ p r h. new p r (x.adds.only p r h);
        count = omega (arith, x.count, no-records);
      }
    where
      new : (p : Point) (r : Record) → (look_up (cleared_of t) p ≡ Some r) ⊎ Memᴰ r rs → Memᴰ r rs
      new p r (inl h) = held-absent h (clear-absent t fits p)
      new p r (inr m) = m

  -- valid records that rise, no more of them than slots, are read from their lines
  pub lines-read : (rs : List Record) → Rising Before rs → Valid rs → length rs ≤ n → (u : List ℕ) × (read_lines (lines rs) (cleared_of t) ≡ Read rs u)
  lines-read rs rise ok h =
      from-lines (lines rs) (length (lines rs)) 0 1 None (cleared_of t) rs (clear-order t fits) tt nothing rise ok (λ r m. omega arith)
      (let c = clear-free t fits in let d = table-slots t n w in omega arith)
      (subst (Stands (lines rs) 0 (lines rs)) (zero-add (length (lines rs))) (stands_at (lines rs) (lines rs) [] 0 (sym (append-nil (lines rs)))))
      (omega arith)

-- valid records are told by their lines
pub lines-one : (rs qs : List Record) → Valid rs → Valid qs → lines rs ≡ lines qs → rs ≡ qs
unfolding lines
lines-one [] [] v w e = refl
lines-one [] (q ∷ qs) v w e = absurd (omega (arith, ap length e, lines-least (q ∷ qs)))
lines-one (r ∷ rs) [] v w e = absurd (omega (arith, ap length e, lines-least (r ∷ rs)))
lines-one (r ∷ rs) (q ∷ qs) v w e =
    let (x, y) = line-prefix r q (lines rs) (lines qs) (v r (Memᴰ.head refl)) (w q (Memᴰ.head refl)) e in
    let z = lines-one rs qs (λ s m. v s (Memᴰ.tail m)) (λ s m. w s (Memᴰ.tail m)) y in
    λ i. x i ∷ z i
