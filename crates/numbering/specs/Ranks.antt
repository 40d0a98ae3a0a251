-- The numbers of vertices by orders: `below_of` how many records have a lower order, `number-below` which is a vertex's number · `Cut` the order from which on
-- vertices have at least so many earlier ones, `cut-made` by halving · `Cuts` where numbers become longer, `cuts-width` how long one is · `Stand` the
-- vertices' keys stand sorted, `Searched` one looked for, `searched-at` and guessed, `stand-number` a number by them ·
-- `held-close`, `held_number` a vertex of the table.
-- Assumes nothing.
use Rattle.std.specs.Prelude.{◌≡◌, refl, Bool, true, false, ℕ, zero, suc, ◌+◌, ◌*◌, ◌-◌, ◌≤◌, ◌<◌, ltb, leb, length, Option, Some, None}
use Rattle.std.proofs.Common.{sym, ap, ◌∙◌, subst, arith, ltb-true, ltb-false, lt-ltb, le-ltb, le-leb}
use mathlib.Core.List.{List, [], ◌∷◌, Memᴰ}
use Rattle.std.proofs.Math.Decide.{dec_lt}
use Rattle.std.proofs.lemmas.Bool.{lt-leb}
use Rattle.laws.specs.Each.{never}
use Rattle.lattice.specs.declared.points.Point.{Point}
use Rattle.lattice.specs.declared.records.Record.{Record}
use Rattle.table.specs.Slots.{slots_of, slot_at}
use Rattle.table.specs.Order.{InOrder}
use Rattle.table.specs.Entries.{look_up, is_held, holds, listed, records_below, records_of}
use Rattle.table.specs.MapLaws.{records-none, records-more, records-looked, looked-records, records-count, lookup-valid, lookup-point}
use Rattle.firsts.specs.Faces.{bit}
use Rattle.text.specs.Decimal.{digits}
use Rattle.text.specs.DecimalLaws.{digits-some, width_above, width-below}
use Rattle.text.specs.LineOrder.{orders, order_of, Close, close, earlier, order-earlier}
use Rattle.sorting.specs.Sorting.{sort_by, key_width, key_in}
use Rattle.sorting.specs.SortLaws.{Rising, Decides, sort-rising, rising-at}
use Rattle.sorting.specs.Tally.{nth}
use Rattle.writers.specs.Kept.{places}
use Rattle.numbering.specs.Numbering.{how_many, number_of}
use Rattle.numbering.specs.Keyed.{key_of, keyed, keys_below}
use Rattle.numbering.specs.Counting.{many-append, many-same, many_more, many-fewer, many-sort, many-rank}
use Rattle.numbering.specs.declared.numbers.Widths.{Widths}

-- a record's order is below x
abbrev pub lower : ℕ → Record → Bool
lower x r = ltb (order_of r.at) x

unfoldable pub below_of : List ℕ → ℕ → ℕ
below_of t x = how_many (lower x) (records_of t)

-- 1 where slot i holds such a record
abbrev pub slot_below : ℕ → Option Record → ℕ
slot_below x None = 0
slot_below x (Some r) = bit (lower x r)

unfoldable pub below_at : List ℕ → ℕ → ℕ → ℕ
below_at t x i = slot_below x (slot_at t i)

-- ---- slot by slot

pub below_none : (t : List ℕ) (x : ℕ) → how_many (lower x) (records_below t 0) ≡ 0
unfolding how_many
below_none t x = ap (how_many (lower x)) (records-none t)

pub below_more : (t : List ℕ) (x i : ℕ) → how_many (lower x) (records_below t (i + 1)) ≡ how_many (lower x) (records_below t i) + below_at t x i
unfolding how_many below_at
below_more t x i =
    ap (how_many (lower x)) (records-more t i) ∙ many-append (lower x) (records_below t i) (listed (slot_at t i))
    ∙ ap (λ (k : ℕ). how_many (lower x) (records_below t i) + k) (one (slot_at t i))
  where
    one : (s : Option Record) → how_many (lower x) (listed s) ≡ slot_below x s
    one None = refl
    one (Some r) = omega arith

-- ---- a vertex's number

module _ (t : List ℕ) (o : InOrder t) where
  record-close : (r : Record) → Memᴰ r (records_of t) → Close r.at
  record-close r m = close r (lookup-valid t o r.at r (records-looked t o r m))

  pub number-below : (p : Point) → Close p → number_of t p ≡ below_of t (order_of p)
  unfolding below_of
  number-below p c =
      many-same (λ r. earlier r.at p) (lower (order_of p)) (records_of t) (λ r m. order-earlier r.at p (record-close r m) c)

  -- a vertex of the table
  found : (p : Point) → holds t p ≡ true → (r : Record) × (look_up t p ≡ Some r)
  found p h = go (look_up t p) refl h
    where
      go : (l : Option Record) → look_up t p ≡ l → is_held l ≡ true → (r : Record) × (look_up t p ≡ Some r)
      go None e k = absurd (never k)
      go (Some r) e k = (r, e)

  pub held-close : (p : Point) → holds t p ≡ true → Close p
  held-close p h =
      let f = found p h in
      subst Close (lookup-point t o p f.0 f.1) (close f.0 (lookup-valid t o p f.0 f.1))

  -- its number is below that of the vertices, of which there are at most 65,536
  pub held_number : (p : Point) → holds t p ≡ true → number_of t p < places
  held_number p h =
      let f = found p h in
      let c = held-close p h in
      let e : earlier f.0.at p ≡ false = ap (λ (q : Point). earlier q p) (lookup-point t o p f.0 f.1) ∙ order-earlier p p c c
      ∙ le-ltb (order_of p) (order_of p) (omega arith) in
      let a = many-fewer (λ r. earlier r.at p) (records_of t) f.0 (looked-records t o p f.0 f.1) e in
      omega (arith, records-count t, o.fits.most)

pub below-mono : (t : List ℕ) (x y : ℕ) → x ≤ y → below_of t x ≤ below_of t y
unfolding below_of
below-mono t x y h =
    many_more (lower x) (lower y) (records_of t) (λ r e. let l = ltb-true (order_of r.at) x e in lt-ltb (order_of r.at) y (omega arith))

none-lower : (rs : List Record) → how_many (lower 0) rs ≡ 0
unfolding how_many
none-lower [] = refl
none-lower (r ∷ rs) = let a = none-lower rs in let b : bit (lower 0 r) ≡ 0 = ap bit (le-ltb (order_of r.at) 0 (omega arith)) in omega arith

pub below-nothing : (t : List ℕ) → below_of t 0 ≡ 0
unfolding below_of
below-nothing t = none-lower (records_of t)

-- ---- the order from which on vertices have at least `rank` earlier ones

abbrev pub Cut : List ℕ → ℕ → ℕ → Type 0
Cut t rank x = (y : ℕ) → y < orders → leb x y ≡ leb rank (below_of t y)

pub cut-made : (t : List ℕ) (rank low high : ℕ) → below_of t low < rank → (high < orders → rank ≤ below_of t high) → high ≡ low + 1 → Cut t rank high
cut-made t rank low high a b e y h = go (dec_lt y high)
  where
    go : Dec (y < high) → leb high y ≡ leb rank (below_of t y)
    go (yes l) = let m = below-mono t y low (omega arith) in lt-leb high y l ∙ sym (lt-leb rank (below_of t y) (omega arith))
    go (no l) =
        let m = below-mono t high y (omega arith) in
        let k = b (omega arith) in
        le-leb high y (omega arith) ∙ sym (le-leb rank (below_of t y) (omega arith))

-- where the numbers, of which the first is `first`, have two digits, three, four and five
pub record Cuts (t : List ℕ) (first : ℕ) (w : Widths) : Type 0 where
  pub two : Cut t (10 - first) w.two
  pub three : Cut t (100 - first) w.three
  pub four : Cut t (1000 - first) w.four
  pub five : Cut t (10000 - first) w.five

-- ---- how long a number is

pub width_is : (x : ℕ) → x < 100000 → length (digits x) ≡ 1 + bit (leb 10 x) + bit (leb 100 x) + bit (leb 1000 x) + bit (leb 10000 x)
width_is x h = go (dec_lt x 10) (dec_lt x 100) (dec_lt x 1000) (dec_lt x 10000)
  where
    yes1 : (k : ℕ) → k ≤ x → bit (leb k x) ≡ 1
    yes1 k l = ap bit (le-leb k x l)

    no0 : (k : ℕ) → x < k → bit (leb k x) ≡ 0
    no0 k l = ap bit (lt-leb k x l)

    go : Dec (x < 10) → Dec (x < 100) → Dec (x < 1000) → Dec (x < 10000)
        → length (digits x) ≡ 1 + bit (leb 10 x) + bit (leb 100 x) + bit (leb 1000 x) + bit (leb 10000 x)
    go (yes a) b c d =
        omega (arith, width-below 1 x (omega arith) a, digits-some x, no0 10 a, no0 100 (omega arith), no0 1000 (omega arith), no0 10000 (omega arith))
    go (no a) (yes b) c d =
        omega (
          arith,
          width-below 2 x (omega arith) b,
          width_above 1 x (omega arith),
          yes1 10 (omega arith),
          no0 100 b,
          no0 1000 (omega arith),
          no0 10000 (omega arith),
        )
    go (no a) (no b) (yes c) d =
        omega (
          arith,
          width-below 3 x (omega arith) c,
          width_above 2 x (omega arith),
          yes1 10 (omega arith),
          yes1 100 (omega arith),
          no0 1000 c,
          no0 10000 (omega arith),
        )
    go (no a) (no b) (no c) (yes d) =
        omega (
          arith,
          width-below 4 x (omega arith) d,
          width_above 3 x (omega arith),
          yes1 10 (omega arith),
          yes1 100 (omega arith),
          yes1 1000 (omega arith),
          no0 10000 d,
        )
    go (no a) (no b) (no c) (no d) =
        omega (
          arith,
          width-below 5 x (omega arith) h,
          width_above 4 x (omega arith),
          yes1 10 (omega arith),
          yes1 100 (omega arith),
          yes1 1000 (omega arith),
          yes1 10000 (omega arith),
        )

-- a number with the first one added reaches k
reach : (k first n : ℕ) → first ≤ 1 → 2 ≤ k → leb (k - first) n ≡ leb k (first + n)
reach k first n h l = go (dec_lt n (k - first))
  where
    go : Dec (n < k - first) → leb (k - first) n ≡ leb k (first + n)
    go (yes m) = lt-leb (k - first) n m ∙ sym (lt-leb k (first + n) (omega arith))
    go (no m) = le-leb (k - first) n (omega arith) ∙ sym (le-leb k (first + n) (omega arith))

module _ (t : List ℕ) (o : InOrder t) (first : ℕ) (w : Widths) (c : Cuts t first w) (one : first ≤ 1) (p : Point) (k : Close p) (few : number_of t p < places)
    (inside : order_of p < orders) where
  reaches : (x rank : ℕ) → 2 ≤ rank → Cut t (rank - first) x → bit (leb x (order_of p)) ≡ bit (leb rank (first + number_of t p))
  reaches x rank h u =
      ap bit (u (order_of p) inside ∙ ap (leb (rank - first)) (sym (number-below t o p k)) ∙ reach rank first (number_of t p) one h)

  pub cuts-width : 1 + bit (leb w.two (order_of p)) + bit (leb w.three (order_of p)) + bit (leb w.four (order_of p)) + bit (leb w.five (order_of p))
      ≡ length (digits (first + number_of t p))
  cuts-width =
      let a = reaches w.two 10 (omega arith) c.two in
      let b = reaches w.three 100 (omega arith) c.three in
      let d = reaches w.four 1000 (omega arith) c.four in
      let e = reaches w.five 10000 (omega arith) c.five in
      let z = width_is (first + number_of t p) (omega arith) in
      omega arith

-- ---- by the sorted keys

-- the keys of the vertices, and these in their order
abbrev pub keys_of : List ℕ → List ℕ
keys_of t = keys_below (slot_at t) (slots_of t)

abbrev pub ordered : List ℕ → List ℕ
ordered t = sort_by ltb (keys_of t)

-- they stand sorted at the beginning of o
pub record Stand (t o : List ℕ) (k : ℕ) : Type 0 where
  pub count : k ≡ length (ordered t)
  pub keys : (i : ℕ) → i < k → key_in o i ≡ nth (ordered t) i
  pub room : key_width * k ≤ length o

abbrev AtMost : ℕ → ℕ → Type 0
AtMost x y = x ≤ y

decided : (vs : List ℕ) → Rising (Decides ltb AtMost) vs
decided [] = tt
decided (v ∷ vs) = (λ w m. (λ e. let l = ltb-true v w e in omega arith, λ e. ltb-false v w e), decided vs)

pub ordered-rises : (t : List ℕ) (i j : ℕ) → i < j → j < length (ordered t) → nth (ordered t) i ≤ nth (ordered t) j
ordered-rises t i j h l = rising-at AtMost 0 (ordered t) i j (sort-rising ltb AtMost (λ x y z p q. omega arith) (keys_of t) (decided (keys_of t))) h l

-- a search by halving for the first key of an order: the keys before `low` are below it, those from `high` on are not
pub record Searched (t : List ℕ) (x low high : ℕ) : Type 0 where
  pub below : (i : ℕ) → i < low → nth (ordered t) i < x
  pub above : (i : ℕ) → high ≤ i → i < length (ordered t) → x ≤ nth (ordered t) i

module _ (t : List ℕ) (x low high middle : ℕ) (w : Searched t x low high) (inside : middle < length (ordered t)) where
  pub searched-low : nth (ordered t) middle < x → Searched t x (middle + 1) high
  searched-low h = record { below = λ i l. go i l (dec_lt i middle); above = w.above }
    where
      go : (i : ℕ) → i < middle + 1 → Dec (i < middle) → nth (ordered t) i < x
      go i l (yes m) = let r = ordered-rises t i middle m inside in omega arith
      go i l (no m) = let e : i ≡ middle = omega arith in subst (λ (j : ℕ). nth (ordered t) j < x) (sym e) h

  pub searched-high : x ≤ nth (ordered t) middle → Searched t x low middle
  searched-high h = record { below = w.below; above = λ i l m. go i l m (dec_lt middle i) }
    where
      go : (i : ℕ) → middle ≤ i → i < length (ordered t) → Dec (middle < i) → x ≤ nth (ordered t) i
      go i l m (yes n) = let r = ordered-rises t middle i n m in omega arith
      go i l m (no n) = let e : i ≡ middle = omega arith in subst (λ (j : ℕ). x ≤ nth (ordered t) j) (sym e) h

-- found without halving
pub searched-at : (t : List ℕ) (x g : ℕ) → g < length (ordered t) → x ≤ nth (ordered t) g → (0 < g → nth (ordered t) (g - 1) < x) → Searched t x g g
searched-at t x g inside high low = record { below = λ i l. under i l (dec_lt i (g - 1)); above = λ i l m. over i l m (dec_lt g i) }
  where
    under : (i : ℕ) → i < g → Dec (i < g - 1) → nth (ordered t) i < x
    under i l (yes m) = let r = ordered-rises t i (g - 1) m (omega arith) in let h = low (omega arith) in omega arith
    under i l (no m) = let e : i ≡ g - 1 = omega arith in subst (λ (j : ℕ). nth (ordered t) j < x) (sym e) (low (omega arith))

    over : (i : ℕ) → g ≤ i → i < length (ordered t) → Dec (g < i) → x ≤ nth (ordered t) i
    over i l m (yes n) = let r = ordered-rises t g i n m in omega arith
    over i l m (no n) = let e : i ≡ g = omega arith in subst (λ (j : ℕ). x ≤ nth (ordered t) j) (sym e) high

key-lower : (r : Record) (x k : ℕ) → k < places → ltb (key_of r k) (x * places) ≡ ltb (order_of r.at) x
unfolding key_of
key-lower r x k h = go (dec_lt (order_of r.at) x)
  where
    go : Dec (order_of r.at < x) → ltb (order_of r.at * places + k) (x * places) ≡ ltb (order_of r.at) x
    go (yes l) = lt-ltb (order_of r.at * places + k) (x * places) (omega arith) ∙ sym (lt-ltb (order_of r.at) x l)
    go (no l) = le-ltb (order_of r.at * places + k) (x * places) (omega arith) ∙ sym (le-ltb (order_of r.at) x (omega arith))

-- as many keys are below an order's first key as records are below the order
keys_below_lem : (t : List ℕ) (x k : ℕ) → k ≤ places → how_many (λ v. ltb v (x * places)) (keys_below (slot_at t) k) ≡ how_many (lower x) (records_below t k)
unfolding how_many keys_below records_below
keys_below_lem t x zero h = refl
keys_below_lem t x (suc k) h =
    let a = many-append (λ v. ltb v (x * places)) (keys_below (slot_at t) k) (keyed k (slot_at t k)) in
    let b = many-append (lower x) (records_below t k) (listed (slot_at t k)) in
    let c = keys_below_lem t x k (omega arith) in
    let d = one (slot_at t k) in
    omega arith
  where
    one : (s : Option Record) → how_many (λ v. ltb v (x * places)) (keyed k s) ≡ how_many (lower x) (listed s)
    one None = refl
    one (Some r) = ap (λ (b : Bool). bit b + 0) (key-lower r x k (omega arith))

pub stand-number : (t : List ℕ) → InOrder t → (p : Point) → Close p → (j : ℕ) → j ≤ length (ordered t)
    → ((i : ℕ) → i < j → nth (ordered t) i < order_of p * places) → ((i : ℕ) → j ≤ i → i < length (ordered t) → order_of p * places ≤ nth (ordered t) i)
    → j ≡ number_of t p
unfolding below_of
stand-number t o p c j h low high =
    sym (many-rank (order_of p * places) (ordered t) j h low high)
    ∙ many-sort (λ v. ltb v (order_of p * places)) ltb (keys_of t)
    ∙ keys_below_lem t (order_of p) (slots_of t) o.fits.most
    ∙ sym (number-below t o p c)
