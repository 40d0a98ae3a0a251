-- Number 20. `same-record`, `record_same` · `Agree` records of one point are one: `agree-none`, `none-agree` that is where nothing clashes · `pair-clashes` two
-- that do · `Holding` a table holds exactly the records of a list: `holding-agree` · `ahead-clashes` records that go together with what is held, and lines
-- behind them.
-- Assumes nothing.
use Rattle.std.specs.Prelude.{◌≡◌, refl, ◌⊎◌, Bool, true, false, ◌&&◌, not, ℕ, eqb, Option, Some, None}
use Rattle.std.proofs.Common.{sym, ap, ◌∙◌, inl, inr, eqb-true, eq-eqb}
use mathlib.Core.List.{List, ◌++◌, Memᴰ}
use mathlib.Core.List.Memᴰ
use Rattle.laws.specs.Each.{both_left, both_right, not-both, same_test}
use Rattle.laws.specs.Some.{some_of, some_at, at_some, none-at}
use Rattle.lattice.specs.declared.points.Point.{Point}
use Rattle.lattice.specs.declared.records.Record.{Record}
use Rattle.table.specs.Search.{same_point}
use Rattle.table.specs.Order.{InOrder}
use Rattle.table.specs.Entries.{look_up}
use Rattle.table.specs.MapLaws.{same_refl, same_true, lookup-point}
use Rattle.text.specs.Line.{rec}
use Rattle.readers.specs.Additions.{held_same}
use Rattle.salvage_lines.specs.OldLines.{same_record, clash, clashes}

-- ---- two records are the same

pub same-record : (r : Record) → same_record r r ≡ true
unfolding same_record
same-record r = rw (same_refl r.at, eq-eqb r.d r.d refl, eq-eqb r.k r.k refl, eq-eqb r.n.0 r.n.0 refl)

pub record_same : (r q : Record) → same_record r q ≡ true → r ≡ q
unfolding same_record
record_same r q h =
    let star = eqb r.k q.k && eqb r.n.0 q.n.0 in
    let h₁ = both_right (same_point r.at q.at) (eqb r.d q.d && star) h in
    let h₂ = both_right (eqb r.d q.d) star h₁ in
    let p = same_true r.at q.at (both_left (same_point r.at q.at) (eqb r.d q.d && star) h) in
    let d = eqb-true r.d q.d (both_left (eqb r.d q.d) star h₁) in
    let k = eqb-true r.k q.k (both_left (eqb r.k q.k) (eqb r.n.0 q.n.0) h₂) in
    let n = eqb-true r.n.0 q.n.0 (both_right (eqb r.k q.k) (eqb r.n.0 q.n.0) h₂) in
    λ i. rec (p i) (d i) (k i) (n i)

pub other-record : (r q : Record) → same_record r q ≡ false → r ≡ q → ⊥
other-record r q h e = not-both (sym (ap (same_record r) e) ∙ same-record r) h

-- ---- one point, one record

-- records of one point are one
abbrev pub Agree : List Record → Type 0
Agree rs = (r q : Record) → Memᴰ r rs → Memᴰ q rs → r.at ≡ q.at → r ≡ q

clash-pair : (r q : Record) → r.at ≡ q.at → (r ≡ q → ⊥) → clash r q ≡ true
clash-pair r q e n = go (same_record r q) refl
  where
    go : (b : Bool) → same_record r q ≡ b → clash r q ≡ true
    go true h = absurd (n (record_same r q h))
    go false h = λ i. (sym (ap (same_point r.at) e) ∙ same_refl r.at) i && not (h i)

pair-clash : (r q : Record) → clash r q ≡ true → (r.at ≡ q.at) × (r ≡ q → ⊥)
pair-clash r q h = (
  same_true r.at q.at (both_left (same_point r.at q.at) (not (same_record r q)) h),
  λ e. not-both (both_right (same_point r.at q.at) (not (same_record r q)) h) (ap not (sym (ap (same_record r) e) ∙ same-record r)),
)

pub pair-clashes : (rs : List Record) (r q : Record) → Memᴰ r rs → Memᴰ q rs → r.at ≡ q.at → (r ≡ q → ⊥) → clashes rs ≡ true
unfolding clashes
pair-clashes rs r q m n e d = at_some (λ x. some_of (clash x) rs) rs r m (at_some (clash r) rs q n (clash-pair r q e d))

-- two that clash
pub record Pair (rs : List Record) : Type 0 where
  pub one : Record
  pub other : Record
  pub one_in : Memᴰ one rs
  pub other-in : Memᴰ other rs
  pub point : one.at ≡ other.at
  pub differ : one ≡ other → ⊥

pub clashes-pair : (rs : List Record) → clashes rs ≡ true → Pair rs
unfolding clashes
clashes-pair rs h =
    let (x, m, t) = some_at (λ x. some_of (clash x) rs) rs h in
    let (y, n, u) = some_at (clash x) rs t in
    let w = pair-clash x y u in
    record { one = x; other = y; one_in = m; other-in = n; point = w.0; differ = w.1 }

pub agree-none : (rs : List Record) → Agree rs → clashes rs ≡ false
agree-none rs a = go (clashes rs) refl
  where
    go : (b : Bool) → clashes rs ≡ b → clashes rs ≡ false
    go false e = e
    go true e = let w = clashes-pair rs e in absurd (w.differ (a w.one w.other w.one_in w.other-in w.point))

pub none-agree : (rs : List Record) → clashes rs ≡ false → Agree rs
none-agree rs h r q m n e = go (same_record r q) refl
  where
    go : (b : Bool) → same_record r q ≡ b → r ≡ q
    go true k = record_same r q k
    go false k = absurd (not-both (pair-clashes rs r q m n e (other-record r q k)) h)

-- ---- a table that holds exactly the records of a list

pub record Holding (t : List ℕ) (rs : List Record) : Type 0 where
  pub order : InOrder t
  pub held : (r : Record) → Memᴰ r rs → look_up t r.at ≡ Some r
  pub only : (p : Point) (r : Record) → look_up t p ≡ Some r → Memᴰ r rs

pub holding-agree : (t : List ℕ) (rs : List Record) → Holding t rs → Agree rs
holding-agree t rs h r q m n e = held_same (h.held r m) (ap (look_up t) e ∙ h.held q n)

-- ---- what is held, and the lines behind

-- a record of a table's point that is another than the table's
abbrev pub differs : Option Record → Record → Bool
differs None r = false
differs (Some q) r = not (same_record q r)

abbrev pub against : List ℕ → Record → Bool
against t r = differs (look_up t r.at) r

module _ (t : List ℕ) (xs ys : List Record) (h : Holding t xs) where
  -- one that goes not together with what is held
  pub against-clashes : (r : Record) → Memᴰ r ys → against t r ≡ true → clashes (xs ++ ys) ≡ true
  against-clashes r m e = go (look_up t r.at) refl e
    where
      go : (l : Option Record) → look_up t r.at ≡ l → differs l r ≡ true → clashes (xs ++ ys) ≡ true
      go None k d = absurd (not-both d refl)
      go (Some q) k d =
          let n = h.only r.at q k in
          let at : q.at ≡ r.at = point q n k in
          pair-clashes (xs ++ ys) q r (Memᴰ.append_left ys n) (Memᴰ.append_right xs m) at (λ z. not-both d (ap not (sym (ap (same_record q) z) ∙ same-record q)))
        where
          point : (q : Record) → Memᴰ q xs → look_up t r.at ≡ Some q → q.at ≡ r.at
          point q n k = lookup-point t h.order r.at q k

  -- all of them do: what clashes, clashes behind
  pub ahead-clashes : some_of (against t) ys ≡ false → clashes (xs ++ ys) ≡ clashes ys
  ahead-clashes none = same_test (clashes (xs ++ ys)) (clashes ys) forth back
    where
      with-held : (x y : Record) → Memᴰ x xs → Memᴰ y ys → x.at ≡ y.at → x ≡ y
      with-held x y m n e = go (same_record x y) refl
        where
          looked : look_up t y.at ≡ Some x
          looked = ap (look_up t) (sym e) ∙ h.held x m

          go : (b : Bool) → same_record x y ≡ b → x ≡ y
          go true k = record_same x y k
          go false k = absurd (not-both (ap (λ (l : Option Record). differs l y) looked ∙ ap not k) (none-at (against t) ys y none n))

      back : clashes ys ≡ true → clashes (xs ++ ys) ≡ true
      back e =
          let w = clashes-pair ys e in
          pair-clashes (xs ++ ys) w.one w.other (Memᴰ.append_right xs w.one_in) (Memᴰ.append_right xs w.other-in) w.point w.differ

      forth : clashes (xs ++ ys) ≡ true → clashes ys ≡ true
      forth e =
          let w = clashes-pair (xs ++ ys) e in
          go w.one w.other (Memᴰ.append_cases xs w.one_in) (Memᴰ.append_cases xs w.other-in) w.point w.differ
        where
          go : (x y : Record) → Memᴰ x xs ⊎ Memᴰ x ys → Memᴰ y xs ⊎ Memᴰ y ys → x.at ≡ y.at → (x ≡ y → ⊥) → clashes ys ≡ true
          go x y (inl m) (inl n) at d = absurd (d (holding-agree t xs h x y m n at))
          go x y (inl m) (inr n) at d = absurd (d (with-held x y m n at))
          go x y (inr m) (inl n) at d = absurd (d (sym (with-held y x n m (sym at))))
          go x y (inr m) (inr n) at d = pair-clashes ys x y m n at d
