-- What a base answers and what its table then holds: for the floors above, which need nothing else of this crate but the definitions of Base and Vertices.
-- `BaseEnd`, `base-end` how a base ends · `base-list`, `base-order`, `base-holds`, `base-count` what is so where the number is 0 · `base-accepts`
-- when it is 0 · `centre-base`, `base-centre`, `corner-base`, `base-corner` the points of a base are its centres and their unit neighbours.
-- Assumes nothing.
use Rattle.std.specs.Prelude.{◌≡◌, refl, Bool, true, false, cond, List, ℕ, zero, suc, ◌+◌, ◌%◌, ◌≤◌, ◌<◌, ltb, ℤ, length, Some, None}
use Rattle.std.proofs.Common.{sym, ◌∙◌, ap, subst, arith, ltb-true, ltb-false, lit<, mod-lt}
use Rattle.laws.specs.Each.{not-both, among-at, at-among}
use Rattle.lattice.specs.Points.{class_of}
use Rattle.table.specs.SlotLaws.{table-test, test_table}
use Rattle.table.specs.Search.{same_point}
use Rattle.table.specs.Entries.{look_up, records_of}
use Rattle.table.specs.Order.{InOrder}
use Rattle.table.specs.SearchLaws.{same_refl, same_true}
use Rattle.table.specs.Slots.{Table, fits_length, slots_of, cleared_of}
use Rattle.lattice.specs.declared.points.Point.{Point}
use Rattle.centres.specs.Centres.{GoodList}
use Rattle.centres.specs.MarkLaws.{Good, good-is, listed_at, listed-is, good-list, none_first}
use Rattle.base.specs.Base.{centre_at, centres_in, is_listed, bad_place, corner_of, Laid, Room, NoRoom, laid_of, BaseAfter}
use Rattle.base.specs.Base.{unpaired, base_after, base_of}
use Rattle.base.specs.LayLaws.{corner-within, judged, base-by, laid-is}
use Rattle.base.specs.Vertices.{hexagon_point, in_hexagon, in_first, in_base, base_record, points_in}
use Rattle.base.specs.HoldLaws.{corner-class, corner-back, Holding, all-holds, all_short}

-- ---- how a base ends

pub data BaseEnd (t : List ℕ) (cs : List ℤ) : Type 0 where
  refused : 0 < (base_of t cs).number → (base_of t cs).number ≤ 2 → (Table t (slots_of t) → GoodList cs → ⊥) → BaseEnd t cs
  short : slots_of t < points_in cs (centres_in cs) → base_of t cs ≡ base_after 8 0 (cleared_of t) → BaseEnd t cs
  done : (u : List ℕ) → GoodList cs → Holding (is_listed cs) (slots_of t) u (in_base cs) (points_in cs (centres_in cs))
      → base_of t cs ≡ base_after 0 0 u → BaseEnd t cs

module _ (t : List ℕ) (cs : List ℤ) where
  pub base-end : BaseEnd t cs
  base-end = go (fits_length (length t)) (unpaired cs) (ltb (bad_place cs) (centres_in cs)) (laid_of t cs) refl refl refl refl
    where
      number : (fit odd bad : Bool) (l : Laid) → fits_length (length t) ≡ fit → unpaired cs ≡ odd → ltb (bad_place cs) (centres_in cs) ≡ bad → laid_of t cs ≡ l
          → (judged t cs fit odd bad l).number ≡ (base_of t cs).number
      number fit odd bad l f o b e = ap (λ (x : BaseAfter). x.number) (base-by t cs fit odd bad l f o b e)

      go : (fit odd bad : Bool) (l : Laid) → fits_length (length t) ≡ fit → unpaired cs ≡ odd → ltb (bad_place cs) (centres_in cs) ≡ bad → laid_of t cs ≡ l
          → BaseEnd t cs
      go false odd bad l f o b e =
          let n = number false odd bad l f o b e in
          refused (omega arith) (omega arith) (λ w g. not-both (table-test t (slots_of t) w) f)
      go true true bad l f o b e =
          let n = number true true bad l f o b e in
          refused (omega arith) (omega arith) (λ w g. not-both o g.paired)
      go true false true l f o b e =
          let n = number true false true l f o b e in
          let h = ltb-true (bad_place cs) (centres_in cs) b in
          refused (omega arith) (omega arith) (λ w g. omega (arith, none_first cs g))
      go true false false NoRoom f o b e =
          let g = good-list cs o (ltb-false (bad_place cs) (centres_in cs) b) in
          short (all_short t (test_table t f) cs g.good (centres_in cs) (let l : centres_in cs ≤ centres_in cs = omega arith in l) (laid-is t cs ∙ e))
          (sym (base-by t cs true false false NoRoom f o b e))
      go true false false (Room u) f o b e =
          let g = good-list cs o (ltb-false (bad_place cs) (centres_in cs) b) in
          done u g (all-holds t (test_table t f) cs g.good (centres_in cs) (let l : centres_in cs ≤ centres_in cs = omega arith in l) u (laid-is t cs ∙ e))
          (sym (base-by t cs true false false (Room u) f o b e))

  -- ---- where the number is 0

  module _ (z : (base_of t cs).number ≡ 0) where
    record-done : GoodList cs × Holding (is_listed cs) (slots_of t) (base_of t cs).bytes (in_base cs) (points_in cs (centres_in cs))
    record-done = go base-end
      where
        go : BaseEnd t cs → GoodList cs × Holding (is_listed cs) (slots_of t) (base_of t cs).bytes (in_base cs) (points_in cs (centres_in cs))
        go (refused a b c) = absurd (omega arith)
        go (short a e) = let n : (base_of t cs).number ≡ 8 = ap (λ (x : BaseAfter). x.number) e in absurd (omega arith)
        go (done u g h e) = (
          g,
          subst (λ (x : List ℕ). Holding (is_listed cs) (slots_of t) x (in_base cs) (points_in cs (centres_in cs)))
              (sym (ap (λ (x : BaseAfter). x.bytes) e)) h,
        )

    pub base-list : GoodList cs
    base-list = record-done.0

    -- the table is in order
    pub base-order : InOrder (base_of t cs).bytes
    base-order = record-done.1.order

    -- it holds the vertex of each point of the base, and nothing else
    pub base-holds : (p : Point) → look_up (base_of t cs).bytes p ≡ cond (in_base cs p) (Some (base_record (is_listed cs) p)) None
    base-holds = record-done.1.holds

    -- as many records as the base has points
    pub base-count : length (records_of (base_of t cs).bytes) ≡ points_in cs (centres_in cs)
    base-count = record-done.1.count

  -- a good list is laid into every table of room enough
  pub base-accepts : Table t (slots_of t) → GoodList cs → points_in cs (centres_in cs) ≤ slots_of t → (base_of t cs).number ≡ 0
  base-accepts w g r = go base-end
    where
      go : BaseEnd t cs → (base_of t cs).number ≡ 0
      go (refused a b c) = absurd (c w g)
      go (short a e) = absurd (omega arith)
      go (done u l h e) = ap (λ (x : BaseAfter). x.number) e

-- ---- the points of a base

in-hexagon : (cs : List ℤ) (i k : ℕ) (p : Point) → i < centres_in cs → k < 7 → hexagon_point (centre_at cs i) k ≡ p → in_base cs p ≡ true
unfolding in_first in_hexagon
in-hexagon cs i k p h l e =
    at-among (λ n. in_hexagon (centre_at cs n) 7 p) (centres_in cs) i h
    (at-among (λ j. same_point (hexagon_point (centre_at cs i) j) p) 7 k l
    (ap (same_point (hexagon_point (centre_at cs i) k)) (sym e) ∙ same_refl (hexagon_point (centre_at cs i) k)))

-- the hexagon that a point of the base stands in, and its place there
of-hexagon : (cs : List ℤ) (p : Point) → in_base cs p ≡ true → (i : ℕ) × (i < centres_in cs) × ((k : ℕ) × (k < 7) × (hexagon_point (centre_at cs i) k ≡ p))
unfolding in_first in_hexagon
of-hexagon cs p h =
    let x = among-at (λ n. in_hexagon (centre_at cs n) 7 p) (centres_in cs) h in
    let y = among-at (λ j. same_point (hexagon_point (centre_at cs x.0) j) p) 7 x.2 in
    (x.0, x.1, (y.0, y.1, same_true (hexagon_point (centre_at cs x.0) y.0) p y.2))

module _ (cs : List ℤ) (p : Point) where
  -- a centre of the list
  pub centre-base : is_listed cs p ≡ true → in_base cs p ≡ true
  centre-base h = let x = listed-is cs (centres_in cs) p h in in-hexagon cs x.0 0 p x.1 (lit< tt) x.2

  -- a unit neighbour of one
  pub corner-base : (j : ℕ) → p.m.0 ≡ 0 → j < 6 → is_listed cs (corner_of p j) ≡ true → in_base cs p ≡ true
  corner-base j d l h =
      let x = listed-is cs (centres_in cs) (corner_of p j) h in
      let k = (j + 3) % 6 in
      let m : k < 6 = mod-lt (j + 3) (lit< tt) in
      in-hexagon cs x.0 (suc k) p x.1 (omega arith) (ap (λ (c : Point). corner_of c k) x.2 ∙ corner-back p j d l)

  module _ (g : GoodList cs) (h : in_base cs p ≡ true) where
    at-hexagon : (i : ℕ) → i < centres_in cs → Good (centre_at cs i)
    at-hexagon i l = good-is (centre_at cs i) (g.good i l)

    pub base-depth : p.m.0 ≡ 0
    base-depth = let x = of-hexagon cs p h in go x.0 x.1 x.2.0 x.2.1 x.2.2
      where
        go : (i : ℕ) → i < centres_in cs → (k : ℕ) → k < 7 → hexagon_point (centre_at cs i) k ≡ p → p.m.0 ≡ 0
        go i l zero m e = ap (λ (q : Point). q.m.0) (sym e)
        go i l (suc j) m e =
            ap (λ (q : Point). q.m.0) (sym e)
            ∙ (corner-within 250 (centre_at cs i) j (record { wide = (at-hexagon i l).wide; high = (at-hexagon i l).high; depth = refl }) (omega arith)).depth

    -- where a - b leaves 0 it is a centre
    pub base-centre : class_of p ≡ 0 → is_listed cs p ≡ true
    base-centre c = let x = of-hexagon cs p h in go x.0 x.1 x.2.0 x.2.1 x.2.2
      where
        go : (i : ℕ) → i < centres_in cs → (k : ℕ) → k < 7 → hexagon_point (centre_at cs i) k ≡ p → is_listed cs p ≡ true
        go i l zero m e = ap (is_listed cs) (sym e) ∙ listed_at cs (centres_in cs) i l
        go i l (suc j) m e = absurd (omega (arith, corner-class (centre_at cs i) j refl (at-hexagon i l).class (omega arith), ap class_of e))

    -- else a hexagon that it is a corner of is listed
    pub base-corner : (class_of p ≡ 0 → ⊥) → (j : ℕ) × (j < 6) × (is_listed cs (corner_of p j) ≡ true)
    base-corner c = let x = of-hexagon cs p h in go x.0 x.1 x.2.0 x.2.1 x.2.2
      where
        go : (i : ℕ) → i < centres_in cs → (k : ℕ) → k < 7 → hexagon_point (centre_at cs i) k ≡ p → (j : ℕ) × (j < 6) × (is_listed cs (corner_of p j) ≡ true)
        go i l zero m e = absurd (c (ap class_of (sym e) ∙ (at-hexagon i l).class))
        go i l (suc j) m e =
            let k = (j + 3) % 6 in (
              k,
              mod-lt (j + 3) (lit< tt),
              ap (λ (q : Point). is_listed cs (corner_of q k)) (sym e)
                  ∙ ap (is_listed cs) (corner-back (centre_at cs i) j refl (omega arith)) ∙ listed_at cs (centres_in cs) i l,
            )
