-- The findings of the vertices, vertex by vertex, are the findings on the plan, sorted by the order of their points and their places in the list.
-- Both lists rise strictly by `rank_of`, one number for the two, and hold the same findings; there is only one such list.
-- `on_plan` the findings whose point has a vertex, `vertex-held`, `of_mem`, `mem-of` whose record they have · `Later` a line stands after another ·
-- `rank_of`, `sooner` · `standing-sorted`.
-- Assumes nothing.
use Rattle.std.specs.Prelude.{◌≡◌, ◌⊎◌, Bool, ℕ, ◌+◌, ◌*◌, ◌<◌, ltb, Option, Some, None}
use Rattle.std.proofs.Math.Path.{refl, ap}
use Rattle.std.proofs.Common.{sym, ◌∙◌, subst, inl, inr}
use Rattle.std.proofs.Math.Bool.{true}
use mathlib.Core.List.Memᴰ
use mathlib.Core.List.{List, [], ◌∷◌, ◌++◌, Memᴰ}
use native.Mathlib.Omega.{arith}
use borrow.Author.Tests.{ltb-true, ltb-false}
use Rattle.laws.specs.Each.{never}
use Rattle.lattice.specs.declared.points.Point.{Point}
use Rattle.lattice.specs.declared.records.Record.{Record}
use Rattle.table.specs.Search.{same_point}
use Rattle.table.specs.Order.{InOrder}
use Rattle.table.specs.Entries.{look_up, records_of, is_held, holds}
use Rattle.table.specs.MapLaws.{lookup-point, lookup-valid, records-looked, looked-records, same_refl, same_true}
use Rattle.text.specs.LineOrder.{order_of, Close, close, order-earlier}
use Rattle.sorting.specs.Sorting.{sort_by}
use Rattle.sorting.specs.SortLaws.{mem-sort, sort-mem, Rising, Decides, sort-rising, rising-join, rising-into, rising-one}
use Rattle.writers.specs.Files.{sorted}
use Rattle.writers.specs.FileLaws.{Before, sorted_rises, sorted-holds, holds-sorted}
use Rattle.findings.specs.Findings.{point_of, keep, findings_at, findings_of, standing}
use Rattle.findings.specs.KeepLaws.{mem-keep, keep-mem, keep-rising}
use Rattle.findings.specs.declared.line.Finding.{Finding}

-- the findings whose point has a vertex, in list order
abbrev pub on_plan : List ℕ → List Finding → List Finding
on_plan t fs = keep (λ f. holds t (point_of f)) fs

-- more than any list has bytes
abbrev pub lengths : ℕ
lengths = 18446744073709551616

-- the order of a finding's point, then its place in the list
abbrev pub rank_of : Finding → ℕ
rank_of f = order_of (point_of f) * lengths + f.from

abbrev pub sooner : Finding → Finding → Bool
sooner f g = ltb (rank_of f) (rank_of g)

abbrev pub Sooner : Finding → Finding → Type 0
Sooner f g = rank_of f < rank_of g

-- g's line stands after f's
abbrev pub Later : Finding → Finding → Type 0
Later f g = f.from < g.from

-- a finding on the plan: the record at its point
pub plan-holds : (t : List ℕ) (p : Point) → holds t p ≡ true → (r : Record) × (look_up t p ≡ Some r)
plan-holds t p h = go (look_up t p) refl
  where
    go : (o : Option Record) → look_up t p ≡ o → (r : Record) × (look_up t p ≡ Some r)
    go None e = absurd (never (sym (ap is_held e) ∙ h))
    go (Some r) e = (r, e)

pub plan-close : (t : List ℕ) → InOrder t → (p : Point) → holds t p ≡ true → Close p
plan-close t o p h =
    let (r, e) = plan-holds t p h in
    subst Close (lookup-point t o p r e) (close r (lookup-valid t o p r e))

-- a vertex of the full file is the record at its point
pub vertex-held : (t : List ℕ) → InOrder t → (r : Record) → Memᴰ r (sorted (records_of t)) → look_up t r.at ≡ Some r
vertex-held t o r m = records-looked t o r (sorted-holds t r m)

module _ (fs : List Finding) where
  -- the findings of some records are those at the point of one of them
  pub of_mem : (rs : List Record) (f : Finding) → Memᴰ f (findings_of rs fs) → (r : Record) × Memᴰ r rs × (point_of f ≡ r.at) × Memᴰ f fs
  unfolding findings_of
  of_mem [] f m = absurd (Memᴰ.not-nil m)
  of_mem (r ∷ rs) f m = go (Memᴰ.append_cases (findings_at r.at fs) m) (λ k. of_mem rs f k)
    where
      go : Memᴰ f (findings_at r.at fs) ⊎ Memᴰ f (findings_of rs fs)
          → (Memᴰ f (findings_of rs fs) → (q : Record) × Memᴰ q rs × (point_of f ≡ q.at) × Memᴰ f fs)
          → (q : Record) × Memᴰ q (r ∷ rs) × (point_of f ≡ q.at) × Memᴰ f fs
      go (inl k) ih = let w = mem-keep (λ g. same_point (point_of g) r.at) fs f k in (r, Memᴰ.head refl, same_true (point_of f) r.at w.1, w.0)
      go (inr k) ih = let (q, n, e, w) = ih k in (q, Memᴰ.tail n, e, w)

  pub mem-of : (rs : List Record) (f : Finding) (r : Record) → Memᴰ r rs → point_of f ≡ r.at → Memᴰ f fs → Memᴰ f (findings_of rs fs)
  unfolding findings_of
  mem-of [] f r m e w = absurd (Memᴰ.not-nil m)
  mem-of (q ∷ rs) f r m e w = go (Memᴰ.cases_cons m) (λ k. mem-of rs f r k e w)
    where
      here : r ≡ q → same_point (point_of f) q.at ≡ true
      here k = ap (same_point (point_of f)) (sym (e ∙ ap (λ (x : Record). x.at) k)) ∙ same_refl (point_of f)

      go : (r ≡ q) ⊎ Memᴰ r rs → (Memᴰ r rs → Memᴰ f (findings_of rs fs)) → Memᴰ f (findings_at q.at fs ++ findings_of rs fs)
      go (inl k) ih = Memᴰ.append_left (findings_of rs fs) (keep-mem (λ g. same_point (point_of g) q.at) fs f w (here k))
      go (inr k) ih = Memᴰ.append_right (findings_at q.at fs) (ih k)

  module _ (later : Rising Later fs) (small : (f : Finding) → Memᴰ f fs → f.from < lengths) where
    -- at one vertex they rise as in the list
    at-rising : (p : Point) → Rising Sooner (findings_at p fs)
    at-rising p =
        rising-into Later Sooner (findings_at p fs) (λ f g m n h. pair f g (is f m) (is g n) h)
        (keep-rising (λ f. same_point (point_of f) p) Later fs later)
      where
        is : (f : Finding) → Memᴰ f (findings_at p fs) → point_of f ≡ p
        is f m = same_true (point_of f) p (mem-keep (λ g. same_point (point_of g) p) fs f m).1

        pair : (f g : Finding) → point_of f ≡ p → point_of g ≡ p → f.from < g.from → rank_of f < rank_of g
        pair f g a b h = let e : order_of (point_of f) ≡ order_of (point_of g) = ap order_of (a ∙ sym b) in omega arith

    -- from vertex to vertex as the full file does
    of_rising : (rs : List Record) → Rising Before rs → ((r : Record) → Memᴰ r rs → Close r.at) → Rising Sooner (findings_of rs fs)
    unfolding findings_of
    of_rising [] b c = tt
    of_rising (r ∷ rs) b c =
        rising-join Sooner (findings_at r.at fs) (findings_of rs fs) (at-rising r.at) (of_rising rs b.1 (λ q m. c q (Memᴰ.tail m)))
        (λ f g m n. across f g (mem-keep (λ x. same_point (point_of x) r.at) fs f m) (of_mem rs g n))
      where
        across : (f g : Finding) → Memᴰ f fs × (same_point (point_of f) r.at ≡ true)
            → (q : Record) × Memᴰ q rs × (point_of g ≡ q.at) × Memᴰ g fs → Sooner f g
        across f g (m, e) (q, n, d, _) =
            let x : order_of (point_of f) ≡ order_of r.at = ap order_of (same_true (point_of f) r.at e) in
            let y : order_of (point_of g) ≡ order_of q.at = ap order_of d in
            let z =
            ltb-true (order_of r.at) (order_of q.at)
            (sym (order-earlier r.at q.at (c r (Memᴰ.head refl)) (c q (Memᴰ.tail n))) ∙ b.0 q n) in
            let h = small f m in
            omega arith

    -- and so do the findings of any list, sorted
    decided : (test : Finding → Bool) → Rising (Decides sooner Sooner) (keep test fs)
    decided test =
        rising-into Later (Decides sooner Sooner) (keep test fs)
        (λ f g m n h. pair f g (small f (mem-keep test fs f m).0) (small g (mem-keep test fs g n).0) h)
        (keep-rising test Later fs later)
      where
        pair : (f g : Finding) → f.from < lengths → g.from < lengths → f.from < g.from → Decides sooner Sooner f g
        pair f g a b h = (λ e. ltb-true (rank_of f) (rank_of g) e, λ e. let l = ltb-false (rank_of f) (rank_of g) e in omega arith)

    pub standing-sorted : (t : List ℕ) → InOrder t → standing t fs ≡ sort_by sooner (on_plan t fs)
    standing-sorted t o =
        rising-one Sooner (λ f g a b. omega arith) (standing t fs) (sort_by sooner (on_plan t fs))
        (of_rising (sorted (records_of t)) (sorted_rises t o) (λ r m. close r (lookup-valid t o r.at r (vertex-held t o r m))))
        (sort-rising sooner Sooner (λ f g h a b. omega arith) (on_plan t fs) (decided (λ f. holds t (point_of f))))
        (λ f m. sort-mem sooner (on_plan t fs) f (into f (of_mem (sorted (records_of t)) f m)))
        (λ f m. back f (mem-keep (λ g. holds t (point_of g)) fs f (mem-sort sooner (on_plan t fs) f m)))
      where
        into : (f : Finding) → (r : Record) × Memᴰ r (sorted (records_of t)) × (point_of f ≡ r.at) × Memᴰ f fs → Memᴰ f (on_plan t fs)
        into f (r, m, e, w) = keep-mem (λ g. holds t (point_of g)) fs f w (ap (holds t) e ∙ ap is_held (vertex-held t o r m))

        back : (f : Finding) → Memᴰ f fs × (holds t (point_of f) ≡ true) → Memᴰ f (standing t fs)
        back f (m, h) =
            let (r, e) = plan-holds t (point_of f) h in
            mem-of (sorted (records_of t)) f r (holds-sorted t r (looked-records t o (point_of f) r e)) (sym (lookup-point t o (point_of f) r e)) m
