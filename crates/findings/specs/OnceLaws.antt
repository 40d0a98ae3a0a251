-- "Each line comes out exactly once, however its point is spelled." A finding's point is the point of one vertex at most, so the finding stands with that
-- vertex, or with the lost ones, and once.
-- `counted` how many findings pass a test · `each-once` as many come out as go in, whatever the test · `standing-long` the lines of the vertices are as long
-- as those of the findings on the plan · `lost-none`, `none-lost` the lost ones are those whose point has no record, in list order by `keep` ·
-- `standing-held`, `held-standing` the others have one · `line_out` a finding's line out, `joined-lines` the joined list is these lines.
-- Assumes nothing.
use Rattle.std.specs.Prelude.{◌≡◌, Bool, ◌||◌, ℕ, ◌+◌, length, Option, Some, None}
use Rattle.std.proofs.Math.Path.{refl}
use Rattle.std.proofs.Common.{sym, ap, ◌∙◌, ltb-true, length-append}
use Rattle.std.proofs.Math.Bool.{true, false, cond, not}
use mathlib.Core.List.{List, [], ◌∷◌, ◌++◌, Memᴰ}
use native.Mathlib.Omega.{arith}
use Rattle.laws.specs.Each.{never, not-both, same_test}
use Rattle.laws.specs.Some.{some_of, some_at, at_some}
use Rattle.lattice.specs.declared.points.Point.{Point}
use Rattle.lattice.specs.declared.records.Record.{Record}
use Rattle.table.specs.Search.{same_point}
use Rattle.table.specs.Order.{InOrder}
use Rattle.table.specs.Entries.{look_up, records_of, is_held, holds}
use Rattle.table.specs.MapLaws.{lookup-point, lookup-valid, records-looked, looked-records, same_refl, same_true}
use Rattle.text.specs.LineOrder.{order_of, close, order-earlier}
use Rattle.sorting.specs.SortLaws.{Rising}
use Rattle.sorting.specs.Tally.{bit}
use Rattle.writers.specs.Files.{sorted}
use Rattle.writers.specs.FileLaws.{Before, sorted_rises, sorted-holds, holds-sorted}
use Rattle.findings.specs.Findings.{point_of, keep, findings_at, findings_of, standing, lost, stands_text, lost_text, texts, joined}
use Rattle.findings.specs.KeepLaws.{mem-keep, keep-mem, texts-join}
use Rattle.findings.specs.StandingLaws.{on_plan, vertex-held, of_mem, mem-of}
use Rattle.findings.specs.declared.line.Finding.{Finding}

-- what the findings of a list weigh, all together
abbrev weighed : (Finding → ℕ) → List Finding → ℕ
weighed w [] = 0
weighed w (f ∷ fs) = w f + weighed w fs

-- how many of them pass a test
abbrev pub counted : (Finding → Bool) → List Finding → ℕ
counted test fs = weighed (λ f. bit (test f)) fs

-- w for each record at p
abbrev weight : ℕ → Point → List Record → ℕ
weight w p [] = 0
weight w p (r ∷ rs) = cond (same_point p r.at) w 0 + weight w p rs

-- ---- one finding more

module _ (w : Finding → ℕ) where
  weighed-join : (xs ys : List Finding) → weighed w (xs ++ ys) ≡ weighed w xs + weighed w ys
  weighed-join [] ys = omega arith
  weighed-join (x ∷ xs) ys = omega (arith, weighed-join xs ys)

  weighed-keep : (pass : Finding → Bool) (f : Finding) (fs : List Finding)
      → weighed w (keep pass (f ∷ fs)) ≡ cond (pass f) (w f) 0 + weighed w (keep pass fs)
  unfolding keep
  weighed-keep pass f fs = go (pass f)
    where
      go : (b : Bool) → weighed w (cond b (f ∷ keep pass fs) (keep pass fs)) ≡ cond b (w f) 0 + weighed w (keep pass fs)
      go true = refl
      go false = omega arith

  -- it counts once for each record at its point
  weighed-of : (rs : List Record) (f : Finding) (fs : List Finding)
      → weighed w (findings_of rs (f ∷ fs)) ≡ weight (w f) (point_of f) rs + weighed w (findings_of rs fs)
  unfolding findings_of
  weighed-of [] f fs = refl
  weighed-of (r ∷ rs) f fs =
      omega (
        arith,
        weighed-join (findings_at r.at (f ∷ fs)) (findings_of rs (f ∷ fs)),
        weighed-join (findings_at r.at fs) (findings_of rs fs),
        weighed-keep (λ g. same_point (point_of g) r.at) f fs,
        weighed-of rs f fs,
      )

  none_of : (rs : List Record) → weighed w (findings_of rs []) ≡ 0
  unfolding findings_of keep
  none_of [] = refl
  none_of (r ∷ rs) = none_of rs

-- lines weigh their bytes
texts-weigh : (text : Finding → List ℕ) (fs : List Finding) → length (texts text fs) ≡ weighed (λ f. length (text f)) fs
unfolding texts
texts-weigh text [] = refl
texts-weigh text (f ∷ fs) = omega (arith, length-append (text f) (texts text fs), texts-weigh text fs)

-- ---- the vertices of a table in order

module _ (t : List ℕ) (o : InOrder t) where
  -- no two records that rise are at one point
  rises-apart : (r q : Record) → look_up t r.at ≡ Some r → look_up t q.at ≡ Some q → Before r q → r.at ≡ q.at → ⊥
  rises-apart r q a b h e =
      let x = close r (lookup-valid t o r.at r a) in
      let y = close q (lookup-valid t o q.at q b) in
      let l = ltb-true (order_of r.at) (order_of q.at) (sym (order-earlier r.at q.at x y) ∙ h) in
      let k : order_of r.at ≡ order_of q.at = ap order_of e in
      omega arith

  -- so w counts once, where some record is at p
  weight-one : (w : ℕ) (p : Point) (rs : List Record) → Rising Before rs → ((r : Record) → Memᴰ r rs → look_up t r.at ≡ Some r)
      → weight w p rs ≡ cond (some_of (λ r. same_point p r.at) rs) w 0
  weight-one w p [] h k = refl
  weight-one w p (r ∷ rs) h k = go (same_point p r.at) refl (weight-one w p rs h.1 (λ q m. k q (Memᴰ.tail m)))
    where
      others : (b : Bool) → some_of (λ q. same_point p q.at) rs ≡ b → p ≡ r.at → b ≡ false
      others false e s = refl
      others true e s =
          let (q, m, d) = some_at (λ q. same_point p q.at) rs e in
          absurd (rises-apart r q (k r (Memᴰ.head refl)) (k q (Memᴰ.tail m)) (h.0 q m) (sym s ∙ same_true p q.at d))

      go : (b : Bool) → same_point p r.at ≡ b → weight w p rs ≡ cond (some_of (λ q. same_point p q.at) rs) w 0
          → cond b w 0 + weight w p rs ≡ cond (b || some_of (λ q. same_point p q.at) rs) w 0
      go true e ih =
          let none = others (some_of (λ q. same_point p q.at) rs) refl (same_true p r.at e) in
          let z : weight w p rs ≡ 0 = ih ∙ ap (λ (b : Bool). cond b w 0) none in
          omega arith
      go false e ih = omega (arith, ih)

  -- some vertex of the full file is at p exactly where the table holds p
  some_holds : (p : Point) → some_of (λ r. same_point p r.at) (sorted (records_of t)) ≡ holds t p
  some_holds p =
      same_test (some_of (λ r. same_point p r.at) (sorted (records_of t))) (holds t p)
      (λ e.
      let (r, m, d) = some_at (λ r. same_point p r.at) (sorted (records_of t)) e in
      ap (holds t) (same_true p r.at d) ∙ ap is_held (vertex-held t o r m))
      (λ e. go (look_up t p) refl e)
    where
      go : (x : Option Record) → look_up t p ≡ x → is_held x ≡ true → some_of (λ r. same_point p r.at) (sorted (records_of t)) ≡ true
      go None d e = absurd (never e)
      go (Some r) d e =
          at_some (λ q. same_point p q.at) (sorted (records_of t)) r (holds-sorted t r (looked-records t o p r d))
          (ap (same_point p) (lookup-point t o p r d) ∙ same_refl p)

  module _ (w : Finding → ℕ) where
    standing-more : (f : Finding) (fs : List Finding) → weighed w (standing t (f ∷ fs)) ≡ cond (holds t (point_of f)) (w f) 0 + weighed w (standing t fs)
    standing-more f fs =
        let rs = sorted (records_of t) in
        let once = weight-one (w f) (point_of f) rs (sorted_rises t o) (vertex-held t o) ∙ ap (λ (b : Bool). cond b (w f) 0) (some_holds (point_of f)) in
        weighed-of w rs f fs ∙ ap (λ (n : ℕ). n + weighed w (standing t fs)) once

    standing-plan : (fs : List Finding) → weighed w (standing t fs) ≡ weighed w (on_plan t fs)
    unfolding keep
    standing-plan [] = none_of w (sorted (records_of t))
    standing-plan (f ∷ fs) = omega (arith, standing-more f fs, weighed-keep w (λ g. holds t (point_of g)) f fs, standing-plan fs)

    both-parts : (fs : List Finding) → weighed w (on_plan t fs) + weighed w (lost t fs) ≡ weighed w fs
    unfolding keep
    both-parts [] = refl
    both-parts (f ∷ fs) =
        go (holds t (point_of f)) (weighed-keep w (λ g. holds t (point_of g)) f fs) (weighed-keep w (λ g. not (holds t (point_of g))) f fs) (both-parts fs)
      where
        go : (b : Bool) → weighed w (on_plan t (f ∷ fs)) ≡ cond b (w f) 0 + weighed w (on_plan t fs)
            → weighed w (lost t (f ∷ fs)) ≡ cond (not b) (w f) 0 + weighed w (lost t fs)
            → weighed w (on_plan t fs) + weighed w (lost t fs) ≡ weighed w fs
            → weighed w (on_plan t (f ∷ fs)) + weighed w (lost t (f ∷ fs)) ≡ w f + weighed w fs
        go true a b ih = omega arith
        go false a b ih = omega arith

  -- as many of the findings out as of those in pass any test
  pub each-once : (test : Finding → Bool) (fs : List Finding) → counted test (standing t fs ++ lost t fs) ≡ counted test fs
  each-once test fs =
      let w : Finding → ℕ = λ f. bit (test f) in
      omega (arith, weighed-join w (standing t fs) (lost t fs), standing-plan w fs, both-parts w fs)

  -- and their lines are as long
  pub standing-long : (text : Finding → List ℕ) (fs : List Finding) → length (texts text (standing t fs)) ≡ length (texts text (on_plan t fs))
  standing-long text fs = texts-weigh text (standing t fs) ∙ standing-plan (λ f. length (text f)) fs ∙ sym (texts-weigh text (on_plan t fs))

  -- ---- which are lost

  module _ (fs : List Finding) (f : Finding) where
    standing-holds : Memᴰ f (standing t fs) → holds t (point_of f) ≡ true
    standing-holds m =
        let (r, n, e, _) = of_mem fs (sorted (records_of t)) f m in
        ap (holds t) e ∙ ap is_held (vertex-held t o r n)

    pub standing-held : Memᴰ f (standing t fs) → Memᴰ f fs × ((r : Record) × Memᴰ r (records_of t) × (r.at ≡ point_of f))
    standing-held m = let (r, n, e, k) = of_mem fs (sorted (records_of t)) f m in (k, (r, sorted-holds t r n, sym e))

    pub held-standing : Memᴰ f fs → (r : Record) → Memᴰ r (records_of t) → r.at ≡ point_of f → Memᴰ f (standing t fs)
    held-standing m r n e = mem-of fs (sorted (records_of t)) f r (holds-sorted t r n) (sym e) m

    lost-absent : Memᴰ f (lost t fs) → holds t (point_of f) ≡ false
    lost-absent m = go (holds t (point_of f)) (mem-keep (λ g. not (holds t (point_of g))) fs f m).1
      where
        go : (b : Bool) → not b ≡ true → b ≡ false
        go true h = absurd (never h)
        go false h = refl

    -- "the findings whose point has no vertex"
    pub lost-none : Memᴰ f (lost t fs) → Memᴰ f fs × ((r : Record) → Memᴰ r (records_of t) → r.at ≡ point_of f → ⊥)
    lost-none m = (
      (mem-keep (λ g. not (holds t (point_of g))) fs f m).0,
      λ r n e. not-both (ap (holds t) (sym e) ∙ ap is_held (records-looked t o r n)) (lost-absent m),
    )

    pub none-lost : Memᴰ f fs → ((r : Record) → Memᴰ r (records_of t) → r.at ≡ point_of f → ⊥) → Memᴰ f (lost t fs)
    none-lost m none = keep-mem (λ g. not (holds t (point_of g))) fs f m (ap not (go (look_up t (point_of f)) refl))
      where
        go : (x : Option Record) → look_up t (point_of f) ≡ x → holds t (point_of f) ≡ false
        go None e = ap is_held e
        go (Some r) e = absurd (none r (looked-records t o (point_of f) r e) (lookup-point t o (point_of f) r e))

-- ---- the lines

-- a finding's line out: with its vertex, or lost
abbrev pub line_out : List ℕ → List ℕ → Finding → List ℕ
line_out t l f = cond (holds t (point_of f)) (stands_text l f) (lost_text l f)

texts-same : (x y : Finding → List ℕ) (fs : List Finding) → ((f : Finding) → Memᴰ f fs → x f ≡ y f) → texts x fs ≡ texts y fs
unfolding texts
texts-same x y [] h = refl
texts-same x y (f ∷ fs) h = λ i. h f (Memᴰ.head refl) i ++ texts-same x y fs (λ g m. h g (Memᴰ.tail m)) i

pub joined-lines : (t l : List ℕ) → InOrder t → (fs : List Finding) → joined t l fs ≡ texts (line_out t l) (standing t fs ++ lost t fs)
unfolding joined
joined-lines t l o fs =
    let stands = texts-same (stands_text l) (line_out t l) (standing t fs) (λ f m. ap (pick f) (sym (standing-holds t o fs f m))) in
    let none = texts-same (lost_text l) (line_out t l) (lost t fs) (λ f m. ap (pick f) (sym (lost-absent t o fs f m))) in
    (λ i. stands i ++ none i) ∙ sym (texts-join (line_out t l) (standing t fs) (lost t fs))
  where
    pick : Finding → Bool → List ℕ
    pick f b = cond b (stands_text l f) (lost_text l f)
