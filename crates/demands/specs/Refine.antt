-- Document 02, ticket 9, "Refine round an outline": what the request does, over the definition that the promise of `refine` cites, each under its
-- sentence.
-- Of every table and scratch: `unfit_request`, `refine-number` which number, and when; 7 and 8 are the first met · `refine-unfit`, `refine-scratch` the
-- scratch table · `refine-early` 1 and 17 leave the table as it was · `refine-order` a table in order stays in order · `refine-list`, `list-refine`,
-- `refine-rises` a pass's list · `refine-once` each listed vertex is subdivided once, `refine-others` no other · `refine-first` the first refused in the
-- list decides · `refine-met` never refused with 3, 4 or 5 · `refine-passes` what stands where a pass is refused.
-- Of a grown mesh: `refine-pass` a pass is made exactly where six slots are free for each listed vertex · `refine-grown` it stays grown, whatever the
-- answer · `refine-only-8` past 1 and 17 only 8 can come.
-- Assumes nothing.
pub use Rattle.outlines.specs.Outlines.{is_finite, beyond}
pub use Rattle.outlines.specs.TurnLaws.{FirstMet}
pub use Rattle.outlines.specs.RefineLaws.{Stopped, PassesEnd, ended, stopped}
pub use Rattle.outlines.specs.GrownLaws.{PassEnd, whole, full}
use Rattle.std.specs.Prelude.{◌≡◌, ◌⊎◌, Bool, true, false, ◌&&◌, ◌||◌, not, ℕ, ◌<◌, ◌≤◌, eqb, ltb, leb, Float, Some}
use Rattle.std.proofs.Math.Path.{refl, ap}
use Rattle.std.proofs.Common.{sym, ◌∙◌, subst, inl, inr, arith, lt-ltb, le-ltb, le-leb}
use Rattle.std.proofs.Math.Bool.{cond}
use mathlib.Core.List.{List, [], ◌∷◌, Memᴰ}
use Rattle.std.proofs.Math.Decide.{dec_lt}
use Rattle.std.specs.Float.Ieee.{lt}
use Rattle.std.proofs.lemmas.Bool.{lt-leb}
use Rattle.laws.specs.Each.{not-both}
use Rattle.lattice.specs.Subdivision.{centre_of}
use Rattle.lattice.specs.declared.records.Record.{Record}
use Rattle.table.specs.Slots.{lengths_fit, cleared_of}
use Rattle.table.specs.Order.{InOrder, in_order_of}
use Rattle.table.specs.Entries.{look_up}
use Rattle.table.specs.MapLaws.{test-order, order-test}
use Rattle.sorting.specs.SortLaws.{Rising}
use Rattle.writers.specs.FileLaws.{Before}
use Rattle.mesh.specs.Grown.{Grown}
use Rattle.mesh.specs.Subdivide.{Many}
use Rattle.outlines.specs.declared.values.Outline.{Outline}
use Rattle.outlines.specs.declared.values.Outline.TheVariants.{Disc, Line}
use Rattle.outlines.specs.Outlines.{nought, wanted, list_of, pass_of, many, passes_from, number_fits, outline_fits, request_fits, request_of}
use Rattle.outlines.specs.Outlines.{RefineAfter, refine_after, cleared, refine_of}
use Rattle.outlines.specs.ListLaws.{listed-stands, stands-listed, list-rises}
use Rattle.outlines.specs.TurnLaws.{Refusal, pass-number, pass-first, pass-once, pass-others}
use Rattle.outlines.specs.RefineLaws.{passes-told, passes-end, fits-level}
use Rattle.outlines.specs.GrownLaws.{pass-grown, passes-grown}
use Rattle.demands.specs.Numbers.{Rule, ◌⇒◌, first_of}

-- ---- "17 for an outline number that is not finite or is beyond 1,000 either way, a radius not above zero, or passes or level out of range"
abbrev pub unfit_number : Float → Bool
unfit_number x = not (is_finite x) || beyond x

abbrev pub unfit_outline : Outline → Bool
unfit_outline (Disc x y r) = unfit_number x || (unfit_number y || (unfit_number r || not (lt nought r)))
unfit_outline (Line p q s) = unfit_number p || (unfit_number q || unfit_number s)

abbrev pub unfit_request : Outline → ℕ → ℕ → Bool
unfit_request o passes level = unfit_outline o || (ltb 12 passes || ltb 12 level)

-- one after the other by `&&`, not so: by `||`
either : (a b : Bool) → not a || not b ≡ not (a && b)
either true b = refl
either false b = refl

unfit-number : (x : Float) → unfit_number x ≡ not (number_fits x)
unfolding number_fits
unfit-number x = go (is_finite x) (beyond x)
  where
    go : (a b : Bool) → not a || b ≡ not (a && not b)
    go true true = refl
    go true false = refl
    go false b = refl

unfit-outline : (o : Outline) → unfit_outline o ≡ not (outline_fits o)
unfolding outline_fits
unfit-outline (Disc x y r) =
    (λ i. unfit-number x i || (unfit-number y i || (unfit-number r i || not (lt nought r)))) ∙ go (number_fits x) (number_fits y) (number_fits r) (lt nought r)
  where
    go : (a b c d : Bool) → not a || (not b || (not c || not d)) ≡ not (a && (b && (c && d)))
    go true true c d = either c d
    go true false c d = refl
    go false b c d = refl
unfit-outline (Line p q s) = (λ i. unfit-number p i || (unfit-number q i || unfit-number s i)) ∙ go (number_fits p) (number_fits q) (number_fits s)
  where
    go : (a b c : Bool) → not a || (not b || not c) ≡ not (a && (b && c))
    go true b c = either b c
    go false b c = refl

over : (n : ℕ) → ltb 12 n ≡ not (leb n 12)
over n = go (dec_lt 12 n)
  where
    go : Dec (12 < n) → ltb 12 n ≡ not (leb n 12)
    go (yes h) = rw (lt-ltb 12 n h, lt-leb n 12 h)
    go (no h) = rw (le-ltb 12 n (omega arith), le-leb n 12 (omega arith))

unfit-request : (o : Outline) (passes level : ℕ) → unfit_request o passes level ≡ not (request_fits o passes level)
unfolding request_fits
unfit-request o passes level = (λ i. unfit-outline o i || (over passes i || over level i)) ∙ go (outline_fits o) (leb passes 12) (leb level 12)
  where
    go : (a b c : Bool) → not a || (not b || not c) ≡ not (a && (b && c))
    go true b c = either b c
    go false b c = refl

request-fits : (o : Outline) (passes level : ℕ) → unfit_request o passes level ≡ false → request_fits o passes level ≡ true
request-fits o passes level h = go (request_fits o passes level) (sym (unfit-request o passes level) ∙ h)
  where
    go : (b : Bool) → not b ≡ false → b ≡ true
    go true e = refl
    go false e = absurd (not-both refl e)

-- ---- of every table
-- "Refusals: 1; 17 ..; then 7, 8 as the subdivisions, in list order, meet them."
abbrev pub refine_rules : List ℕ → List ℕ → Outline → ℕ → ℕ → List Rule
refine_rules t s o passes level =
    not (lengths_fit t s) ⇒ 1
    ∷ not (in_order_of t) ⇒ 1
    ∷ unfit_request o passes level ⇒ 17
    ∷ eqb (passes_from o level t 0 passes).number 7 ⇒ 7
    ∷ eqb (passes_from o level t 0 passes).number 8 ⇒ 8
    ∷ []

abbrev first_met : ℕ → ℕ
first_met x = first_of (eqb x 7 ⇒ 7 ∷ eqb x 8 ⇒ 8 ∷ [])

told-met : (x : ℕ) → Refusal x → x ≡ first_met x
told-met x (inl e) = subst (λ (y : ℕ). y ≡ first_met y) (sym e) refl
told-met x (inr (inl e)) = subst (λ (y : ℕ). y ≡ first_met y) (sym e) refl
told-met x (inr (inr e)) = subst (λ (y : ℕ). y ≡ first_met y) (sym e) refl

module _ (t s : List ℕ) (o : Outline) (passes level : ℕ) where
  -- the passes, all of them or so many
  abbrev made : Many
  made = passes_from o level t 0 passes

  -- the call by its three tests: the lengths fit, the table is in order, the request fits
  abbrev tested : Bool → Bool → Bool → RefineAfter
  tested f i r = cond f (cleared (cond i (cond r made (many 17 0 t)) (many 1 0 t)) s) (refine_after 1 0 t s)

  by_tests : refine_of t s o passes level ≡ tested (lengths_fit t s) (in_order_of t) (request_fits o passes level)
  unfolding refine_of request_of
  by_tests = refl

  made_told : in_order_of t ≡ true → request_fits o passes level ≡ true → InOrder made.bytes × Refusal made.number
  made_told h k = passes-told o level (fits-level o passes level k) t (test-order t h) 0 passes

  pub refine-number : (refine_of t s o passes level).number ≡ first_of (refine_rules t s o passes level)
  refine-number =
      ap (λ (x : RefineAfter). x.number) by_tests ∙ go (lengths_fit t s) (in_order_of t) refl (request_fits o passes level) refl
      ∙ ap (λ (b : Bool). first_of
      (not (lengths_fit t s) ⇒ 1
      ∷ not (in_order_of t) ⇒ 1
      ∷ b ⇒ 17
      ∷ eqb made.number 7 ⇒ 7
      ∷ eqb made.number 8 ⇒ 8
      ∷ [])) (sym (unfit-request o passes level))
    where
      go : (f i : Bool) → in_order_of t ≡ i → (r : Bool) → request_fits o passes level ≡ r
          → (tested f i r).number ≡ first_of (not f ⇒ 1 ∷ not i ⇒ 1 ∷ not r ⇒ 17 ∷ eqb made.number 7 ⇒ 7 ∷ eqb made.number 8 ⇒ 8 ∷ [])
      go false i h r e = refl
      go true false h r e = refl
      go true true h false e = refl
      go true true h true e = told-met made.number (made_told h e).1

  -- "A scratch table is lent as for the readers": "Lengths that don't fit are refused with both untouched; otherwise scratch ends all 255."
  pub refine-unfit : lengths_fit t s ≡ false → refine_of t s o passes level ≡ refine_after 1 0 t s
  refine-unfit h = unfold refine_of in ap (λ (b : Bool). cond b (cleared (request_of t o passes level) s) (refine_after 1 0 t s)) h

  refine-fit : lengths_fit t s ≡ true → refine_of t s o passes level ≡ cleared (request_of t o passes level) s
  refine-fit h = unfold refine_of in ap (λ (b : Bool). cond b (cleared (request_of t o passes level) s) (refine_after 1 0 t s)) h

  pub refine-scratch : lengths_fit t s ≡ true → (refine_of t s o passes level).scratch ≡ cleared_of s
  refine-scratch h = ap (λ (x : RefineAfter). x.scratch) (refine-fit h)

  -- refused before any pass: the table as it was
  pub refine-early : ((refine_of t s o passes level).number ≡ 1) ⊎ ((refine_of t s o passes level).number ≡ 17)
      → ((refine_of t s o passes level).table ≡ t) × ((refine_of t s o passes level).done ≡ 0)
  refine-early e = subst Early (sym by_tests) (go (lengths_fit t s) (in_order_of t) refl (request_fits o passes level) refl) e
    where
      Early : RefineAfter → Type 0
      Early x = (x.number ≡ 1) ⊎ (x.number ≡ 17) → (x.table ≡ t) × (x.done ≡ 0)

      none : (x : ℕ) → Refusal x → (x ≡ 1) ⊎ (x ≡ 17) → ⊥
      none x (inl a) (inl b) = omega arith
      none x (inl a) (inr b) = omega arith
      none x (inr (inl a)) (inl b) = omega arith
      none x (inr (inl a)) (inr b) = omega arith
      none x (inr (inr a)) (inl b) = omega arith
      none x (inr (inr a)) (inr b) = omega arith

      go : (f i : Bool) → in_order_of t ≡ i → (r : Bool) → request_fits o passes level ≡ r → Early (tested f i r)
      go false i h r k = λ e. (refl, refl)
      go true false h r k = λ e. (refl, refl)
      go true true h false k = λ e. (refl, refl)
      go true true h true k = λ e. absurd (none made.number (made_told h k).1 e)

  pub refine-order : InOrder t → InOrder (refine_of t s o passes level).table
  refine-order w = subst (λ (x : RefineAfter). InOrder x.table) (sym by_tests) (go (lengths_fit t s) (in_order_of t) refl (request_fits o passes level) refl)
    where
      go : (f i : Bool) → in_order_of t ≡ i → (r : Bool) → request_fits o passes level ≡ r → InOrder (tested f i r).table
      go false i h r k = w
      go true false h r k = w
      go true true h false k = w
      go true true h true k = (made_told h k).0

  -- past 1 and 17: "A refused pass is undone whole; passes before it stand, the answer says how many, and demand 1's untouched mesh is then the one that
  -- pass began with."
  pub refine-passes : lengths_fit t s ≡ true → in_order_of t ≡ true → unfit_request o passes level ≡ false
      → (refine_of t s o passes level ≡ cleared made s) × PassesEnd o level t 0 passes made
  refine-passes f h k =
      let fits = request-fits o passes level k in
      (by_tests ∙ (λ i. tested (f i) (h i) (fits i)), passes-end o level t 0 passes)

-- ---- a pass
module _ (o : Outline) (level : ℕ) (t : List ℕ) (i : InOrder t) where
  -- "One pass lists .. the degree 6 vertices below a given level with a crossing edge": those, as they stand, and no others
  pub refine-list : (v : Record) → Memᴰ v (list_of o level t) → (look_up t v.at ≡ Some v) × (wanted o level v ≡ true)
  refine-list v m = listed-stands o level t i v m

  pub list-refine : (v : Record) → look_up t v.at ≡ Some v → wanted o level v ≡ true → Memᴰ v (list_of o level t)
  list-refine v h e = stands-listed o level t i v h e

  -- "in full-file order": each line stands before those after it, so none twice
  pub refine-rises : Rising Before (list_of o level t)
  refine-rises = list-rises o level t i

  module _ (fits : level ≤ 12) where
    -- "and then subdivides them all": after a pass that was made, each listed vertex is what one subdivision makes of it
    pub refine-once : (pass_of o level t).number ≡ 0 → (v : Record) → Memᴰ v (list_of o level t)
        → look_up (pass_of o level t).bytes v.at ≡ Some (centre_of v)
    refine-once z v m = pass-once o level fits t i z v m

    -- and no other vertex of degree 6 is subdivided
    pub refine-others : (pass_of o level t).number ≡ 0 → (v : Record) → look_up t v.at ≡ Some v → v.d ≡ 6 → (Memᴰ v (list_of o level t) → ⊥)
        → look_up (pass_of o level t).bytes v.at ≡ Some v
    refine-others z v h six off = pass-others o level fits t i z v h six off

    -- "then 7, 8 as the subdivisions, in list order, meet them": the first that is refused, after those before it, gives the number
    pub refine-first : ((pass_of o level t).number ≡ 0 → ⊥) → FirstMet t (list_of o level t) (pass_of o level t).number
    refine-first n = pass-first o level t n

    -- never 3, 4 or 5
    pub refine-met : ((pass_of o level t).number ≡ 0) ⊎ (((pass_of o level t).number ≡ 7) ⊎ ((pass_of o level t).number ≡ 8))
    refine-met = pass-number o level fits t i

-- ---- of a grown mesh
-- a pass is made, six slots taken for each listed vertex; or there are fewer, 8 comes, and the table is as it was
pub refine-pass : (o : Outline) (level : ℕ) → level ≤ 12 → (t : List ℕ) → Grown t → PassEnd o level t
refine-pass o level l t g = pass-grown o level l t g

module _ (t s : List ℕ) (g : Grown t) (o : Outline) (passes level : ℕ) where
  -- the mesh stays grown
  pub refine-grown : Grown (refine_of t s o passes level).table
  refine-grown =
      subst (λ (x : RefineAfter). Grown x.table) (sym (by_tests t s o passes level))
      (go (lengths_fit t s) (in_order_of t) (request_fits o passes level) refl)
    where
      go : (f i r : Bool) → request_fits o passes level ≡ r → Grown (tested t s o passes level f i r).table
      go false i r k = g
      go true false r k = g
      go true true false k = g
      go true true true k = (passes-grown o level (fits-level o passes level k) t g 0 passes).0

  -- only 8 can come
  pub refine-only-8 : lengths_fit t s ≡ true → unfit_request o passes level ≡ false
      → ((refine_of t s o passes level).number ≡ 0) ⊎ ((refine_of t s o passes level).number ≡ 8)
  refine-only-8 f k =
      let fits = request-fits o passes level k in
      subst (λ (x : RefineAfter). (x.number ≡ 0) ⊎ (x.number ≡ 8)) (sym (refine-passes t s o passes level f (order-test t g.order) k).0)
      (passes-grown o level (fits-level o passes level fits) t g 0 passes).1
