-- The list, line by line. `list_on` the lines from a position on: `read-on` the whole list, `on-end`, `on-bad`, `on-good` what stands there · `Lines` the
-- findings are the lines from a position on: `sound-lines`, `lines_end`, `lines-bad`, `lines-good` · `lines-in`, `lines-later` they stand in the list, one
-- after the other.
-- Assumes nothing.
use Rattle.std.proofs.Math.Path.{◌≡◌, refl, sym, ap, subst}
use Rattle.std.proofs.Common.{◌∙◌, inl, inr, arith}
use Rattle.std.specs.Prelude.{◌⊎◌, length}
use mathlib.Core.List.Memᴰ
use mathlib.Core.List.{List, [], ◌∷◌, Memᴰ}
use Prim.Native.Nat.{ℕ, zero, suc, ◌+◌, ◌-◌, ◌≤◌, ◌<◌}
use Rattle.sorting.specs.SortLaws.{Rising}
use Rattle.findings.specs.Findings.{entry_at, Listing, Sound, Faulty, ahead, entry_read, list_from, read_list}
use Rattle.findings.specs.EntryCases.{entry-end}
use Rattle.findings.specs.EntryLaws.{InList, entry-from, entry_in, entry_next}
use Rattle.findings.specs.StandingLaws.{Later}
use Rattle.findings.specs.declared.line.Finding.{Finding}
use Rattle.findings.specs.declared.line.Entry.{Entry}
use Rattle.findings.specs.declared.line.Entry.TheVariants.{Good, Bad, End}

module _ (l : List ℕ) where
  -- as many lines as there may be, or more: the same
  enough : (x y p i : ℕ) → length l ≤ p + x → length l ≤ p + y → list_from l x p i ≡ list_from l y p i
  unfolding list_from
  enough zero zero p i a b = refl
  enough zero (suc y) p i a b = ap (entry_read i (λ f. list_from l y f.next (i + 1))) (entry-end l p (omega arith))
  enough (suc x) zero p i a b = sym (ap (entry_read i (λ f. list_from l x f.next (i + 1))) (entry-end l p (omega arith)))
  enough (suc x) (suc y) p i a b = go (entry_at l p) refl (λ f m. enough x y f.next (i + 1) (omega arith) (omega arith))
    where
      go : (e : Entry) → entry_at l p ≡ e → ((f : Finding) → p < f.next → list_from l x f.next (i + 1) ≡ list_from l y f.next (i + 1))
          → entry_read i (λ f. list_from l x f.next (i + 1)) e ≡ entry_read i (λ f. list_from l y f.next (i + 1)) e
      go End h ih = refl
      go Bad h ih = refl
      go (Good f) h ih = ap (ahead f) (ih f (omega (arith, (entry_next l p f h).0)))

  -- the lines from position p on, of which the first is line i
  abbrev pub list_on : ℕ → ℕ → Listing
  list_on p i = list_from l (length l - p) p i

  pub read-on : read_list l ≡ list_on 0 1
  read-on = enough (length l) (length l - 0) 0 1 (omega arith) (omega arith)

  on-entry : (p i : ℕ) → list_on p i ≡ entry_read i (λ f. list_from l (length l) f.next (i + 1)) (entry_at l p)
  unfolding list_from
  on-entry p i = enough (length l - p) (suc (length l)) p i (omega arith) (omega arith)

  pub on-end : (p i : ℕ) → entry_at l p ≡ End → list_on p i ≡ Sound []
  on-end p i e = on-entry p i ∙ ap (entry_read i (λ f. list_from l (length l) f.next (i + 1))) e

  pub on-bad : (p i : ℕ) → entry_at l p ≡ Bad → list_on p i ≡ Faulty i
  on-bad p i e = on-entry p i ∙ ap (entry_read i (λ f. list_from l (length l) f.next (i + 1))) e

  pub on-good : (p i : ℕ) (f : Finding) → entry_at l p ≡ Good f → list_on p i ≡ ahead f (list_on f.next (i + 1))
  on-good p i f e =
      on-entry p i ∙ ap (entry_read i (λ g. list_from l (length l) g.next (i + 1))) e
      ∙ ap (ahead f) (enough (length l) (length l - f.next) f.next (i + 1) (omega arith) (omega arith))

  -- ---- a list without malformed lines

  -- fs are the findings of the lines from position p on
  abbrev pub Lines : ℕ → List Finding → Type 0
  Lines p [] = entry_at l p ≡ End
  Lines p (f ∷ fs) = (entry_at l p ≡ Good f) × Lines f.next fs

  from-lines : (x p i : ℕ) (fs : List Finding) → length l ≤ p + x → list_from l x p i ≡ Sound fs → Lines p fs
  unfolding list_from
  from-lines zero p i [] h e = sym (entry-end l p (omega arith))
  from-lines zero p i (f ∷ fs) h e = absurd (let z : ◌≡◌ {A = ℕ} 0 1 = cc in omega arith)
  from-lines (suc x) p i fs h e = go (entry_at l p) refl e (λ f g m k. from-lines x f.next (i + 1) g (omega arith) k)
    where
      rest : (f : Finding) → entry_at l p ≡ Good f → (g : Listing) → ahead f g ≡ Sound fs → ((gs : List Finding) → g ≡ Sound gs → Lines f.next gs)
          → Lines p fs
      rest f a (Faulty line) b ih = absurd (let z : ◌≡◌ {A = ℕ} 0 1 = cc in omega arith)
      rest f a (Sound gs) b ih = let q : f ∷ gs ≡ fs = cc in subst (Lines p) q (a, ih gs refl)

      none : Sound [] ≡ Sound fs → [] ≡ fs
      none k = cc

      go : (r : Entry) → entry_at l p ≡ r → entry_read i (λ f. list_from l x f.next (i + 1)) r ≡ Sound fs
          → ((f : Finding) (gs : List Finding) → p < f.next → list_from l x f.next (i + 1) ≡ Sound gs → Lines f.next gs) → Lines p fs
      go End a b ih = subst (Lines p) (none b) a
      go Bad a b ih = absurd (let z : ◌≡◌ {A = ℕ} 0 1 = cc in omega arith)
      go (Good f) a b ih = rest f a (list_from l x f.next (i + 1)) b (λ gs k. ih f gs (omega (arith, (entry_next l p f a).0)) k)

  pub sound-lines : (fs : List Finding) → read_list l ≡ Sound fs → Lines 0 fs
  sound-lines fs e = from-lines (length l) 0 1 fs (omega arith) e

  -- what stands where the next line does
  pub lines_end : (p : ℕ) (fs : List Finding) → Lines p fs → entry_at l p ≡ End → fs ≡ []
  lines_end p [] h e = refl
  lines_end p (f ∷ fs) h e = absurd (let a = h.0 in let z : ◌≡◌ {A = ℕ} 0 1 = cc in omega arith)

  pub lines-bad : (p : ℕ) (fs : List Finding) → Lines p fs → entry_at l p ≡ Bad → ⊥
  lines-bad p [] h e = let z : ◌≡◌ {A = ℕ} 0 1 = cc in omega arith
  lines-bad p (f ∷ fs) h e = let a = h.0 in let z : ◌≡◌ {A = ℕ} 0 1 = cc in omega arith

  pub lines-good : (p : ℕ) (fs : List Finding) (f : Finding) → Lines p fs → entry_at l p ≡ Good f → (gs : List Finding) × (fs ≡ f ∷ gs) × Lines f.next gs
  lines-good p [] f h e = absurd (let z : ◌≡◌ {A = ℕ} 0 1 = cc in omega arith)
  lines-good p (g ∷ gs) f h e =
      let a = h.0 in
      let q : g ≡ f = cc in
      (gs, ap (λ (x : Finding). x ∷ gs) q, subst (λ (x : Finding). Lines x.next gs) q h.1)

  -- they stand in the list, from p on, and each after those before it
  lines_from : (p : ℕ) (fs : List Finding) → Lines p fs → (f : Finding) → Memᴰ f fs → (p ≤ f.from) × InList l f
  lines_from p [] h f m = absurd (Memᴰ.not-nil m)
  lines_from p (g ∷ fs) h f m = go (Memᴰ.cases_cons m) (λ k. lines_from g.next fs h.1 f k)
    where
      go : (f ≡ g) ⊎ Memᴰ f fs → (Memᴰ f fs → (g.next ≤ f.from) × InList l f) → (p ≤ f.from) × InList l f
      go (inl e) ih =
          let a : entry_at l p ≡ Good f = h.0 ∙ ap Good (sym e) in
          (omega (arith, entry-from l p f a), entry_in l p f a)
      go (inr k) ih = let w = ih k in (omega (arith, w.0, (entry_next l p g h.0).0), w.1)

  pub lines-in : (fs : List Finding) → Lines 0 fs → (f : Finding) → Memᴰ f fs → InList l f
  lines-in fs h f m = (lines_from 0 fs h f m).1

  pub lines-later : (p : ℕ) (fs : List Finding) → Lines p fs → Rising Later fs
  lines-later p [] h = tt
  lines-later p (f ∷ fs) h = (
    λ g m. let a = entry-from l p f h.0 in omega (arith, (lines_from f.next fs h.1 g m).0, (entry_next l p f h.0).0),
    lines-later f.next fs h.1,
  )
