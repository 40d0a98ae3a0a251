-- A file judged. `judged_file` 20, 8, 11, or the table · `records-valid` what is kept is valid · `judged-clash`, `judged-short`, `judged-mended` by what the
-- code meets.
-- Assumes nothing.
use Rattle.std.specs.Prelude.{◌≡◌, ◌⊎◌, Bool, true, false, ℕ, zero, suc, ◌<◌, replicate}
use Rattle.std.proofs.Math.Path.{sym, ap}
use Rattle.std.proofs.Common.{◌∙◌, subst, inl, inr, arith}
use Rattle.std.proofs.Math.Bool.{cond}
use mathlib.Core.List.Memᴰ
use mathlib.Core.List.{List, ◌∷◌, ◌++◌, Memᴰ}
use Rattle.std.proofs.Math.ListN.{length}
use Rattle.lattice.specs.Records.{valid_of}
use Rattle.lattice.specs.declared.records.Record.{Record}
use Rattle.table.specs.Slots.{Table, slots_in, slots_of, cleared_of}
use Rattle.table.specs.Entries.{look_up, records_of}
use Rattle.table.specs.RecordLaws.{apart-fewer}
use Rattle.table.specs.MapLaws.{records-apart, records-looked, records-count, table-slots}
use Rattle.writers.specs.Files.{sorted}
use Rattle.readers.specs.Readers.{Restored, Stopped, restore_all}
use Rattle.readers.specs.Additions.{held-absent}
use Rattle.readers.specs.ReadLaws.{Valid}
use Rattle.readers.specs.RestoreLaws.{stopped-stays}
use Rattle.salvage_lines.specs.OldLines.{piece_at, OldLine, piece_then, salvaged_from, salvaged, kept, clashes}
use Rattle.salvage.specs.Salvage.{once, sorted_lines, filled}
use Rattle.salvage_lines.specs.LinesOn.{Stand, over, dropped, stays, stand, records_on, salvaged-on}
use Rattle.salvage_lines.specs.ClashLaws.{Agree, agree-none, none-agree, Holding, holding-agree}
use Rattle.salvage_lines.specs.Rounds.{Left, Gathers}
use Rattle.salvage.specs.MendLaws.{mended-rises, mended-valid, mem-mended, holding-sorted}
use Rattle.salvage.specs.EnterLaws.{filled-short}
use Rattle.salvage.specs.KeyLaws.{judged_of}
use Rattle.salvage_lines.specs.declared.rounds.Gathered.TheVariants as gathered

-- "20 ..; then 8 and 11": the table of a file's sorted lines and of what they leave out, or the number
unfoldable pub judged_file : List ℕ → List ℕ → Restored
judged_file t f = cond (clashes (kept (salvaged f))) (Stopped 20) (judged_of (filled (sorted_lines (salvaged f)) (cleared_of t)))

-- ---- what is kept is valid

from-valid : (f : List ℕ) (left p : ℕ) → Valid (kept (salvaged_from f left p))
unfolding salvaged_from kept
from-valid f zero p r m = absurd (Memᴰ.not-nil m)
from-valid f (suc left) p r m = go (stand f p) m (λ next k. from-valid f left next r k)
  where
    either : (q : Record) (next : ℕ) → valid_of q ≡ true → (r ≡ q) ⊎ Memᴰ r (kept (salvaged_from f left next))
        → ((next : ℕ) → Memᴰ r (kept (salvaged_from f left next)) → valid_of r ≡ true) → valid_of r ≡ true
    either q next v (inl e) ih = ap valid_of e ∙ v
    either q next v (inr k) ih = ih next k

    go : Stand f p → Memᴰ r (kept (piece_then (λ n. salvaged_from f left n) (piece_at f p)))
        → ((next : ℕ) → Memᴰ r (kept (salvaged_from f left next)) → valid_of r ≡ true) → valid_of r ≡ true
    go (over e) k ih = absurd (Memᴰ.not-nil (subst (λ (x : List OldLine). Memᴰ r (kept x)) (ap (piece_then (λ n. salvaged_from f left n)) e) k))
    go (dropped next w e) k ih = ih next (subst (λ (x : List OldLine). Memᴰ r (kept x)) (ap (piece_then (λ n. salvaged_from f left n)) e) k)
    go (stays q c next w v e) k ih =
        either q next v (Memᴰ.cases_cons (subst (λ (x : List OldLine). Memᴰ r (kept x)) (ap (piece_then (λ n. salvaged_from f left n)) e) k)) ih

pub records-valid : (f : List ℕ) → Valid (kept (salvaged f))
records-valid f = from-valid f (length f) 0

either : (x q : Record) (xs all : List Record) → ((y : Record) → Memᴰ y xs → Memᴰ y all) → Memᴰ q all → (x ≡ q) ⊎ Memᴰ x xs
    → Memᴰ x all
either x q xs all f m (inl e) = subst (λ (y : Record). Memᴰ y all) (sym e) m
either x q xs all f m (inr k) = f x k

-- ---- by what the code meets

module _ (t f : List ℕ) where
  pub judged-clash : clashes (kept (salvaged f)) ≡ true → Stopped 20 ≡ judged_file t f
  unfolding judged_file
  judged-clash e = ap (λ (b : Bool). cond b (Stopped 20) (judged_of (filled (sorted_lines (salvaged f)) (cleared_of t)))) (sym e)

  -- the records from the beginning on are all
  pub all-records : records_on f 0 ≡ kept (salvaged f)
  all-records = ap kept (sym (salvaged-on f))

  -- all lines are taken: nothing clashes
  pub taken_none : (u : List ℕ) → Holding u (records_on f 0) → clashes (kept (salvaged f)) ≡ false
  taken_none u h = sym (ap clashes all-records) ∙ agree-none (records_on f 0) (holding-agree u (records_on f 0) h)

  -- two of them clash
  pub taken-clash : (room : ℕ) (t₁ u : List ℕ) → Gathers f 0 room t₁ gathered.Clashing u → clashes (kept (salvaged f)) ≡ true
  taken-clash room t₁ u h = sym (ap clashes all-records) ∙ h.0

  module _ (e : clashes (kept (salvaged f)) ≡ false) where
    agree : Agree (kept (salvaged f))
    agree = none-agree (kept (salvaged f)) e

    judged-none : judged_of (filled (sorted_lines (salvaged f)) (cleared_of t)) ≡ judged_file t f
    unfolding judged_file
    judged-none = ap (λ (b : Bool). cond b (Stopped 20) (judged_of (filled (sorted_lines (salvaged f)) (cleared_of t)))) (sym e)

    -- all lines are taken: the table's records are theirs
    pub judged-mended : (u : List ℕ) → length u ≡ length t → Holding u (records_on f 0)
        → judged_of (filled (sorted (records_of u)) (cleared_of u)) ≡ judged_file t f
    judged-mended u l h =
        let w : Holding u (kept (salvaged f)) = subst (Holding u) all-records h in
        (λ i. judged_of (filled (holding-sorted (kept (salvaged f)) agree (records-valid f) u w i) (replicate (l i) 255))) ∙ judged-none

    -- they are more than the slots
    pub judged-short : (n : ℕ) → Table t n → (room p : ℕ) (u : List ℕ) → length u ≡ length t → n < room → Left f 0 room p u → Stopped 8 ≡ judged_file t f
    unfolding filled
    judged-short n w room p u l r h =
        let slots : slots_of u ≡ n = ap slots_in l ∙ table-slots t n w in
        let short = h.short (omega arith) in
        let (q, m, absent) = short.0 in
        let all = sorted (once (kept (salvaged f))) in
        let inside : (x : Record) → Memᴰ x (records_on f 0) → Memᴰ x all
        = λ x k. mem-mended (kept (salvaged f)) agree (records-valid f) x (subst (Memᴰ x) all-records k) in
        let whole : (x : Record) → Memᴰ x (h.seen ++ records_on f p) → Memᴰ x all = λ x k. inside x (subst (Memᴰ x) (sym h.whole) k) in
        let o = h.holding.order in
        let held : (x : Record) → Memᴰ x (records_of u) → Memᴰ x all
        = λ x k. whole x (Memᴰ.append_left (records_on f p) (h.holding.only x.at x (records-looked u o x k))) in
        let more = apart-fewer (q ∷ records_of u) all
        ((λ x k z. held-absent (records-looked u o x k) (ap (look_up u) z ∙ absent)), records-apart u o)
        (λ x k. either x q (records_of u) all held (whole q (Memᴰ.append_right h.seen m)) (Memᴰ.cases_cons k)) in
        let long : n < length all = omega (arith, records-count u, short.1) in
        sym (ap judged_of (ap (restore_all all) (filled-short t n w all (mended-rises (kept (salvaged f)) agree (records-valid f))
        (mended-valid (kept (salvaged f)) agree (records-valid f)) long) ∙ stopped-stays all 8)) ∙ judged-none
