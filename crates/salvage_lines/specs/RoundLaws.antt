-- Rounds, one after the other: `Searching` the lines before a position clash with nothing. `searching-start`, `searching-all`, `searching-clash`,
-- `searching-against`, `searching-on` · `cleared-again` a cleared table.
-- Assumes nothing.
use Rattle.std.specs.Prelude.{◌≡◌, refl, true, false, List, ℕ, ◌≤◌, length, replicate}
use Rattle.std.proofs.Common.{sym, ap, ◌∙◌, arith}
use Rattle.laws.specs.Some.{some_of, some_at}
use Rattle.table.specs.Slots.{cleared_of}
use Rattle.table.specs.MapLaws.{clear-length}
use Rattle.salvage_lines.specs.OldLines.{OldLine, salvaged, kept, clashes}
use Rattle.salvage_lines.specs.LinesOn.{records_on, salvaged-on}
use Rattle.salvage_lines.specs.ClashLaws.{agree-none, holding-agree, against, against-clashes, ahead-clashes}
use Rattle.salvage_lines.specs.Rounds.{Left, Gathers}
use Rattle.salvage_lines.specs.declared.rounds.Gathered.TheVariants as gathered

pub cleared-again : (t u : List ℕ) → u ≡ cleared_of t → u ≡ cleared_of u
cleared-again t u e = e ∙ ap (λ (n : ℕ). replicate n 255) (sym (ap length e ∙ clear-length t))

-- what is left from p on clashes where the whole does
pub record Searching (f t₀ : List ℕ) (p : ℕ) (t : List ℕ) : Type 0 where
  pub same : clashes (records_on f p) ≡ clashes (kept (salvaged f))
  pub within : p ≤ length f
  pub long : length t ≡ length t₀

pub searching-start : (f t : List ℕ) → Searching f t 0 t
searching-start f t = record { same = ap (λ (ms : List OldLine). clashes (kept ms)) (sym (salvaged-on f)); within = omega arith; long = refl }

module _ (f t₀ : List ℕ) (p : ℕ) (t : List ℕ) (s : Searching f t₀ p t) (room : ℕ) (t₁ u : List ℕ) where
  pub searching-all : Gathers f p room t₁ gathered.All u → false ≡ clashes (kept (salvaged f))
  searching-all h = sym (agree-none (records_on f p) (holding-agree u (records_on f p) h.0)) ∙ s.same

  pub searching-clash : Gathers f p room t₁ gathered.Clashing u → true ≡ clashes (kept (salvaged f))
  searching-clash h = sym h.0 ∙ s.same

  module _ (next : ℕ) (h : Left f p room next u) where
    pub searching-against : some_of (against u) (records_on f next) ≡ true → true ≡ clashes (kept (salvaged f))
    searching-against e =
        let (r, m, d) = some_at (against u) (records_on f next) e in
        sym (ap clashes h.whole ∙ against-clashes u h.seen (records_on f next) h.holding r m d) ∙ s.same

    pub searching-on : some_of (against u) (records_on f next) ≡ false → length u ≡ length t₀ → Searching f t₀ next u
    searching-on e l = record {
      same = sym (ap clashes h.whole ∙ ahead-clashes u h.seen (records_on f next) h.holding e) ∙ s.same;
      within = h.moves.1;
      long = l;
    }
