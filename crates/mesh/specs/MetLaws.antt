-- One slot more kept: `old-more`, `stopped_more`, as the loops of the tests go · `looked-met`, `looked-missed` what stands at a point, by where the search
-- for it ended.
-- Assumes nothing.
use Rattle.std.specs.Prelude.{◌≡◌, refl, List, ℕ, ◌+◌, ◌<◌, length, get_or, set, None}
use Rattle.std.proofs.Common.{sym, subst, arith, get_or-set_same}
use Rattle.std.proofs.Math.Decide.{dec_lt}
use borrow.Author.Rules.{read_below}
use Rattle.lattice.specs.Stars.{adjacent_at}
use Rattle.lattice.specs.declared.records.Record.{Record}
use Rattle.table.specs.Search.{find_of}
use Rattle.table.specs.Slots.{slot_at}
use Rattle.table.specs.Entries.{look_up, held_in}
use Rattle.table.specs.declared.probe.Found.{Found}
use Rattle.lattice.specs.declared.points.Point.{Point}
use Rattle.table.specs.declared.probe.Found.TheVariants as found
use Rattle.mesh.specs.Met.{OldIn, StoppedAt}

-- a row whose places below j say as much as `told`, with place j written
row_more : (told : ℕ → ℕ → Type 0) (slots : List ℕ) (j i : ℕ) → j < length slots → ((k : ℕ) → k < j → told k (get_or slots k 0)) → told j i
    → (k : ℕ) → k < j + 1 → told k (get_or (set slots j i) k 0)
row_more told slots j i h w e k l = go (dec_lt k j)
  where
    go : Dec (k < j) → told k (get_or (set slots j i) k 0)
    go (yes b) = subst (told k) (sym (read_below ℕ slots j k i 0 (get_or slots k 0) b refl)) (w k b)
    go (no b) =
        let q : k ≡ j = omega arith in
        subst (λ (x : ℕ). told x (get_or (set slots j i) x 0)) (sym q) (subst (told j) (sym (get_or-set_same slots j i 0 h)) e)

pub old-more : (t : List ℕ) (v : Record) (slots : List ℕ) (j i : ℕ) → j < length slots → OldIn t v slots j → find_of t (adjacent_at v j) ≡ found.At i
    → OldIn t v (set slots j i) (j + 1)
old-more t v slots j i h w e = row_more (λ k s. find_of t (adjacent_at v k) ≡ found.At s) slots j i h w e

pub stopped_more : (t : List ℕ) (c : Record) (slots : List ℕ) (j i : ℕ) → j < length slots → StoppedAt t c slots j
    → find_of t (adjacent_at c j) ≡ found.Free i → StoppedAt t c (set slots j i) (j + 1)
stopped_more t c slots j i h w e = row_more (λ k s. find_of t (adjacent_at c k) ≡ found.Free s) slots j i h w e

-- ---- what stands at a point
pub looked-met : (t : List ℕ) (p : Point) (i : ℕ) → found.At i ≡ find_of t p → look_up t p ≡ held_in (slot_at t i)
unfolding look_up
looked-met t p i e = rw (← e)

pub looked-missed : (t : List ℕ) (p : Point) (o : Found) → o ≡ find_of t p → ((i : ℕ) → o ≡ found.At i → ⊥) → look_up t p ≡ None
unfolding look_up
looked-missed t p (found.At i) e n = absurd (n i (λ x. found.At i))
looked-missed t p (found.Free i) e n = rw (← e)
looked-missed t p found.Full e n = rw (← e)
