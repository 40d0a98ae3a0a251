-- The slots that vertices of degree 6 name.
-- `star_finds`, `slot_finds`, `table_finds` · `six-inner` one of a table in order is an inner vertex.
-- Assumes nothing.
use Rattle.std.specs.Prelude.{◌≡◌, Bool, false, ◌&&◌, List, ℕ, ◌<◌, eqb, Option, Some, None}
use Rattle.std.proofs.Common.{sym, ◌∙◌, arith}
use Rattle.laws.specs.Choices.{of-true}
use Rattle.laws.specs.Rules.{among}
use Rattle.lattice.specs.RecordLaws.{Inner, inner}
use Rattle.lattice.specs.Stars.{adjacent_at}
use Rattle.lattice.specs.declared.records.Record.{Record}
use Rattle.table.specs.Slots.{slots_of, slot_at}
use Rattle.table.specs.Search.{find_of}
use Rattle.table.specs.Order.{InOrder, is_at}

-- the search for one of the first k adjacent points of v ends at slot i
abbrev pub star_finds : List ℕ → Record → ℕ → ℕ → Bool
star_finds t v k i = among k (λ j. is_at (find_of t (adjacent_at v j)) i)

-- a slot holds a vertex of degree 6, and one of its adjacent points is in slot i
abbrev pub slot_finds : List ℕ → Option Record → ℕ → Bool
slot_finds t None i = false
slot_finds t (Some v) i = eqb v.d 6 && star_finds t v 6 i

-- one of the first n slots holds such a vertex
abbrev pub table_finds : List ℕ → ℕ → ℕ → Bool
table_finds t n i = among n (λ k. slot_finds t (slot_at t k) i)

module _ (t : List ℕ) (i : ℕ) (v : Record) (held : slot_at t i ≡ Some v) where
  pub six-inner : InOrder t → i < slots_of t → v.d ≡ 6 → Inner v
  six-inner o l e = inner v (of-true (o.valid i v l held)) (λ z. let q : ◌≡◌ {A = ℕ} 6 0 = sym e ∙ z in omega arith)
