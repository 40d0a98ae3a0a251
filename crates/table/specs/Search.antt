-- Document 01, "Table in memory", from "The home slot" to "until it meets the point or a free slot or has seen all".
-- `home_of` · `same_point`, the lattice's, passed on here · `search_from` a search of a ring of slots, `seek` that of a point, `find_of` that of a point in a
-- table's bytes.
-- Assumes nothing.
unfoldable pub use Rattle.lattice.specs.Points.{same_point}
use Rattle.lattice.specs.declared.records.Record.{Record}
use Rattle.std.specs.Prelude.{cond, List, ℕ, zero, suc, ◌+◌, eqb, ℤ, pos, ◌+ℤ◌, ◌*ℤ◌, Option, Some, None}
use Rattle.laws.specs.Residue.{mod_z}
use Rattle.lattice.specs.declared.points.Point.{Point}
use Rattle.table.specs.Slots.{slots_of, slot_at}
use Rattle.table.specs.declared.probe.Meet.{Meet}
use Rattle.table.specs.declared.probe.Meet.TheVariants.{Hit, Gap, Other}
use Rattle.table.specs.declared.probe.Found.{Found}
use Rattle.table.specs.declared.probe.Found.TheVariants as found

-- "(7919a + 104729b + m)"
abbrev pub weight_of : ℤ → ℤ → ℕ → ℤ
weight_of a b m = pos 7919 *ℤ a +ℤ pos 104729 *ℤ b +ℤ pos m

-- "The home slot is (7919a + 104729b + m) mod the number of slots, never negative."
unfoldable pub home_of : Point → ℕ → ℕ
home_of p n = mod_z (weight_of p.a p.b p.m.0) n

-- what a search for p meets in a slot
abbrev pub meets : Option Record → Point → Meet
meets None p = Gap
meets (Some r) p = cond (same_point r.at p) Hit Other

-- "goes on, wrapping": the slot after slot i of n
abbrev pub next : ℕ → ℕ → ℕ
next n i = cond (eqb (i + 1) n) 0 (i + 1)

-- where the search ends that meets m in slot i, and would end at o if it went on
abbrev pub settle : Meet → ℕ → Found → Found
settle Hit i o = found.At i
settle Gap i o = found.Free i
settle Other i o = o

-- "goes on, wrapping, until it meets the point or a free slot or has seen all": from slot i on, over as many slots as are left
unfoldable pub search_from : (ℕ → Meet) → ℕ → ℕ → ℕ → Found
search_from look n i zero = found.Full
search_from look n i (suc left) = let o = search_from look n (next n i) left in settle (look i) i o

-- "A search starts at its home slot": the search for p in n slots, of which slot i is `f i`
abbrev pub seek : ℕ → (ℕ → Option Record) → Point → Found
seek n f p = search_from (λ i. meets (f i) p) n (home_of p n) n

-- the search for p in a table
unfoldable pub find_of : List ℕ → Point → Found
find_of t p = seek (slots_of t) (slot_at t) p
