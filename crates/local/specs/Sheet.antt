-- A table as the model sees it: what looking points up answers. `sheet_of` · `held-there` a point is there ·
-- `passes_all` every record of a table passes the local test.
-- Assumes nothing.
use Rattle.std.specs.Prelude.{◌≡◌, refl, Bool, List, ℕ, Option, Some, None}
use Rattle.std.proofs.Common.{ap, ◌∙◌}
use Rattle.growth.specs.Sheets.{Sheet}
use Rattle.growth.specs.Local.{is_there, there}
use Rattle.growth.specs.Growth.{grown_test}
use Rattle.table.specs.Entries.{look_up, is_held, holds, records_of}
use Rattle.lattice.specs.declared.points.Point.{Point}
use Rattle.lattice.specs.declared.records.Record.{Record}

abbrev pub as_option : Option Record → Option Record
as_option None = None
as_option (Some r) = Some r

-- the record at each point of a table
abbrev pub sheet_of : List ℕ → Sheet
sheet_of t p = as_option (look_up t p)

-- a point that the table holds is there, under another name too
pub held-there : (t : List ℕ) {p q : Point} → p ≡ q → holds t p ≡ there (sheet_of t) q
unfolding there
held-there t {p} {q} e = ap (holds t) e ∙ go (look_up t q)
  where
    go : (l : Option Record) → is_held l ≡ is_there (as_option l)
    go None = refl
    go (Some r) = refl

-- there is a record, and each passes
unfoldable pub passes_all : List ℕ → Bool
passes_all t = grown_test (sheet_of t) (records_of t)
