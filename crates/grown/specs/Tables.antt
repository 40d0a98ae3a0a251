-- The tables that document 01's calls make have the model's sheets: `reached-order`, `reached-sheet`, `grown-sheet`.
-- A table in order is its sheet, given by its records: `table-listed`. So a grown table passes the local test, and what passes has a sheet that is
-- grown: `grown-checked`, `test-sheet`.
-- Assumes nothing.
use Rattle.std.proofs.Common.{sym, ap}
use Rattle.std.specs.Prelude.{List, ℕ, T}
use Rattle.laws.specs.Choices.{of-true}
use Rattle.growth.specs.Growth.{Listed, grown-alike, grown-test, test-grown}
use Rattle.growth.specs.Sheets.{start, grow, GrownSheet}
use Rattle.table.specs.Entries.{look_up, records_of}
use Rattle.table.specs.MapLaws.{lookup-point, lookup-valid, records-looked, looked-records}
use Rattle.table.specs.Order.{InOrder}
use Rattle.base.specs.Base.{is_listed, base_of}
use Rattle.base.specs.BaseLaws.{base-order}
use Rattle.mesh.specs.Grown.{Reached, laid, divided, Grown}
use Rattle.mesh.specs.Subdivide.{subdivide_of}
use Rattle.local.specs.Sheet.{as_option, sheet_of, passes_all}
use Rattle.grown.specs.Bases.{base-sheet, base-model}
use Rattle.grown.specs.Steps.{sheet-held, accepted}

-- ---- a table that the calls make
pub reached-order : (t : List ℕ) → Reached t → InOrder t
reached-order _ (laid t cs z) = base-order t cs z
reached-order _ (divided t r a b m z) = (accepted t a b m z).kept

pub reached-sheet : (t : List ℕ) → Reached t → GrownSheet (sheet_of t)
reached-sheet _ (laid t cs z) = start (is_listed cs) (sheet_of (base_of t cs).bytes) (base-model t cs z) (base-sheet t cs z)
reached-sheet _ (divided t r a b m z) =
    let s = accepted t a b m z in
    grow (sheet_of t) s.vertex (sheet_of (subdivide_of t a b m).bytes) (reached-sheet t r) (ap as_option s.held) s.six s.below s.whole s.step

pub grown-sheet : (t : List ℕ) → Grown t → GrownSheet (sheet_of t)
grown-sheet t g = grown-alike (sheet_of g.table) (sheet_of t) (λ p. ap as_option (sym (g.same p))) (reached-sheet g.table g.reached)

-- ---- a table in order is what its records say
pub table-listed : (t : List ℕ) → InOrder t → Listed (sheet_of t) (records_of t)
table-listed t o =
    record {
      holds = λ r m. ap as_option (records-looked t o r m);
      held = λ p r e. (let h = sheet-held (look_up t p) r e in (lookup-point t o p r h, looked-records t o p r h));
      valid = λ r m. of-true (lookup-valid t o r.at r (records-looked t o r m));
    }

-- ---- the local test
pub sheet-test : (t : List ℕ) → InOrder t → GrownSheet (sheet_of t) → T (passes_all t)
unfolding passes_all
sheet-test t o g = grown-test (sheet_of t) (records_of t) (table-listed t o) g

pub test-sheet : (t : List ℕ) → InOrder t → T (passes_all t) → GrownSheet (sheet_of t)
unfolding passes_all
test-sheet t o h = test-grown (sheet_of t) (records_of t) (table-listed t o) h

pub grown-checked : (t : List ℕ) → Grown t → T (passes_all t)
grown-checked t g = sheet-test t g.order (grown-sheet t g)
