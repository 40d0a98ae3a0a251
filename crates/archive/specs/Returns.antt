-- What it is that a mesh comes back: `Returns`, `accepted-returns` · `both-within` two tables, each with what the other holds, hold the same ·
-- `rising-apart` records that rise have each a point of their own.
-- Assumes nothing.
use Rattle.std.specs.Prelude.{◌≡◌, refl, List, [], ◌∷◌, ℕ, length, Option, Some, None}
use Rattle.std.proofs.Common.{sym, ap, ◌∙◌, arith}
use mathlib.Core.List.Memᴰ
use Rattle.lattice.specs.declared.points.Point.{Point}
use Rattle.lattice.specs.declared.records.Record.{Record}
use Rattle.table.specs.Order.{InOrder}
use Rattle.table.specs.Entries.{look_up, records_of}
use Rattle.table.specs.MapLaws.{Apart, records-same}
use Rattle.sorting.specs.SortLaws.{Rising}
use Rattle.text.specs.LineOrder.{order_of}
use Rattle.writers.specs.FileLaws.{Before}
use Rattle.readers.specs.Readers.{TablesAfter, accepted}
use Rattle.readers.specs.Additions.{held-absent}
use Rattle.readers.specs.ReadLaws.{Valid, before-order}
use Rattle.readers.specs.RestoreLaws.{Within}

-- the records of table t come back: number 0, line 0, and the reader's table is in order, has the same record as t at every point, and as many of them
pub record Returns (t : List ℕ) (o : TablesAfter) : Type 0 where
  pub number : o.number ≡ 0
  pub line : o.line ≡ 0
  pub order : InOrder o.table
  pub same : (p : Point) → look_up o.table p ≡ look_up t p
  pub count : length (records_of o.table) ≡ length (records_of t)

pub accepted-returns : (t w s : List ℕ) → InOrder t → InOrder w → ((p : Point) → look_up w p ≡ look_up t p) → Returns t (accepted w s)
accepted-returns t w s o v e = record { number = refl; line = refl; order = v; same = e; count = records-same w t v o e }

-- ---- two tables, each with what the other holds, hold the same
pub both-within : (t u : List ℕ) → Within t u → Within u t → (p : Point) → look_up t p ≡ look_up u p
both-within t u f g p = go (look_up t p) (look_up u p) refl refl
  where
    go : (k l : Option Record) → look_up t p ≡ k → look_up u p ≡ l → look_up t p ≡ look_up u p
    go None None e h = e ∙ sym h
    go (Some r) l e h = e ∙ sym (f p r e)
    go None (Some r) e h = held-absent (g p r h) e

-- ---- records that rise have each a point of their own
pub rising-apart : (rs : List Record) → Rising Before rs → Valid rs → Apart rs
rising-apart [] h v = tt
rising-apart (r ∷ rs) h v = (
  λ q m e. (let l = before-order r q (v r (Memᴰ.head refl)) (v q (Memᴰ.tail m)) (h.0 q m) in let k : order_of q.at
      ≡ order_of r.at = ap order_of e in omega arith),
  rising-apart rs h.1 (λ q m. v q (Memᴰ.tail m)),
)
