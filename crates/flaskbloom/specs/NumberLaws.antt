-- A row of numbers as the code fills it: `row_back` a point's numbers, in a row of their own, `record-back` a record's.
-- Assumes nothing.
use Rattle.std.specs.Prelude.{◌≡◌, [], ◌∷◌, ℕ, ◌<◌, pos}
use Rattle.std.proofs.Common.{arith, SFits, to_z, of_z}
use Rattle.std.specs.Int.{w32}
use Rattle.std.proofs.lemmas.Int.{to_z-of_z, to_z_pos}
use Rattle.lattice.specs.declared.points.Point.{Point}
use Rattle.lattice.specs.declared.records.Record.{Record}
use Rattle.engine.specs.Many.{record_row}
use Rattle.flaskbloom.specs.Numbers.{point_numbers}

-- a byte
back-byte : (x : ℕ) → x < 256 → to_z w32 x ≡ pos x
back-byte x h = to_z_pos w32 x (omega arith)

-- a row of three
pub row_back : (p : Point) → SFits w32 p.a → SFits w32 p.b → p.m.0 < 256
    → to_z w32 (of_z w32 p.a) ∷ to_z w32 (of_z w32 p.b) ∷ to_z w32 p.m.0 ∷ [] ≡ point_numbers p
row_back p fa fb fm = λ i. to_z-of_z w32 p.a fa i ∷ to_z-of_z w32 p.b fb i ∷ back-byte p.m.0 fm i ∷ []

-- a row of six
pub record-back : (r : Record) → SFits w32 r.at.a → SFits w32 r.at.b → r.at.m.0 < 256 → r.d < 256 → r.k < 256 → r.n.0 < 256
    → (to_z w32 (of_z w32 r.at.a) ∷ to_z w32 (of_z w32 r.at.b) ∷ to_z w32 r.at.m.0 ∷ to_z w32 r.d ∷ to_z w32 r.k ∷ to_z w32 r.n.0 ∷ [])
    ≡ record_row r
record-back r fa fb fm fd fk fn = λ i.
    to_z-of_z w32 r.at.a fa i ∷ to_z-of_z w32 r.at.b fb i ∷ back-byte r.at.m.0 fm i ∷ back-byte r.d fd i ∷ back-byte r.k fk i
    ∷ back-byte r.n.0 fn i ∷ []
