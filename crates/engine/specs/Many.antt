-- Many vertices with one judgement of the lists, ours: each as `vertex` answers it, in a row of six numbers. What the promise cites: `vertices_of`.
-- `record_row` a record's row · `triple_record` the record at one point · `rows_in` the rows one after the other.
-- Assumes nothing.
use Rattle.std.specs.Prelude.{cond, List, [], ◌∷◌, ℕ, zero, suc, ◌+◌, ◌*◌, leb, ℤ, pos, nat_abs, length, get_or}
use Rattle.std.proofs.lemmas.List.Edits.{sets}
use Rattle.laws.specs.Choices.{unless}
use Rattle.laws.specs.Triples.{triples_in, is_byte}
use Rattle.lattice.specs.Records.{nobody}
use Rattle.lattice.specs.declared.records.Record.{Record}
use Rattle.centres.specs.Centres.{is_listed}
use Rattle.engine.specs.Engine.{left_by, bad_base, vertex_of}

-- a record as six numbers
abbrev pub record_row : Record → List ℤ
record_row r = r.at.a ∷ r.at.b ∷ pos r.at.m.0 ∷ pos r.d ∷ pos r.k ∷ pos r.n.0 ∷ []

abbrev pub row_width : ℕ
row_width = 6

-- the record at triple i of a list a, b, m, a, b, m, .., as `vertex` gives it; all zeros where its m is not in 0..255
unfoldable pub triple_record : List ℤ → List ℤ → List ℤ → ℕ → Record
triple_record cs ps qs i =
    unless (is_byte (get_or qs (3 * i + 2) (pos 0))) nobody
    (vertex_of cs ps (get_or qs (3 * i) (pos 0)) (get_or qs (3 * i + 1) (pos 0)) (nat_abs (get_or qs (3 * i + 2) (pos 0)))).vertex

-- the first k rows put, one after the other
unfoldable pub rows_in : (ℕ → Record) → List ℤ → ℕ → List ℤ
rows_in f out zero = out
rows_in f out (suc k) = sets (rows_in f out k) (row_width * k) (record_row (f k))

pub record RowsAfter : Type 0 where
  pub number : ℕ
  pub rows : List ℤ

abbrev pub rows_after : ℕ → List ℤ → RowsAfter
rows_after n l = record { number = n; rows = l }

-- 2, 21 as `vertex` has them; 13: too little room; nothing is written then. Numbers past the rows stay
unfoldable pub vertices_of : List ℤ → List ℤ → List ℤ → List ℤ → RowsAfter
vertices_of cs ps qs out =
    cond (bad_base cs) (rows_after 2 out)
    (unless (left_by (is_listed cs) ps) (rows_after 21 out)
    (unless (leb (row_width * triples_in qs) (length out)) (rows_after 13 out)
    (rows_after 0 (rows_in (triple_record cs ps qs) out (triples_in qs)))))
