-- Record by record: what a vertex and its old adjacent vertices were before its subdivision. `former_of` the vertex · `earlier_of` an adjacent one.
-- Assumes nothing.
use Rattle.std.specs.Prelude.{cond, ℕ, ◌+◌, ◌-◌, ◌%◌, eqb}
use Rattle.lattice.specs.declared.records.Record.{Record}

-- v before its subdivision: a level down, the other orientation
abbrev pub former_of : Record → Record
former_of c = record { at = c.at; d = c.d; k = (c.k + 1) % 2; n = record { 0 = c.n.0 - 1 } }

abbrev pub with : Record → ℕ → ℕ → Record
with u d k = record { at = u.at; d = d; k = k; n = u.n }

-- what w was, in whose direction k' the vertex stands: the rules of document 01 read backwards
unfoldable pub earlier_of : ℕ → Record → Record
earlier_of k' w =
    cond (eqb w.d 4) (with w 3 (k' % 4))
    (cond (eqb w.d 5) (with w 4 (cond (eqb w.k ((k' + 4) % 12)) k' ((k' + 8) % 12)))
    (cond (eqb w.d 6) (record { at = w.at; d = 5; k = k'; n = record { 0 = w.n.0 - 1 } })
    w))
