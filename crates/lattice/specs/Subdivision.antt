-- Document 01, "Subdivision of v (d 6, orientation k, level n)", record by record: what becomes of v, of its old adjacent vertices, and what enters.
-- No mesh is needed to say it; the floor `mesh` says where these records stand. `centre_of`, `born_of`, `new_of`, `back_of`, `update_of` ·
-- `accepts_of` the part of "Torn" that one record decides.
-- Assumes nothing.
use Rattle.std.specs.Prelude.{Bool, true, false, cond, ◌&&◌, ◌||◌, ℕ, ◌+◌, ◌*◌, ◌%◌, eqb}
use Rattle.lattice.specs.Stars.{adjacent_at}
use Rattle.lattice.specs.declared.records.Record.{Record}

-- "v gets level n+1 and orientation (k+1) mod 2."
abbrev pub centre_of : Record → Record
centre_of v = record { at = v.at; d = v.d; k = (v.k + 1) % 2; n = record { 0 = v.n.0 + 1 } }

-- the vertex that place j of a degree 6 star starts with: "d 3, level n, orientation (6+2j+k) mod 4"
abbrev pub born_of : Record → ℕ → Record
born_of c j = record { at = adjacent_at c j; d = 3; k = (6 + 2 * j + c.k) % 4; n = c.n }

-- "Six records enter, in the order of v's new star with that orientation q: the j-th has d 3, level n+1, orientation (6+2j+q) mod 4."
abbrev pub new_of : Record → ℕ → Record
new_of v j = born_of (centre_of v) j

-- "the old adjacent u at place j, with k' = (6+2j+k) mod 12"
abbrev pub back_of : ℕ → ℕ → ℕ
back_of k j = (6 + 2 * j + k) % 12

abbrev with : Record → ℕ → ℕ → Record
with u d k = record { at = u.at; d = d; k = k; n = u.n }

-- "d 4 becomes d 5 with k'+4 if u's k equals k', and with k'-4 if u's k plus 4 equals k'."
abbrev pub four_turn : ℕ → ℕ → ℕ
four_turn k' k = cond (eqb k k') ((k' + 4) % 12) ((k' + 8) % 12)

-- "boundary u stays. d 3 becomes d 4 with k'+4. .. d 5 becomes d 6, level up by one, orientation (k'+1) mod 2. Sums of orientations are mod 12."
unfoldable pub update_of : ℕ → Record → Record
update_of k' u =
    cond (eqb u.d 3) (with u 4 ((k' + 4) % 12))
    (cond (eqb u.d 4) (with u 5 (four_turn k' u.k))
    (cond (eqb u.d 5) (record { at = u.at; d = 6; k = (k' + 1) % 2; n = record { 0 = u.n.0 + 1 } })
    u))

-- "an internal adjacent has d 6, .. or no rule above for its k' (d 3 needs k' mod 4 = k, d 5 needs k' = k)"
abbrev pub has_rule : ℕ → ℕ → ℕ → Bool
has_rule k' d k =
    cond (eqb d 3) (eqb (k' % 4) k)
    (cond (eqb d 4) (eqb k k' || eqb ((k + 4) % 12) k')
    (cond (eqb d 5) (eqb k' k)
    false))

-- an adjacent vertex that tears nothing: a boundary vertex, or an internal one of level n with a rule
unfoldable pub accepts_of : ℕ → ℕ → Record → Bool
accepts_of k' n u = cond (eqb u.d 0) true (eqb u.n.0 n && has_rule k' u.d u.k)
