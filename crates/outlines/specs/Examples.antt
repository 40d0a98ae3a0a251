-- Document 02, ticket 9, computed from the definitions, the rounded operations too: positions, values, which numbers fit, and passes on document 01's
-- "Three".
-- Assumes nothing.
use Rattle.std.specs.Prelude.{◌≡◌, refl, true, false, List, [], ◌∷◌, ℕ, ◌*◌, ℤ, pos, negsuc, length, replicate, Float}
use Rattle.std.specs.Float.{binary64}
use Rattle.std.specs.Float.Ieee.{add, sub, mul, div, neg, lt, le, eq, of_int, of_bits, of_fields, odd, round, units, size, span, climb, sum}
use Rattle.std.specs.Int.Count.{count_trailing_zeros}
use Rattle.laws.specs.Words.{word_at}
use Rattle.base.specs.Base.{listed_in, first_bad, internal, corner_record, hexagon_of, lay_hexagon, lay_all, laid_of, base_of}
use Rattle.lattice.specs.Patterns.{rows_of, pattern_of, orient}
use Rattle.lattice.specs.Subdivision.{update_of, accepts_of}
use Rattle.lattice.specs.Points.{pt, normal_of, turns}
use Rattle.lattice.specs.declared.records.Record.{Record}
use Rattle.table.specs.Search.{home_of, same_point, search_from, find_of}
use Rattle.table.specs.Entries.{look_up, enter_of, replace_of, records_below, records_of}
use Rattle.table.specs.Order.{placed_at, all_placed, in_order_of}
use Rattle.table.specs.Slots.{slot_width, slots_in, free_at, record_at, slot_at, record_bytes, put_slot, free_below}
use Rattle.text.specs.LineOrder.{earlier}
use Rattle.sorting.specs.Sorting.{insert_by, sort_by}
use Rattle.writers.specs.Files.{leave_out}
use Rattle.mesh.specs.Subdivide.{torn, renewed_to, entered_to, subdivided, onwards}
use Rattle.outlines.specs.declared.values.Outline.{Outline}
use Rattle.outlines.specs.declared.values.Outline.TheVariants.{Disc, Line}
use Rattle.outlines.specs.Outlines.{root3, position_of, value_of, nought, below_at, crosses_at, wanted, step_at, each_of, pass_of, passes_from}
use Rattle.outlines.specs.Outlines.{thousand, is_finite, beyond, number_fits, outline_fits, request_fits, request_of}

abbrev bits : ℕ → Float
bits b = of_bits binary64 b

-- y turns on the spelling, so a point is normalised first: of [0, 1, 0] it is 0.8660254037844386, of [0, 3, 1] it would be 0.8660254037844387
spelling :
    ((position_of (pt (pos 0) (pos 1) 0)).y ≡ bits 4605975682916830378)
    × ((position_of (pt (pos 0) (pos 3) 1)).y ≡ bits 4605975682916830379)
unfolding root3 div mul of_int of_bits of_fields odd round units size span climb
spelling = (refl, refl)

-- the line 0.2, 1.5, 1.599038105676658 at [1, 1, 0]: exactly it is below zero, by 1.4e-16; rounded step by step it is 0, and not below
rounded :
    (value_of (Line (bits 4596373779694328218) (bits 4609434218613702656) (bits 4609880246589523533)) (position_of (pt (pos 1) (pos 1) 0)) ≡ bits 0)
    × (below_at (Line (bits 4596373779694328218) (bits 4609434218613702656) (bits 4609880246589523533)) (pt (pos 1) (pos 1) 0) ≡ false)
unfolding below_at nought value_of root3 add sub neg mul div lt of_int of_bits of_fields odd round units size span climb sum count_trailing_zeros
rounded = (refl, refl)

-- [1, 2, 1]: 0.6666666666666666 and 0.5773502691896257
placed : ((position_of (pt (pos 1) (pos 2) 1)).x ≡ bits 4604180019048437077) × ((position_of (pt (pos 1) (pos 2) 1)).y ≡ bits 4603375528459645724)
unfolding root3 div mul of_int of_bits of_fields odd round units size span climb
placed = (refl, refl)

-- the disc -0.3, -0.3, 1.305445494569403 there: 0, and not below; with r×r taken off either square first it would be below
round-disc :
    (value_of (Disc (bits 13822447976325526323) (bits 13822447976325526323) (bits 4608558023015542168)) (position_of (pt (pos 1) (pos 2) 1)) ≡ bits 0)
    × (below_at (Disc (bits 13822447976325526323) (bits 13822447976325526323) (bits 4608558023015542168)) (pt (pos 1) (pos 2) 1) ≡ false)
unfolding below_at nought value_of root3 add sub neg mul div lt of_int of_bits of_fields odd round units size span climb sum count_trailing_zeros
round-disc = (refl, refl)

-- [1, 0, 0] of "Three"
abbrev six : Record
six = record { at = pt (pos 1) (pos 0) 0; d = 6; k = 0; n = record { 0 = 0 } }

-- that line lists it, below level 1 but not below level 0; so does 0, 1, 0.8660254037844386, at which two far ends are 0 and the rest below, and not the same
-- line turned round
listed :
    (wanted (Line (bits 4596373779694328218) (bits 4609434218613702656) (bits 4609880246589523533)) 1 six ≡ true)
    × (wanted (Line (bits 4596373779694328218) (bits 4609434218613702656) (bits 4609880246589523533)) 0 six ≡ false)
    × (wanted (Line (bits 0) (bits 4607182418800017408) (bits 4605975682916830378)) 12 six ≡ true)
    × (wanted (Line (bits 0) (bits 13830554455654793216) (bits 13829347719771606186)) 12 six ≡ false)
unfolding wanted crosses_at below_at nought value_of root3 add sub neg mul div lt of_int of_bits of_fields odd round units size span climb sum count_trailing_zeros
    orient pattern_of rows_of turns normal_of
listed = (refl, refl, refl, refl)

-- 17: 1,000 fits, either way, and the next number above does not; nor does what is not finite; a radius of 0 or of -0 is not above zero, the least number is
fitting :
    (number_fits (bits 4652007308841189376) ≡ true)
    × (number_fits (bits 13875379345695965184) ≡ true)
    × (number_fits (bits 4652007308841189377) ≡ false)
    × (number_fits (bits 9218868437227405312) ≡ false)
    × (number_fits (bits 9221120237041090560) ≡ false)
    × (outline_fits (Disc (bits 0) (bits 0) (bits 0)) ≡ false)
    × (outline_fits (Disc (bits 0) (bits 0) (bits 9223372036854775808)) ≡ false)
    × (outline_fits (Disc (bits 0) (bits 0) (bits 1)) ≡ true)
    × (request_fits (Line (bits 0) (bits 0) (bits 0)) 12 12 ≡ true)
    × (request_fits (Line (bits 0) (bits 0) (bits 0)) 13 12 ≡ false)
    × (request_fits (Line (bits 0) (bits 0) (bits 0)) 12 13 ≡ false)
unfolding request_fits outline_fits number_fits is_finite beyond thousand nought neg le lt eq of_bits of_fields odd count_trailing_zeros
fitting = (refl, refl, refl, refl, refl, refl, refl, refl, refl, refl, refl)

three : ℕ → List ℕ
three n = (base_of (replicate (slot_width * n) 255) (pos 0 ∷ pos 0 ∷ pos 1 ∷ pos 1 ∷ pos 2 ∷ negsuc 0 ∷ [])).bytes

-- the disc 1, 0, 0.3 round [1, 0, 0]
abbrev pit : Outline
pit = Disc (bits 4607182418800017408) (bits 0) (bits 4599075939470750515)

-- "Three" in 22 slots: one pass is made, the second refused with 8
passes :
    ((request_of (three 22) pit 1 12).number ≡ 0)
    × ((request_of (three 22) pit 2 12).number ≡ 8)
    × ((request_of (three 22) pit 2 12).done ≡ 1)
    × (length (records_of (request_of (three 22) pit 2 12).bytes) ≡ 22)
unfolding three request_of request_fits outline_fits number_fits is_finite beyond thousand passes_from pass_of each_of onwards wanted crosses_at below_at nought value_of root3 add sub
    neg mul div lt le eq of_int of_bits of_fields odd round units size span climb sum count_trailing_zeros leave_out sort_by insert_by earlier subdivided torn renewed_to
    entered_to update_of accepts_of base_of first_bad laid_of lay_all lay_hexagon hexagon_of corner_record internal listed_in normal_of turns orient pattern_of rows_of
    in_order_of all_placed placed_at look_up enter_of replace_of records_below find_of search_from slot_at free_at record_at put_slot record_bytes slots_in home_of same_point
    word_at free_below
passes = (refl, refl, refl, refl)

-- in 28 slots two passes are made, the third refused
more :
    ((request_of (three 28) pit 3 12).number ≡ 8)
    × ((request_of (three 28) pit 3 12).done ≡ 2)
    × (length (records_of (request_of (three 28) pit 3 12).bytes) ≡ 28)
unfolding three request_of request_fits outline_fits number_fits is_finite beyond thousand passes_from pass_of each_of onwards wanted crosses_at below_at nought value_of root3 add sub
    neg mul div lt le eq of_int of_bits of_fields odd round units size span climb sum count_trailing_zeros leave_out sort_by insert_by earlier subdivided torn renewed_to
    entered_to update_of accepts_of base_of first_bad laid_of lay_all lay_hexagon hexagon_of corner_record internal listed_in normal_of turns orient pattern_of rows_of
    in_order_of all_placed placed_at look_up enter_of replace_of records_below find_of search_from slot_at free_at record_at put_slot record_bytes slots_in home_of same_point
    word_at free_below
more = (refl, refl, refl)

-- ---- whether a listed vertex is torn can turn on the earlier ones: a table that no mesh is
vertex : ℤ → ℤ → ℕ → ℕ → ℕ → ℕ → Record
vertex a b m d k n = record { at = pt a b m; d = d; k = k; n = record { 0 = n } }

enter_all : List ℕ → List Record → List ℕ
enter_all t [] = t
enter_all t (r ∷ rs) = enter_all (enter_of t r) rs

abbrev coarse : Record
coarse = vertex (pos 0) (pos 0) 0 6 0 0

abbrev fine : Record
fine = vertex (pos 2) (pos 2) 2 6 0 2

-- [0, 0, 0] of level 0 and [2, 2, 2] of level 2, each amid six vertices of degree 3 as it wants them; both would enter [1, 1, 1]
apart : List ℕ
apart =
    enter_all (replicate (slot_width * 32) 255)
    (coarse ∷ vertex (pos 1) (pos 0) 0 3 2 0 ∷ vertex (pos 0) (pos 1) 0 3 0 0 ∷ vertex (negsuc 0) (pos 1) 0 3 2 0 ∷ vertex (negsuc 0) (pos 0) 0 3 0 0
    ∷ vertex (pos 0) (negsuc 0) 0 3 2 0 ∷ vertex (pos 1) (negsuc 0) 0 3 0 0
    ∷ fine ∷ vertex (pos 5) (pos 2) 2 3 2 2 ∷ vertex (pos 2) (pos 5) 2 3 0 2 ∷ vertex (negsuc 0) (pos 5) 2 3 2 2 ∷ vertex (negsuc 0) (pos 2) 2 3 0 2
    ∷ vertex (pos 2) (negsuc 0) 2 3 2 2 ∷ vertex (pos 5) (negsuc 0) 2 3 0 2 ∷ [])

-- the line x = 0.1 lists both; each alone is accepted, in turn the second is torn, and the pass is undone
in-turn :
    (in_order_of apart ≡ true)
    × ((step_at apart coarse.at).number ≡ 0)
    × ((step_at apart fine.at).number ≡ 0)
    × ((request_of apart (Line (bits 4607182418800017408) (bits 0) (bits 4591870180066957722)) 1 12).number ≡ 7)
unfolding apart enter_all vertex request_of request_fits outline_fits number_fits is_finite beyond thousand passes_from pass_of each_of onwards wanted crosses_at below_at nought
    value_of root3 add sub neg mul div lt le eq of_int of_bits of_fields odd round units size span climb sum count_trailing_zeros leave_out sort_by insert_by earlier
    subdivided torn renewed_to entered_to update_of accepts_of base_of first_bad laid_of lay_all lay_hexagon hexagon_of corner_record internal listed_in normal_of turns
    orient pattern_of rows_of in_order_of all_placed placed_at look_up enter_of replace_of records_below find_of search_from slot_at free_at record_at put_slot record_bytes
    slots_in home_of same_point word_at free_below
in-turn = (refl, refl, refl, refl)
