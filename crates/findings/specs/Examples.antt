-- Findings' lines, good and malformed, and a list joined with three hexagons: each by computing.
-- Assumes nothing.
use Rattle.std.specs.Prelude.{◌≡◌, refl, List, [], ◌∷◌, ◌++◌, ℕ, ◌*◌, ℤ, pos, negsuc, replicate}
use Rattle.laws.specs.Words.{word_at}
use Rattle.sorting.specs.Sorting.{insert_by, sort_by}
use Rattle.lattice.specs.Points.{pt, normal_of}
use Rattle.lattice.specs.declared.records.Record.{Record}
use Rattle.table.specs.Slots.{slot_width, slots_in, free_at, record_at, slot_at, record_bytes, put_slot}
use Rattle.table.specs.Search.{home_of, same_point, search_from, find_of}
use Rattle.table.specs.Order.{placed_at, all_placed, in_order_of}
use Rattle.table.specs.Entries.{look_up, enter_of, records_below}
use Rattle.text.specs.Decimal.{digits_by, digits}
use Rattle.text.specs.Reading.{run, value, number_at, signed_at}
use Rattle.text.specs.Line.{point_text, place_at}
use Rattle.text.specs.LineOrder.{earlier}
use Rattle.findings.specs.Findings.{
  finding,
  note_run,
  entry_at,
  list_from,
  keep,
  findings_of,
  tail_text,
  stands_text,
  lost_text,
  texts,
  joined,
  join_after,
  put_joined,
  join_of,
}
use Rattle.findings.specs.declared.line.Entry.TheVariants.{Good, Bad}

-- ---- one line

-- the tab before an empty note stays: `5 1 0 0 ` with four tabs, and with three
no_note : (entry_at (53 ∷ 9 ∷ 49 ∷ 9 ∷ 48 ∷ 9 ∷ 48 ∷ 9 ∷ 10 ∷ []) 0 ≡ Good (finding 5 (pt (pos 1) (pos 0) 0) 0 8 9)) ×
    (entry_at (53 ∷ 9 ∷ 49 ∷ 9 ∷ 48 ∷ 9 ∷ 48 ∷ 10 ∷ []) 0 ≡ Bad)
unfolding note_run entry_at number_at place_at signed_at run value
no_note = (refl, refl)

-- a line whose note is xs
noting : List ℕ → List ℕ
noting xs = 53 ∷ 9 ∷ 49 ∷ 9 ∷ 48 ∷ 9 ∷ 48 ∷ 9 ∷ (xs ++ 10 ∷ [])

-- a note has any bytes but tab and line feed: NUL, CR, 255; 80 of them, but not 81
notes : (entry_at (noting (0 ∷ 255 ∷ 13 ∷ [])) 0 ≡ Good (finding 5 (pt (pos 1) (pos 0) 0) 0 8 12)) ×
    (entry_at (noting (replicate 80 46)) 0 ≡ Good (finding 5 (pt (pos 1) (pos 0) 0) 0 8 89)) ×
    (entry_at (noting (replicate 81 46)) 0 ≡ Bad) ×
    (entry_at (noting (46 ∷ 9 ∷ 46 ∷ [])) 0 ≡ Bad)
unfolding noting note_run entry_at number_at place_at signed_at run value
notes = (refl, refl, refl, refl)

-- limits are judged as written: 1062882/3^12 is 2, and 531441/3^13 a third, but neither line is good; 1 and 999999, -1000000 and 1000000 and 12 are
limits : (entry_at (49 ∷ 9 ∷ 49 ∷ 48 ∷ 54 ∷ 50 ∷ 56 ∷ 56 ∷ 50 ∷ 9 ∷ 48 ∷ 9 ∷ 49 ∷ 50 ∷ 9 ∷ 10 ∷ []) 0 ≡ Bad) ×
    (entry_at (49 ∷ 9 ∷ 53 ∷ 51 ∷ 49 ∷ 52 ∷ 52 ∷ 49 ∷ 9 ∷ 48 ∷ 9 ∷ 49 ∷ 51 ∷ 9 ∷ 10 ∷ []) 0 ≡ Bad) ×
    (entry_at (48 ∷ 9 ∷ 49 ∷ 9 ∷ 48 ∷ 9 ∷ 48 ∷ 9 ∷ 10 ∷ []) 0 ≡ Bad) ×
    (entry_at (49 ∷ 48 ∷ 48 ∷ 48 ∷ 48 ∷ 48 ∷ 48 ∷ 9 ∷ 49 ∷ 9 ∷ 48 ∷ 9 ∷ 48 ∷ 9 ∷ 10 ∷ []) 0 ≡ Bad) ×
    (entry_at (49 ∷ 9 ∷ 49 ∷ 48 ∷ 48 ∷ 48 ∷ 48 ∷ 48 ∷ 48 ∷ 9 ∷ 45 ∷ 49 ∷ 48 ∷ 48 ∷ 48 ∷ 48 ∷ 48 ∷ 48 ∷ 9 ∷ 49 ∷ 50 ∷ 9 ∷ 10 ∷ []) 0
    ≡ Good (finding 1 (pt (pos 1000000) (negsuc 999999) 12) 0 22 23)) ×
    (entry_at (57 ∷ 57 ∷ 57 ∷ 57 ∷ 57 ∷ 57 ∷ 9 ∷ 48 ∷ 9 ∷ 48 ∷ 9 ∷ 48 ∷ 9 ∷ 10 ∷ []) 0 ≡ Good (finding 999999 (pt (pos 0) (pos 0) 0) 0 13 14))
unfolding note_run entry_at number_at place_at signed_at run value
limits = (refl, refl, refl, refl, refl, refl)

-- line 1 of a list: number 1, these numbers a and b, m 0 and no note
placed : List ℕ → List ℕ → List ℕ
placed a b = 49 ∷ 9 ∷ (a ++ 9 ∷ (b ++ 9 ∷ 48 ∷ 9 ∷ 10 ∷ []))

million : List ℕ
million = 49 ∷ 48 ∷ 48 ∷ 48 ∷ 48 ∷ 48 ∷ 48 ∷ []

-- and one
million_one : List ℕ
million_one = 49 ∷ 48 ∷ 48 ∷ 48 ∷ 48 ∷ 48 ∷ 49 ∷ []

-- "a and b within 1,000,000 either way": just within, and just beyond, each sign of each
farthest-out : (entry_at (placed (45 ∷ million) million) 0 ≡ Good (finding 1 (pt (negsuc 999999) (pos 1000000) 0) 0 21 22)) ×
    (entry_at (placed million (45 ∷ million)) 0 ≡ Good (finding 1 (pt (pos 1000000) (negsuc 999999) 0) 0 21 22)) ×
    (entry_at (placed million_one (48 ∷ [])) 0 ≡ Bad) ×
    (entry_at (placed (45 ∷ million_one) (48 ∷ [])) 0 ≡ Bad) ×
    (entry_at (placed (48 ∷ []) million_one) 0 ≡ Bad) ×
    (entry_at (placed (48 ∷ []) (45 ∷ million_one)) 0 ≡ Bad)
unfolding placed million million_one note_run entry_at number_at place_at signed_at run value
farthest-out = (refl, refl, refl, refl, refl, refl)

-- "number 1 to 999,999", "m 0 to 12": a number, and a depth, by themselves
numbered : List ℕ → List ℕ → List ℕ
numbered n m = n ++ 9 ∷ 49 ∷ 9 ∷ 48 ∷ 9 ∷ (m ++ 9 ∷ 10 ∷ [])

numbers-out : (entry_at (numbered (49 ∷ []) (48 ∷ [])) 0 ≡ Good (finding 1 (pt (pos 1) (pos 0) 0) 0 8 9)) ×
    (entry_at (numbered (57 ∷ 57 ∷ 57 ∷ 57 ∷ 57 ∷ 57 ∷ []) (48 ∷ [])) 0 ≡ Good (finding 999999 (pt (pos 1) (pos 0) 0) 0 13 14)) ×
    (entry_at (numbered (48 ∷ []) (48 ∷ [])) 0 ≡ Bad) ×
    (entry_at (numbered million (48 ∷ [])) 0 ≡ Bad) ×
    (entry_at (numbered (49 ∷ []) (49 ∷ 50 ∷ [])) 0 ≡ Good (finding 1 (pt (pos 1) (pos 0) 12) 0 9 10)) ×
    (entry_at (numbered (49 ∷ []) (49 ∷ 51 ∷ [])) 0 ≡ Bad)
unfolding numbered million note_run entry_at number_at place_at signed_at run value
numbers-out = (refl, refl, refl, refl, refl, refl)

-- numbers as in document 01's files: `01`, `+1` and `-1` are no numbers of a finding, `01`, `+1` and `-0` no coordinates, `-1` is no m
numerals : (entry_at (48 ∷ 49 ∷ 9 ∷ 49 ∷ 9 ∷ 48 ∷ 9 ∷ 48 ∷ 9 ∷ 10 ∷ []) 0 ≡ Bad) ×
    (entry_at (43 ∷ 49 ∷ 9 ∷ 49 ∷ 9 ∷ 48 ∷ 9 ∷ 48 ∷ 9 ∷ 10 ∷ []) 0 ≡ Bad) ×
    (entry_at (45 ∷ 49 ∷ 9 ∷ 49 ∷ 9 ∷ 48 ∷ 9 ∷ 48 ∷ 9 ∷ 10 ∷ []) 0 ≡ Bad) ×
    (entry_at (49 ∷ 9 ∷ 48 ∷ 49 ∷ 9 ∷ 48 ∷ 9 ∷ 48 ∷ 9 ∷ 10 ∷ []) 0 ≡ Bad) ×
    (entry_at (49 ∷ 9 ∷ 43 ∷ 49 ∷ 9 ∷ 48 ∷ 9 ∷ 48 ∷ 9 ∷ 10 ∷ []) 0 ≡ Bad) ×
    (entry_at (49 ∷ 9 ∷ 49 ∷ 9 ∷ 45 ∷ 48 ∷ 9 ∷ 48 ∷ 9 ∷ 10 ∷ []) 0 ≡ Bad) ×
    (entry_at (49 ∷ 9 ∷ 49 ∷ 9 ∷ 48 ∷ 9 ∷ 45 ∷ 49 ∷ 9 ∷ 10 ∷ []) 0 ≡ Bad)
unfolding note_run entry_at number_at place_at signed_at run value
numerals = (refl, refl, refl, refl, refl, refl, refl)

-- ---- a list joined

-- [a, b, 0], of degree d and orientation 0, at level 0
vertex : ℤ → ℤ → ℕ → Record
vertex a b d = record { at = pt a b 0; d = d; k = 0; n = record { 0 = 0 } }

entered : List ℕ → List Record → List ℕ
entered t [] = t
entered t (r ∷ rs) = entered (enter_of t r) rs

-- document 01's "Three", in 20 slots
three : List ℕ
three =
    entered (replicate (slot_width * 20) 255)
    (vertex (negsuc 0) (pos 0) 0
    ∷ vertex (negsuc 0) (pos 1) 0
    ∷ vertex (pos 0) (negsuc 0) 0
    ∷ vertex (pos 0) (pos 0) 3
    ∷ vertex (pos 0) (pos 1) 0
    ∷ vertex (pos 0) (pos 2) 0
    ∷ vertex (pos 1) (negsuc 0) 0
    ∷ vertex (pos 1) (pos 0) 6
    ∷ vertex (pos 1) (pos 1) 3
    ∷ vertex (pos 1) (pos 2) 0
    ∷ vertex (pos 2) (negsuc 1) 0
    ∷ vertex (pos 2) (negsuc 0) 3
    ∷ vertex (pos 2) (pos 0) 0
    ∷ vertex (pos 2) (pos 1) 0
    ∷ vertex (pos 3) (negsuc 1) 0
    ∷ vertex (pos 3) (negsuc 0) 0
    ∷ [])

list : List ℕ
list =
    55 ∷ 9 ∷ 51 ∷ 9 ∷ 48 ∷ 9 ∷ 49 ∷ 9 ∷ 112 ∷ 105 ∷ 116 ∷ 10
    ∷ 51 ∷ 9 ∷ 57 ∷ 9 ∷ 57 ∷ 9 ∷ 48 ∷ 9 ∷ 103 ∷ 111 ∷ 110 ∷ 101 ∷ 10
    ∷ 56 ∷ 9 ∷ 49 ∷ 9 ∷ 48 ∷ 9 ∷ 48 ∷ 9 ∷ 10
    ∷ 50 ∷ 9 ∷ 45 ∷ 49 ∷ 9 ∷ 48 ∷ 9 ∷ 48 ∷ 9 ∷ 114 ∷ 105 ∷ 109 ∷ 10
    ∷ []

-- vertices by m, a, b; at one the list's order, however the point is spelled; the lost one last
joint : List ℕ
joint =
    45 ∷ 49 ∷ 9 ∷ 48 ∷ 9 ∷ 48 ∷ 9 ∷ 50 ∷ 9 ∷ 114 ∷ 105 ∷ 109 ∷ 10
    ∷ 49 ∷ 9 ∷ 48 ∷ 9 ∷ 48 ∷ 9 ∷ 55 ∷ 9 ∷ 112 ∷ 105 ∷ 116 ∷ 10
    ∷ 49 ∷ 9 ∷ 48 ∷ 9 ∷ 48 ∷ 9 ∷ 56 ∷ 9 ∷ 10
    ∷ 63 ∷ 9 ∷ 51 ∷ 9 ∷ 103 ∷ 111 ∷ 110 ∷ 101 ∷ 10
    ∷ []

-- finding 8 at [1, 0, 0], without a note, and its line out
one : List ℕ
one = 56 ∷ 9 ∷ 49 ∷ 9 ∷ 48 ∷ 9 ∷ 48 ∷ 9 ∷ 10 ∷ []

one_out : List ℕ
one_out = 49 ∷ 9 ∷ 48 ∷ 9 ∷ 48 ∷ 9 ∷ 56 ∷ 9 ∷ 10 ∷ []

-- the line out of a lost finding 8
lost_out : List ℕ
lost_out = 63 ∷ 9 ∷ 56 ∷ 9 ∷ 10 ∷ []

-- done: the list above, what is past it stays; [531441, 0, 12] is [1, 0, 0]; a repeated line comes out twice; an empty list gives an empty one. Lost: with
-- an empty table all, else [1, 0, 12], deeper than a record may be, and [1000000, 0, 0], farther out. Refused with 15: a line feed alone, a last line that
-- no line feed ends; with 1 before 15, with 15 before 13, and with 13 where a byte is lacking
joins : (join_of three list (replicate 45 7) ≡ join_after 0 0 43 (joint ++ (7 ∷ 7 ∷ []))) ×
    (join_of three (56 ∷ 9 ∷ 53 ∷ 51 ∷ 49 ∷ 52 ∷ 52 ∷ 49 ∷ 9 ∷ 48 ∷ 9 ∷ 49 ∷ 50 ∷ 9 ∷ 10 ∷ []) (replicate 9 7) ≡ join_after 0 0 9 one_out) ×
    (join_of three (one ++ one) (replicate 18 7) ≡ join_after 0 0 18 (one_out ++ one_out)) ×
    (join_of three [] [] ≡ join_after 0 0 0 []) ×
    (join_of (replicate (slot_width * 16) 255) one (replicate 5 7) ≡ join_after 0 0 5 lost_out) ×
    (join_of three (56 ∷ 9 ∷ 49 ∷ 9 ∷ 48 ∷ 9 ∷ 49 ∷ 50 ∷ 9 ∷ 10 ∷ []) (replicate 5 7) ≡ join_after 0 0 5 lost_out) ×
    (join_of three (56 ∷ 9 ∷ 49 ∷ 48 ∷ 48 ∷ 48 ∷ 48 ∷ 48 ∷ 48 ∷ 9 ∷ 48 ∷ 9 ∷ 48 ∷ 9 ∷ 10 ∷ []) (replicate 5 7) ≡ join_after 0 0 5 lost_out) ×
    (join_of three (10 ∷ []) [] ≡ join_after 15 1 0 []) ×
    (join_of three (one ++ (53 ∷ 9 ∷ 49 ∷ 9 ∷ 48 ∷ 9 ∷ 48 ∷ 9 ∷ 112 ∷ 105 ∷ 116 ∷ [])) [] ≡ join_after 15 2 0 []) ×
    (join_of (255 ∷ three) (10 ∷ []) [] ≡ join_after 1 0 0 []) ×
    (join_of three (list ++ 10 ∷ []) [] ≡ join_after 15 5 0 []) ×
    (join_of three list (replicate 42 7) ≡ join_after 13 0 0 (replicate 42 7))
unfolding vertex entered three list joint one one_out lost_out join_of put_joined joined texts stands_text lost_text tail_text findings_of keep list_from note_run
    entry_at number_at place_at signed_at run value earlier insert_by sort_by word_at normal_of slots_in free_at record_at slot_at record_bytes put_slot home_of same_point
    search_from find_of placed_at all_placed in_order_of look_up enter_of records_below digits_by digits point_text
joins = (refl, refl, refl, refl, refl, refl, refl, refl, refl, refl, refl, refl)
