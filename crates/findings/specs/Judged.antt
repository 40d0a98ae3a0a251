-- A list judged: its first malformed line, or how long the two parts of the joined list are. What the promises of lists.rt cite.
-- `found` the findings of a list · `parts_of` the lengths of the two parts, `with_line` with the line of one finding more · `judged_of`.
-- Assumes nothing.
use Rattle.std.specs.Prelude.{◌≡◌, cond, List, [], ℕ, ◌+◌, length, Result, Ok, Err}
use Rattle.table.specs.Entries.{holds}
use Rattle.findings.specs.Findings.{Listing, Sound, Faulty, read_list, point_of, lost, stands_text, lost_text, texts}
use Rattle.findings.specs.StandingLaws.{on_plan}
use Rattle.findings.specs.declared.line.Finding.{Finding}
use Rattle.findings.specs.declared.lists.Parts.{Parts}

-- the findings of a list; none of one that has a malformed line
abbrev pub sound_in : Listing → List Finding
sound_in (Sound fs) = fs
sound_in (Faulty line) = []

abbrev pub found : List ℕ → List Finding
found l = sound_in (read_list l)

-- a list without malformed lines
abbrev pub AllSound : List ℕ → Type 0
AllSound l = read_list l ≡ Sound (found l)

abbrev pub parts : ℕ → ℕ → Parts
parts stands lost = record { stands = stands; lost = lost }

-- the lines of the findings on the plan, and those of the lost ones: how long they are
unfoldable pub parts_of : List ℕ → List ℕ → List Finding → Parts
parts_of t l fs = parts (length (texts (stands_text l) (on_plan t fs))) (length (texts (lost_text l) (lost t fs)))

-- with the line of one finding more
unfoldable pub with_line : List ℕ → List ℕ → Parts → Finding → Parts
with_line t l p f =
    cond (holds t (point_of f)) (parts (p.stands + length (stands_text l f)) p.lost) (parts p.stands (p.lost + length (lost_text l f)))

abbrev pub judged_listing : List ℕ → List ℕ → Listing → Result Parts ℕ
judged_listing t l (Sound fs) = Ok (parts_of t l fs)
judged_listing t l (Faulty line) = Err line

abbrev pub judged_of : List ℕ → List ℕ → Result Parts ℕ
judged_of t l = judged_listing t l (read_list l)
