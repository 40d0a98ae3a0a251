-- Document 01, "Base": a list of centres judged, and the records it lays into a table. What the promise cites: `base_of`.
-- The list judged is crate centres' (`centre_at`, `is_listed`, `bad_place`, `unpaired`), passed on here · `corner_of`, `internal`, `hexagon_of` the seven
-- records of a hexagon · `Laid`, `laid_of` all of them entered · `BaseAfter`, `base_of` what the call answers.
-- Assumes nothing.
pub use Rattle.centres.specs.Centres.{centre_at, centres_in, good_centre, is_listed, bad_at, bad_place, unpaired}
unfoldable pub use Rattle.centres.specs.Centres.{listed_in, first_bad}
use Rattle.std.specs.Prelude.{Bool, cond, not, ◌||◌, List, ℕ, zero, suc, eqb, ltb, ℤ, pos, length}
use Rattle.laws.specs.Rules.{upto}
use Rattle.laws.specs.Choices.{unless}
use Rattle.lattice.specs.Points.{pt, turns, sum_of, class_of}
use Rattle.table.specs.Search.{find_of}
use Rattle.table.specs.Entries.{enter_of}
use Rattle.table.specs.Slots.{fits_length, cleared_of}
use Rattle.lattice.specs.declared.points.Point.{Point}
use Rattle.lattice.specs.declared.records.Record.{Record}
use Rattle.table.specs.declared.probe.Found.{Found}
use Rattle.table.specs.declared.probe.Found.TheVariants as found

-- ---- the records of a hexagon, where `listed` says which hexagons are, by their centres
-- "corners in directions 0, 60, .. 300 degrees": corner j of the hexagon at p
abbrev pub corner_of : Point → ℕ → Point
corner_of p j = sum_of p (turns j (pt (pos 1) (pos 0) 0))

-- a unit neighbour of a corner is the centre of no hexagon, or of one that is listed
abbrev pub hexagon_listed : (Point → Bool) → Point → Bool
hexagon_listed listed p = not (eqb (class_of p) 0) || listed p

-- "A corner is internal when all three hexagons round it are listed"
unfoldable pub internal : (Point → Bool) → Point → Bool
internal listed q = upto 6 (λ j. hexagon_listed listed (corner_of q j))

abbrev pub at0 : Point → ℕ → ℕ → Record
at0 p d k = record { at = p; d = d; k = k; n = record { 0 = 0 } }

-- "A centre has d 3, k 0."
abbrev pub centre_record : Point → Record
centre_record p = at0 p 3 0

-- "with a-b leaving 1 on division by 3 it has d 6, k 0; leaving 2, d 3, k 2. Other corners have degree 0. All m and n are 0."
unfoldable pub corner_record : (Point → Bool) → Point → Record
corner_record listed q = cond (internal listed q) (cond (eqb (class_of q) 1) (at0 q 6 0) (at0 q 3 2)) (at0 q 0 0)

-- record i of the hexagon at p: "centre first, then corners"
unfoldable pub hexagon_of : (Point → Bool) → Point → ℕ → Record
hexagon_of listed p zero = centre_record p
hexagon_of listed p (suc j) = corner_record listed (corner_of p j)

-- ---- the records entered
-- a table so far, or no slot left for a record
pub data Laid : Type 0 where
  Room : List ℕ → Laid
  NoRoom : Laid

-- one record more, "skipping points already there"
abbrev pub lay_at : List ℕ → Record → Found → Laid
lay_at t r (found.At i) = Room t
lay_at t r (found.Free i) = Room (enter_of t r)
lay_at t r found.Full = NoRoom

abbrev pub lay : Laid → Record → Laid
lay NoRoom r = NoRoom
lay (Room t) r = lay_at t r (find_of t r.at)

-- the first k of the seven records of the hexagon at p
unfoldable pub lay_hexagon : (Point → Bool) → Point → ℕ → Laid → Laid
lay_hexagon listed p zero l = l
lay_hexagon listed p (suc k) l = lay (lay_hexagon listed p k l) (hexagon_of listed p k)

-- "Records enter in list order": the first n hexagons
unfoldable pub lay_all : List ℤ → ℕ → Laid → Laid
lay_all cs zero l = l
lay_all cs (suc n) l = lay_hexagon (is_listed cs) (centre_at cs n) 7 (lay_all cs n l)

-- "The lent table is first cleared to 255"
unfoldable pub laid_of : List ℕ → List ℤ → Laid
laid_of t cs = lay_all cs (centres_in cs) (Room (cleared_of t))

-- ---- the call
-- the number, the place of the first bad centre, and the table after
pub record BaseAfter : Type 0 where
  pub number : ℕ
  pub place : ℕ
  pub bytes : List ℕ

abbrev pub base_after : ℕ → ℕ → List ℕ → BaseAfter
base_after n p t = record { number = n; place = p; bytes = t }

-- "8: too few free slots"
abbrev pub from_laid : List ℕ → Laid → BaseAfter
from_laid t (Room u) = base_after 0 0 u
from_laid t NoRoom = base_after 8 0 (cleared_of t)

-- "Base 1, 2, 8. .. Base gives the 0-based place, counted in centres, of the first bad centre, else 0; an empty or odd list gives place 0, its centres unread."
unfoldable pub base_of : List ℕ → List ℤ → BaseAfter
base_of t cs =
    unless (fits_length (length t)) (base_after 1 0 t)
    (cond (unpaired cs) (base_after 2 0 (cleared_of t))
    (cond (ltb (bad_place cs) (centres_in cs)) (base_after 2 (bad_place cs) (cleared_of t))
    (from_laid t (laid_of t cs))))
