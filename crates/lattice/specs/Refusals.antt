-- The numbers that the papers give to refusals: document 01, "Numbers given back", and document 02.
-- Assumes nothing.
use Rattle.std.specs.Prelude.{ℕ, Result, Ok, Err}
use Rattle.lattice.specs.declared.refusals.Refusal.{Refusal}
use Rattle.lattice.specs.declared.refusals.Refusal.TheVariants.{
  NotInOrder,
  BadList,
  NoRecord,
  NotSix,
  LastLevel,
  Torn,
  NoRoom,
  NotValid,
  NotAbove,
  NotGrown,
  Redundant,
  Short,
  Boundary,
  BadFinding,
  AtTheRim,
  BadOutline,
  TwoRecords,
  NotLeft,
}
use Rattle.lattice.specs.declared.refusals.Fault.{Fault}
use Rattle.lattice.specs.declared.refusals.Stopped.{Stopped}

abbrev pub number_of : Refusal → ℕ
number_of NotInOrder = 1
number_of BadList = 2
number_of NoRecord = 3
number_of NotSix = 4
number_of LastLevel = 5
number_of Torn = 7
number_of NoRoom = 8
number_of NotValid = 9
number_of NotAbove = 10
number_of NotGrown = 11
number_of Redundant = 12
number_of Short = 13
number_of Boundary = 14
number_of BadFinding = 15
number_of AtTheRim = 16
number_of BadOutline = 17
number_of TwoRecords = 20
number_of NotLeft = 21

-- the number given back: 0, done, or the refusal's
abbrev pub number_told : {T : Type 0} → Result T Refusal → ℕ
number_told (Ok _) = 0
number_told (Err why) = number_of why

-- the same where a refusal tells the line at fault, and that line, else 0
abbrev pub fault_number : {T : Type 0} → Result T Fault → ℕ
fault_number (Ok _) = 0
fault_number (Err fault) = number_of fault.why

abbrev pub fault_line : {T : Type 0} → Result T Fault → ℕ
fault_line (Ok _) = 0
fault_line (Err fault) = fault.line

-- the same of steps made in turn, and how many were made
abbrev pub stop_number : Result ℕ Stopped → ℕ
stop_number (Ok _) = 0
stop_number (Err stopped) = number_of stopped.why

abbrev pub stop_done : Result ℕ Stopped → ℕ
stop_done (Ok done) = done
stop_done (Err stopped) = stopped.done
