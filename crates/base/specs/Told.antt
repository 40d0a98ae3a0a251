-- What a base tells: the number given back, 0 where it is done, and the place of the first bad centre, else 0.
-- Assumes nothing.
use Rattle.std.specs.Prelude.{ℕ, Result, Ok, Err}
use Rattle.lattice.specs.Refusals.{number_of}
use Rattle.base.specs.declared.BadBase.{BadBase}

abbrev pub base_number : {T : Type 0} → Result T BadBase → ℕ
base_number (Ok _) = 0
base_number (Err bad) = number_of bad.why

abbrev pub base_place : {T : Type 0} → Result T BadBase → ℕ
base_place (Ok _) = 0
base_place (Err bad) = bad.place
