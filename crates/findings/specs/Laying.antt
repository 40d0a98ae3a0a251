-- The output on its way: lost lines laid behind the place of the others, a key for each finding on the plan before it; then the lines of the keys,
-- sorted, from the last back. What the promises of lines.rt cite.
-- `Lays` one finding laid · `Laid` the keys and the lost lines of some findings · `Ready` the keys stand sorted.
-- Assumes nothing.
use Rattle.std.specs.Prelude.{◌≡◌, Bool, true, false, ℕ, ◌+◌, ◌≤◌, length, drop}
use mathlib.Core.List.{List, ◌++◌, map, Memᴰ}
use Rattle.laws.specs.Stores.{Wrote}
use Rattle.sorting.specs.Sorting.{keys_in}
use Rattle.sorting.specs.Keys.{Put}
use Rattle.findings.specs.Findings.{lost, stands_text, lost_text, texts}
use Rattle.findings.specs.EntryLaws.{InList}
use Rattle.findings.specs.StandingLaws.{on_plan}
use Rattle.findings.specs.Ranks.{key_of}
use Rattle.findings.specs.declared.line.Finding.{Finding}

-- finding f, on the plan or not, laid: its key as key k, or its line at e
abbrev pub Lays : Bool → List ℕ → Finding → List ℕ → ℕ → ℕ → List ℕ → ℕ → ℕ → Type 0
Lays true l f o k e o' k' e' = Put o k (key_of l f) o' × ((k' ≡ k + 1) × (e' ≡ e))
Lays false l f o k e o' k' e' = Wrote o e (lost_text l f) o' e' × (k' ≡ k)

-- where the lost lines of findings end, which begin at `start`
abbrev pub lost_end : List ℕ → List ℕ → ℕ → List Finding → ℕ
lost_end t l start fs = start + length (texts (lost_text l) (lost t fs))

-- the findings fs are laid: k keys at the beginning, lost lines from `start` on
pub record Laid (t l : List ℕ) (start : ℕ) (fs : List Finding) (o o' : List ℕ) (k : ℕ) : Type 0 where
  pub keys : keys_in o' k ≡ map (key_of l) (on_plan t fs)
  pub lines : drop start o' ≡ texts (lost_text l) (lost t fs) ++ drop (lost_end t l start fs) o
  pub long : length o' ≡ length o

-- the keys of findings of the list stand in o, in their order; `total` bytes are kept for their lines
pub record Ready (l : List ℕ) (fs : List Finding) (o : List ℕ) (k total : ℕ) : Type 0 where
  pub keys : keys_in o k ≡ map (key_of l) fs
  pub in_list : (f : Finding) → Memᴰ f fs → InList l f
  pub long : total ≡ length (texts (stands_text l) fs)
  pub room : total ≤ length o
