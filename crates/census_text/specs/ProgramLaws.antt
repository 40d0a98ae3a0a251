-- The program's text: `text-put` a text written where there is room · `program-text` it is what the call leaves, lent the program's tables and an
-- output in which every text has room · `program-length` the output keeps its length.
-- Assumes nothing.
use Rattle.std.specs.Prelude.{◌≡◌, Bool, cond, List, ◌++◌, ℕ, ◌+◌, ◌-◌, ◌≤◌}
use Rattle.std.proofs.Common.{sym, ◌∙◌, le-ltb, length-append, length-drop}
use Rattle.std.proofs.Math.Path.{ap}
use native.Mathlib.Omega.{arith}
use Rattle.std.proofs.Math.ListN.{length, drop}
use Rattle.readers.specs.Readers.{TablesAfter}
use Rattle.census_text.specs.Census.{Put, put, put_text, Result, result, read_input_of, text_of, census_of, free_table, program_text}

-- a text written where there is room for it
pub text-put : (number : ℕ) (text out : List ℕ) → length text ≤ length out → put_text number text out ≡ put number (length text) (text ++ drop (length text) out)
unfolding put_text
text-put number text out h =
    ap (λ (b : Bool). cond b (put 13 0 out) (put number (length text) (text ++ drop (length text) out))) (le-ltb (length out) (length text) h)

-- the text written leaves the output's length
pub program-length : (input out out' : List ℕ) (w : ℕ) → w ≡ length (program_text input) → w ≤ length out → out' ≡ program_text input ++ drop w out
    → length out ≡ length out'
program-length input out out' w l h e =
    let a : length out' ≡ length (program_text input) + length (drop w out) = ap length e ∙ length-append (program_text input) (drop w out) in
    let b : length (drop w out) ≡ length out - w = length-drop w out in
    omega arith

module _ (input out : List ℕ) (number w : ℕ) (out' t' s' : List ℕ) (e : result (put number w out') t' s' ≡ census_of input free_table free_table out) where
  pub program-text : length (text_of (read_input_of free_table free_table input)) ≤ length out
      → (w ≡ length (program_text input)) × (w ≤ length out) × (out' ≡ program_text input ++ drop w out)
  unfolding census_of program_text
  program-text h =
      let r : TablesAfter = read_input_of free_table free_table input in
      let p : put number w out' ≡ put r.number (length (text_of r)) (text_of r ++ drop (length (text_of r)) out) =
      ap (λ (x : Result). x.put) e ∙ text-put r.number (text_of r) out h in
      let l : w ≡ length (text_of r) = ap (λ (x : Put). x.written) p in
      (l, omega arith, ap (λ (x : Put). x.out) p ∙ ap (λ (n : ℕ). text_of r ++ drop n out) (sym l))
