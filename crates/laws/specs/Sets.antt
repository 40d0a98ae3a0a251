-- A run of stores `sets`, read back: `sets-append`, `get_d-sets-in`, `get_d-sets-below`, `get_d-sets-above`.
-- Assumes nothing.
use Rattle.std.specs.Prelude.{◌≡◌, refl, List, [], ◌∷◌, ◌++◌, ℕ, zero, suc, ◌+◌, ◌≤◌, ◌<◌, length, get_or, set}
use Rattle.std.proofs.Common.{◌∙◌, ap, arith, length-set, get_or-set_same, get_or-set_other}
use Rattle.std.proofs.lemmas.List.Edits.{sets}

pub sets-append : (xs ys l : List ℕ) (i : ℕ) → sets (sets l i xs) (i + length xs) ys ≡ sets l i (xs ++ ys)
sets-append [] ys l i = let e : i + 0 ≡ i = omega arith in ap (λ (k : ℕ). sets l k ys) e
sets-append (x ∷ xs) ys l i =
    let e : i + suc (length xs) ≡ suc i + length xs = omega arith in
    ap (λ (k : ℕ). sets (sets (set l i x) (suc i) xs) k ys) e ∙ sets-append xs ys (set l i x) (suc i)

pub get_d-sets-below : (vs l : List ℕ) (i k : ℕ) → k < i → get_or (sets l i vs) k 0 ≡ get_or l k 0
get_d-sets-below [] l i k h = refl
get_d-sets-below (v ∷ vs) l i k h =
    let h' : k < suc i = omega arith in
    get_d-sets-below vs (set l i v) (suc i) k h' ∙ get_or-set_other l i k v 0 (omega arith)

pub get_d-sets-above : (vs l : List ℕ) (i k : ℕ) → i + length vs ≤ k → get_or (sets l i vs) k 0 ≡ get_or l k 0
get_d-sets-above [] l i k h = refl
get_d-sets-above (v ∷ vs) l i k h =
    let h' : suc i + length vs ≤ k = omega arith in
    get_d-sets-above vs (set l i v) (suc i) k h' ∙ get_or-set_other l i k v 0 (omega arith)

pub get_d-sets-in : (vs l : List ℕ) (i c : ℕ) → c < length vs → i + length vs ≤ length l → get_or (sets l i vs) (i + c) 0 ≡ get_or vs c 0
get_d-sets-in [] l i c h room = absurd (omega arith)
get_d-sets-in (v ∷ vs) l i zero h room =
    let e : i + 0 ≡ i = omega arith in
    let inn : i < length l = omega arith in
    let low : i < suc i = omega arith in
    ap (λ (k : ℕ). get_or (sets (set l i v) (suc i) vs) k 0) e ∙ get_d-sets-below vs (set l i v) (suc i) i low ∙ get_or-set_same l i v 0 inn
get_d-sets-in (v ∷ vs) l i (suc c) h room =
    let e : i + suc c ≡ suc i + c = omega arith in
    let h' : c < length vs = omega arith in
    let room' : suc i + length vs ≤ length (set l i v) = rw (length-set l i v) (omega arith) in
    ap (λ (k : ℕ). get_or (sets (set l i v) (suc i) vs) k 0) e ∙ get_d-sets-in vs (set l i v) (suc i) c h' room'
