-- Bytes stored part by part: parts written one after the other are the whole written at once.
-- `Wrote` what a writer did · `wrote_then` the next part · `set-sets` a store past a run of stores may come first ·
-- `drop-stored` what stands from a store on.
-- Assumes nothing.
use Rattle.std.specs.Prelude.{◌≡◌, refl, List, [], ◌∷◌, ◌++◌, ℕ, suc, ◌+◌, ◌≤◌, length, set, take, drop}
use Rattle.std.proofs.Common.{◌∙◌, ap, append_assoc, arith, length-append, drop_at, length-take-le}
use Rattle.std.proofs.lemmas.List.Edits.{sets, sets-eq}
use Rattle.std.proofs.lemmas.List.{set_comm}
use Rattle.laws.specs.Sets.{sets-append}

-- the bytes xs were stored at p of o, which left o'; q is the position past them
pub record Wrote (o : List ℕ) (p : ℕ) (xs : List ℕ) (o' : List ℕ) (q : ℕ) : Type 0 where
  pub bytes : o' ≡ sets o p xs
  pub past : q ≡ p + length xs

pub wrote_then : {o o₁ o₂ xs ys : List ℕ} {p q r : ℕ} → Wrote o p xs o₁ q → Wrote o₁ q ys o₂ r → Wrote o p (xs ++ ys) o₂ r
wrote_then {o} {o₁} {o₂} {xs} {ys} {p} {q} {r} u v =
    record {
      bytes = v.bytes ∙ (λ i. sets (u.bytes i) (u.past i) ys) ∙ sets-append xs ys o p;
      past = omega (arith, u.past, v.past, length-append xs ys);
    }

pub set-sets : (vs l : List ℕ) (i k x : ℕ) → i + length vs ≤ k → set (sets l i vs) k x ≡ sets (set l k x) i vs
set-sets [] l i k x h = refl
set-sets (v ∷ vs) l i k x h =
    let h' : suc i + length vs ≤ k = omega arith in
    let apart : i ≡ k → ⊥ = omega arith in
    set-sets vs (set l i v) (suc i) k x h' ∙ ap (λ (m : List ℕ). sets m (suc i) vs) (set_comm l i k v x apart)

-- what stands from a store on
pub drop-stored : (o : List ℕ) (at : ℕ) (xs : List ℕ) → at + length xs ≤ length o → drop at (sets o at xs) ≡ xs ++ drop (at + length xs) o
drop-stored o at xs h =
    ap (drop at) (sets-eq xs o at h ∙ append_assoc (take at o) xs (drop (at + length xs) o))
    ∙ drop_at (take at o) (xs ++ drop (at + length xs) o) at (length-take-le at o (omega arith))
