-- Bytes stored one by one: `Copied`, `copied-start`, `copied-long`, `copied_more`, `copied_all`.
-- Assumes nothing.
use Rattle.std.specs.Prelude.{◌≡◌, refl, List, [], ◌∷◌, ℕ, suc, ◌+◌, ◌≤◌, ◌<◌, length, get_or, set, take}
use Rattle.std.proofs.Common.{sym, ap, ◌∙◌, arith, take-suc, length-take-le}
use Rattle.std.proofs.lemmas.List.Edits.{sets}
use Rattle.std.proofs.Math.Seq.{length-sets, take-length}
use Rattle.laws.specs.Sets.{sets-append}
use Rattle.laws.specs.Stores.{Wrote}

-- the first i bytes of bs were stored at p of o, which left o'
pub record Copied (o : List ℕ) (p : ℕ) (bs : List ℕ) (i : ℕ) (o' : List ℕ) : Type 0 where
  pub most : i ≤ length bs
  pub bytes : o' ≡ sets o p (take i bs)

pub copied-start : (o : List ℕ) (p : ℕ) (bs : List ℕ) → Copied o p bs 0 o
copied-start o p bs = record { most = omega arith; bytes = refl }

pub copied-long : (o : List ℕ) (p : ℕ) (bs : List ℕ) (i : ℕ) (o' : List ℕ) → Copied o p bs i o' → length o' ≡ length o
copied-long o p bs i o' c = ap length c.bytes ∙ length-sets o p (take i bs)

pub copied_more : (o : List ℕ) (p : ℕ) (bs : List ℕ) (i : ℕ) (o' : List ℕ) → Copied o p bs i o' → i < length bs
    → Copied o p bs (i + 1) (set o' (p + i) (get_or bs i 0))
copied_more o p bs i o' c h = record { most = omega arith; bytes = stored }
  where
    long : length (take i bs) ≡ i
    long = length-take-le i bs c.most

    stored : set o' (p + i) (get_or bs i 0) ≡ sets o p (take (i + 1) bs)
    stored =
        let e : i + 1 ≡ suc i = omega arith in
        (λ z. set (c.bytes z) (p + sym long z) (get_or bs i 0)) ∙ sets-append (take i bs) (get_or bs i 0 ∷ []) o p
        ∙ ap (sets o p) (sym (take-suc bs i 0 h) ∙ ap (λ (k : ℕ). take k bs) (sym e))

pub copied_all : (o : List ℕ) (p : ℕ) (bs : List ℕ) (i : ℕ) (o' : List ℕ) → Copied o p bs i o' → length bs ≤ i → Wrote o p bs o' (p + i)
copied_all o p bs i o' c h =
    let m = c.most in
    let e : i ≡ length bs = omega arith in
    record { bytes = c.bytes ∙ ap (sets o p) (ap (λ (k : ℕ). take k bs) e ∙ take-length bs); past = ap (λ (k : ℕ). p + k) e }
