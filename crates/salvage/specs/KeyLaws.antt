-- Keys in scratch. `Keys` the keys of a table's records, sorted: `keys-laid`, `keys-valid`, `keys-order` · `judged_of` "11: not a grown mesh".
-- Assumes nothing.
use Rattle.std.specs.Prelude.{◌≡◌, true, ℕ, zero, suc, ◌+◌, ◌*◌, ◌≤◌, ◌<◌, ltb, length, replicate}
use Rattle.std.proofs.Common.{ap, ◌∙◌, subst, arith, ext_get_or}
use mathlib.Core.List.{List, map, Memᴰ}
use Rattle.std.proofs.lemmas.List.{length-map}
use Rattle.lattice.specs.Records.{valid_of}
use Rattle.table.specs.Slots.{slots_of}
use Rattle.table.specs.Order.{InOrder}
use Rattle.table.specs.Entries.{records_of}
use Rattle.table.specs.MapLaws.{records-count, records-looked, lookup-valid}
use Rattle.sorting.specs.Sorting.{sort_by, key_width, key_in, keys_in, Sorts}
use Rattle.sorting.specs.SortLaws.{mem-sort}
use Rattle.sorting.specs.KeyLaws.{firsts-length, firsts_at}
use Rattle.marks.specs.Marks.{marked-none}
use Rattle.writers.specs.Files.{before, sorted}
use Rattle.writers.specs.Kept.{mark_bytes, kept_at, standing, key_for, record_for}
use Rattle.writers.specs.KeptLaws.{Filled, kept-part}
use Rattle.writers.specs.FileKeys.{file-records}
use Rattle.writers.specs.CallLaws.{standing-all}
use Rattle.readers.specs.Readers.{Restored, With, Stopped, completed}
use Rattle.salvage.specs.FillLaws.{records_from, records_of_keys, records-of-keys}

-- s begins with the keys of the records of table t, in file order
pub record Keys (t s : List ℕ) (k : ℕ) : Type 0 where
  pub order : InOrder t
  pub records : records_of_keys s k ≡ sorted (records_of t)
  pub room : key_width * k ≤ length s

-- nothing is marked
abbrev none : List ℕ
none = replicate mark_bytes 0

module _ (t : List ℕ) (o : InOrder t) (n : ℕ) (e : n ≡ slots_of t) where
  all-stand : standing (kept_at t none) n ≡ records_of t
  all-stand = ap (standing (kept_at t none)) e ∙ standing-all t none (slots_of t) (marked-none mark_bytes)

  pub keys-room : (s : List ℕ) → length s ≡ length t → key_width * length (standing (kept_at t none) n) ≤ length s
  keys-room s l = omega (arith, ap length all-stand, records-count t, o.fits.long)

  module _ (s s₁ s₂ : List ℕ) (k : ℕ) (l : length s ≡ length t) (f : Filled s (map key_for (standing (kept_at t none) n)) s₁ k) where
    few : key_width * k ≤ length s₁
    few = omega (arith, f.count, length-map (standing (kept_at t none) n) key_for, f.long, keys-room s l)

    laid : keys_in s₁ k ≡ map key_for (standing (kept_at t none) n)
    laid =
        let c = firsts-length (key_in s₁) k in
        ext_get_or 0 (keys_in s₁ k) (map key_for (standing (kept_at t none) n)) (c ∙ f.count)
        (λ i h. let b : i < k = omega arith in firsts_at (key_in s₁) k i b ∙ f.keys i (omega (arith, f.count)))

    pub keys-few : key_width * k ≤ length s₁
    keys-few = few

    pub keys-laid : Sorts s₁ k s₂ → Keys t s₂ k
    keys-laid w = record {
      order = o;
      records =
          records-of-keys s₂ k
          ∙ ap (map record_for) (w.keys ∙ ap (sort_by ltb) laid)
          ∙ ap (λ (x : ℕ). map record_for (sort_by ltb (map key_for (standing (kept_at t none) x)))) e
          ∙ file-records t o (kept_at t none) (kept-part t none)
          ∙ ap sorted (standing-all t none (slots_of t) (marked-none mark_bytes));
      room = omega (arith, few, w.long);
    }

-- the record of each key is one of them
key-among : (s : List ℕ) (j left i : ℕ) → i < left → Memᴰ (record_for (key_in s (j + i))) (records_from s j left)
unfolding records_from
key-among s j zero i h = absurd (omega arith)
key-among s j (suc left) zero h = let e : j + 0 ≡ j = omega arith in Memᴰ.head (ap (λ (x : ℕ). record_for (key_in s x)) e)
key-among s j (suc left) (suc i) h =
    let e : j + 1 + i ≡ j + suc i = omega arith in
    Memᴰ.tail (subst (λ (x : ℕ). Memᴰ (record_for (key_in s x)) (records_from s (j + 1) left)) e (key-among s (j + 1) left i (omega arith)))

pub keys-valid : (t s : List ℕ) (k : ℕ) → Keys t s k → (i : ℕ) → i < k → valid_of (record_for (key_in s i)) ≡ true
keys-valid t s k w i h =
    let r = record_for (key_in s i) in
    let z : 0 + i ≡ i = omega arith in
    let m = subst (λ (x : ℕ). Memᴰ (record_for (key_in s x)) (records_of_keys s k)) z (key-among s 0 k i h) in
    let q = mem-sort before (records_of t) r (subst (Memᴰ r) w.records m) in
    lookup-valid t w.order r.at r (records-looked t w.order r q)

-- "then 11": what was filled, judged
abbrev pub judged_of : Restored → Restored
judged_of x = completed Stopped With x
