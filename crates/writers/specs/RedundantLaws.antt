-- What it is that a record is redundant: `Redundant`, `redundant-is`, `is-redundant` · `six-kept` none of degree 6 is.
-- Assumes nothing.
use Rattle.std.specs.Prelude.{◌≡◌, refl, Bool, true, false, ◌&&◌, ℕ, ◌<◌, eqb}
use Rattle.std.proofs.Common.{sym, ap, ◌∙◌, arith, eqb-true, eq-eqb}
use mathlib.Core.List.{List, Memᴰ}
use Rattle.laws.specs.Rules.{among}
use Rattle.laws.specs.Some.{some_of, some_at, at_some}
use Rattle.laws.specs.Each.{both_left, both_right, among-at, at-among}
use Rattle.lattice.specs.Stars.{adjacent_at}
use Rattle.lattice.specs.declared.records.Record.{Record}
use Rattle.table.specs.Search.{same_point}
use Rattle.table.specs.Entries.{records_of}
use Rattle.table.specs.MapLaws.{same_refl, same_true}
use Rattle.writers.specs.Files.{six_names, redundant}

-- ---- "each degree 3 record that is adjacent to a degree 6 record of the table"

pub record Redundant (t : List ℕ) (r : Record) : Type 0 where
  pub three : r.d ≡ 3
  pub centre : Record
  pub listed : Memᴰ centre (records_of t)
  pub six : centre.d ≡ 6
  pub place : ℕ
  pub below : place < 6
  pub adjacent : adjacent_at centre place ≡ r.at

pub redundant-is : (t : List ℕ) (r : Record) → redundant t r ≡ true → Redundant t r
unfolding redundant
redundant-is t r e =
    let (v, m, k) = some_at (six_names r.at) (records_of t) (both_right (eqb r.d 3) (some_of (six_names r.at) (records_of t)) e) in
    let near : ℕ → Bool = λ j. same_point (adjacent_at v j) r.at in
    let (j, l, s) = among-at near 6 (both_right (eqb v.d 6) (among 6 near) k) in
    record {
      three = eqb-true r.d 3 (both_left (eqb r.d 3) (some_of (six_names r.at) (records_of t)) e);
      centre = v;
      listed = m;
      six = eqb-true v.d 6 (both_left (eqb v.d 6) (among 6 near) k);
      place = j;
      below = l;
      adjacent = same_true (adjacent_at v j) r.at s;
    }

pub is-redundant : (t : List ℕ) (r : Record) → Redundant t r → redundant t r ≡ true
unfolding redundant
is-redundant t r x =
    let v = x.centre in
    let near : ℕ → Bool = λ j. same_point (adjacent_at v j) r.at in
    let s : same_point (adjacent_at v x.place) r.at ≡ true = ap (same_point (adjacent_at v x.place)) (sym x.adjacent)
    ∙ same_refl (adjacent_at v x.place) in
    let names : six_names r.at v ≡ true = ap (λ (b : Bool). b && among 6 near) (eq-eqb v.d 6 x.six) ∙ at-among near 6 x.place x.below s in
    ap (λ (b : Bool). b && some_of (six_names r.at) (records_of t)) (eq-eqb r.d 3 x.three) ∙ at_some (six_names r.at) (records_of t) v x.listed names

-- a degree 6 record is not
pub six-kept : (t : List ℕ) (r : Record) → r.d ≡ 6 → redundant t r ≡ false
six-kept t r d = go (redundant t r) refl
  where
    go : (b : Bool) → redundant t r ≡ b → redundant t r ≡ false
    go false e = e
    go true e = absurd (let k = (redundant-is t r e).three in omega arith)
