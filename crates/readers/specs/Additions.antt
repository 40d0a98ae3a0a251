-- A table with records added: what reading lines and restoring do to a table in order.
-- `Adds P t u` u is t with records added, each of which is P · `adds_none`, `adds_one`, `adds_then` how it comes about · `adds-as` said of more records
-- · `adds-slots` as many slots.
-- Assumes nothing.
use Rattle.std.specs.Prelude.{◌≡◌, refl, ◌⊎◌, true, List, ℕ, ◌<◌, length, Option, Some, None}
use Rattle.std.proofs.Common.{sym, ap, ◌∙◌, subst, inl, inr, arith}
use Rattle.lattice.specs.Records.{valid_of}
use Rattle.lattice.specs.declared.points.Point.{Point}
use Rattle.lattice.specs.declared.records.Record.{Record}
use Rattle.table.specs.Slots.{slots_in, slots_of, free_slots}
use Rattle.table.specs.Order.{InOrder}
use Rattle.table.specs.Entries.{look_up, enter_of}
use Rattle.table.specs.MapLaws.{same_or_not, enter-order, enter-keeps, enter-finds, enter-length}

pub held-absent : {A : Type 0} {r : Record} {o : Option Record} → o ≡ Some r → o ≡ None → A
held-absent h a = absurd (let z : ◌≡◌ {A = ℕ} 0 1 = cc in omega arith)

pub held_same : {r q : Record} {o : Option Record} → o ≡ Some r → o ≡ Some q → r ≡ q
held_same h k = cc

-- u holds what t holds, and besides only records that are P
pub record Adds (P : Record → Type 0) (t u : List ℕ) : Type 0 where
  pub order : InOrder u
  pub long : length u ≡ length t
  pub keeps : (p : Point) (r : Record) → look_up t p ≡ Some r → look_up u p ≡ Some r
  pub only : (p : Point) (r : Record) → look_up u p ≡ Some r → (look_up t p ≡ Some r) ⊎ P r

pub adds_none : (P : Record → Type 0) (t : List ℕ) → InOrder t → Adds P t t
adds_none P t o = record { order = o; long = refl; keeps = λ p r h. h; only = λ p r h. inl h }

-- a valid record at a point that is absent, entered
pub adds_one : (P : Record → Type 0) (t : List ℕ) (r : Record) → InOrder t → valid_of r ≡ true → look_up t r.at ≡ None → 0 < free_slots t → P r
    → Adds P t (enter_of t r)
adds_one P t r o ok none room h =
    record {
      order = enter-order t o r ok;
      long = enter-length t r;
      keeps = λ p q k. kept p q k (same_or_not p r.at);
      only = λ p q k. from p q k (same_or_not p r.at);
    }
  where
    kept : (p : Point) (q : Record) → look_up t p ≡ Some q → Dec (p ≡ r.at) → look_up (enter_of t r) p ≡ Some q
    kept p q k (yes e) = held-absent k (ap (look_up t) e ∙ none)
    kept p q k (no e) = enter-keeps t o r ok p e ∙ k

    from : (p : Point) (q : Record) → look_up (enter_of t r) p ≡ Some q → Dec (p ≡ r.at) → (look_up t p ≡ Some q) ⊎ P q
    from p q k (yes e) = inr (subst P (held_same (enter-finds t o r ok none room) (ap (look_up (enter_of t r)) (sym e) ∙ k)) h)
    from p q k (no e) = inl (sym (enter-keeps t o r ok p e) ∙ k)

pub adds_then : (P : Record → Type 0) (t u w : List ℕ) → Adds P t u → Adds P u w → Adds P t w
adds_then P t u w a b =
    record { order = b.order; long = b.long ∙ a.long; keeps = λ p r h. b.keeps p r (a.keeps p r h); only = λ p r h. go p r (b.only p r h) }
  where
    go : (p : Point) (r : Record) → (look_up u p ≡ Some r) ⊎ P r → (look_up t p ≡ Some r) ⊎ P r
    go p r (inl h) = a.only p r h
    go p r (inr h) = inr h

pub adds-as : (P Q : Record → Type 0) (t u : List ℕ) → ((r : Record) → P r → Q r) → Adds P t u → Adds Q t u
adds-as P Q t u f a = record { order = a.order; long = a.long; keeps = a.keeps; only = λ p r h. go r (a.only p r h) }
  where
    go : {A : Type 0} (r : Record) → A ⊎ P r → A ⊎ Q r
    go r (inl h) = inl h
    go r (inr h) = inr (f r h)

-- as many slots
pub adds-slots : (P : Record → Type 0) (t u : List ℕ) → Adds P t u → slots_of u ≡ slots_of t
adds-slots P t u a = ap slots_in a.long
