-- The opposite of a corner with its slot, the first or the second: `choice_of`. What it says of `chosen_at`: `choice-is`, `choice-neither`.
-- Assumes nothing.
use Rattle.std.specs.Prelude.{◌≡◌, Bool, Option, Some, None, List, ℕ}
use Rattle.std.proofs.Math.Path.{refl, ap}
use Rattle.std.proofs.Common.{◌∙◌, subst}
use Rattle.std.proofs.Math.Bool.{true, false, cond}
use Rattle.lattice.specs.Stars.{first_at, second_at}
use Rattle.lattice.specs.declared.points.Point.{Point}
use Rattle.lattice.specs.declared.records.Record.{Record}
use Rattle.table.specs.Entries.{holds}
use Rattle.queries.specs.Queries.{there, chosen_at}
use Rattle.firsts.specs.Earlier.{slot_in, placed_of}
use Rattle.firsts.specs.Strides.{opposite_by}
use Rattle.firsts.specs.declared.earlier.Placed.{Placed}
use Rattle.firsts.specs.declared.choices.Opposite.{Opposite}

abbrev pub opposite : Bool → Placed → Opposite
opposite second placed = record { second = second; placed = placed }

-- a second opposite, if there is one and it is in the table
abbrev pub kept_of : List ℕ → Option Point → Option Opposite
kept_of t None = None
kept_of t (Some p) = cond (holds t p) (Some (opposite true (placed_of t p))) None

unfoldable pub choice_of : List ℕ → Record → ℕ → Option Opposite
choice_of t v j = cond (holds t (first_at v j)) (Some (opposite false (placed_of t (first_at v j)))) (kept_of t (second_at v j))

module _ (t : List ℕ) (v : Record) (j : ℕ) where
  -- the chosen opposite, and where it stands
  pub record Chose (o : Placed) (s : Option Point) : Type 0 where
    pub slot : o.slot ≡ slot_in t o.at
    pub chosen : chosen_at t v j ≡ Some o.at
    pub spot : s ≡ Some o.at

  placed : (second : Bool) (p : Point) (o : Opposite) → Some (opposite second (placed_of t p)) ≡ Some o → chosen_at t v j ≡ Some p
      → opposite_by v j second ≡ Some p → Chose o.placed (opposite_by v j o.second)
  placed second p o e c f =
      let same : opposite second (placed_of t p) ≡ o = cc in
      subst (λ (x : Opposite). Chose x.placed (opposite_by v j x.second)) same (record { slot = refl; chosen = c; spot = f })

  pub choice-is : (o : Opposite) → choice_of t v j ≡ Some o → Chose o.placed (opposite_by v j o.second)
  unfolding choice_of chosen_at
  choice-is o e = go (holds t (first_at v j)) refl e
    where
      kept : (s : Option Point) → second_at v j ≡ s → holds t (first_at v j) ≡ false → kept_of t s ≡ Some o → Chose o.placed (opposite_by v j o.second)
      kept None f h g = cc
      kept (Some p) f h g = held (holds t p) refl g
        where
          held : (b : Bool) → holds t p ≡ b → cond b (Some (opposite true (placed_of t p))) None ≡ Some o
              → Chose o.placed (opposite_by v j o.second)
          held false k x = cc
          held true k x = placed true p o x
              (ap (λ (b : Bool). cond b (Some (first_at v j)) (there t (second_at v j))) h ∙ ap (there t) f ∙ ap (λ (b : Bool). cond b (Some p) None) k) f

      go : (b : Bool) → holds t (first_at v j) ≡ b
          → cond b (Some (opposite false (placed_of t (first_at v j)))) (kept_of t (second_at v j)) ≡ Some o
          → Chose o.placed (opposite_by v j o.second)
      go true h g = placed false (first_at v j) o g (ap (λ (b : Bool). cond b (Some (first_at v j)) (there t (second_at v j))) h) refl
      go false h g = kept (second_at v j) refl h g

  pub choice-neither : choice_of t v j ≡ None → chosen_at t v j ≡ None
  unfolding choice_of chosen_at
  choice-neither e = go (holds t (first_at v j)) refl e
    where
      kept : (s : Option Point) → kept_of t s ≡ None → there t s ≡ None
      kept None g = refl
      kept (Some p) g = held (holds t p) g
        where
          held : (b : Bool) → cond b (Some (opposite true (placed_of t p))) None ≡ None → cond b (Some p) None ≡ None
          held false x = refl
          held true x = cc

      go : (b : Bool) → holds t (first_at v j) ≡ b
          → cond b (Some (opposite false (placed_of t (first_at v j)))) (kept_of t (second_at v j)) ≡ None
          → cond b (Some (first_at v j)) (there t (second_at v j)) ≡ None
      go true h g = cc
      go false h g = kept (second_at v j) g
