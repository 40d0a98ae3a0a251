-- The row of the faces, as it is filled corner by corner: `opposite` the opposite of a corner, `OppositesPut` the row so far, `opposites-start`,
-- `opposites-more`, `opposites-fail`, `opposites-end` · `by-arms` the opposite by two arms · `ArmsAt` the arms of a corner of a regular star,
-- `arms-turned`, `both-light`, `chosen-arms` its opposite by them.
-- Assumes nothing.
use Rattle.std.specs.Prelude.{◌≡◌, refl, Bool, true, false, List, ℕ, ◌+◌, ◌*◌, ◌≤◌, ◌<◌, ltb, ℤ, Option, Some, None}
use Rattle.std.proofs.Math.Path.{sym, ap}
use Rattle.std.proofs.Common.{◌∙◌, subst, arith}
use Rattle.std.proofs.Math.Bool.{cond}
use Rattle.std.proofs.lemmas.List.Edits.{sets}
use Rattle.laws.specs.Each.{upto-more, upto-fails}
use Rattle.laws.specs.Rules.{upto}
use Rattle.lattice.specs.AnswerRows.{point_numbers, answer_numbers}
use Rattle.lattice.specs.AnswerRowLaws.{six_numbers, mixed, mixed-more}
use Rattle.lattice.specs.Arms.{regular_of, near_arm, far_arm, next_arm}
use Rattle.lattice.specs.ArmLaws.{near_next, far-next, near-light, far-light, second-by-arm}
use Rattle.lattice.specs.RecordLaws.{Inner}
use Rattle.lattice.specs.Stars.{adjacent_at, cell_of, first_at, nowhere, answer, given}
use Rattle.lattice.specs.Terms.{added_of, Light}
use Rattle.lattice.specs.declared.points.Point.{Point}
use Rattle.lattice.specs.declared.points.Terms.{Terms}
use Rattle.lattice.specs.declared.records.Record.{Record}
use Rattle.table.specs.Entries.{holds}
use Rattle.queries.specs.Asked.{chosen_by}
use Rattle.queries.specs.Queries.{there, chosen_at, is_point, corners_there, point_or0, face_cell, faces_given}

module _ (t : List ℕ) (v : Record) where
  -- corner j has an opposite in the table, and which
  abbrev has_opposite : ℕ → Bool
  has_opposite j = is_point (chosen_at t v j)

  abbrev opposite : ℕ → Point
  opposite j = point_or0 (chosen_at t v j)

  -- the opposites in the places of the adjacent points
  faces-row : six_numbers v.d (mixed opposite (cell_of v) v.d) ≡ answer_numbers (faces_given t v)
  faces-row = λ k. answer_numbers (answer 0 v.d (at 0 k) (at 1 k) (at 2 k) (at 3 k) (at 4 k) (at 5 k))
    where
      once : (b : Bool) (p q : Point) → cond b p (cond b q nowhere) ≡ cond b p nowhere
      once true p q = refl
      once false p q = refl

      at : (i : ℕ) → mixed opposite (cell_of v) v.d i ≡ face_cell t v i
      at i = once (ltb i v.d) (opposite i) (adjacent_at v i)

  -- each corner below j has an opposite, and these stand before the adjacent points that are left
  pub record OppositesPut (j : ℕ) (out : List ℤ) : Type 0 where
    pub most : j ≤ v.d
    pub have : upto j has_opposite ≡ true
    pub row : out ≡ six_numbers v.d (mixed opposite (cell_of v) j)

  pub opposites-start : (out : List ℤ) → out ≡ answer_numbers (given v) → OppositesPut 0 out
  opposites-start out e = record { most = omega arith; have = refl; row = e }

  module _ (j : ℕ) (out : List ℤ) (h : j < v.d) where
    pub opposites-more :
        Inner v → OppositesPut j out → (p : Point) → chosen_at t v j ≡ Some p → OppositesPut (j + 1) (sets out (3 * j + 1) (point_numbers p))
    opposites-more i o p e =
        record {
          most = omega (arith, h);
          have = upto-more has_opposite j o.have (ap is_point e);
          row = ap (λ (l : List ℤ). sets l (3 * j + 1) (point_numbers p)) o.row
              ∙ mixed-more v.d opposite (cell_of v) j (omega (arith, i.top, h)) p (sym (ap point_or0 e));
        }

    pub opposites-fail : chosen_at t v j ≡ None → false ≡ corners_there t v
    unfolding corners_there
    opposites-fail e = sym (upto-fails has_opposite j v.d h (ap is_point e))

  pub opposites-end :
      (j : ℕ) (out : List ℤ) → OppositesPut j out → (j < v.d → ⊥) → (true ≡ corners_there t v) × (out ≡ answer_numbers (faces_given t v))
  unfolding corners_there
  opposites-end j out o h =
      let e : j ≡ v.d = omega (arith, o.most, h) in (
        sym o.have ∙ ap (λ (k : ℕ). upto k has_opposite) e,
        o.row ∙ ap (λ (k : ℕ). six_numbers v.d (mixed opposite (cell_of v) k)) e ∙ faces-row,
      )

-- ---- by two arms
pub by-arms : (t : List ℕ) (near far : Terms) (b : Bool) → holds t (added_of near) ≡ b
    → cond b (Some (added_of near)) (there t (Some (added_of far))) ≡ chosen_by t near far
by-arms t near far b h = ap (λ (c : Bool). cond c (Some (added_of near)) (there t (Some (added_of far)))) (sym h)

-- the arms to the opposites of corner j, if there is such a corner
pub record ArmsAt (v : Record) (j : ℕ) (near far : Terms) : Type 0 where
  pub first : j < v.d → near ≡ near_arm v j
  pub second : j < v.d → far ≡ far_arm v j

module _ (v : Record) (e : regular_of v.d ≡ true) (j : ℕ) (near far : Terms) where
  pub arms-turned :
      ArmsAt v j near far → (near' far' : Terms) → near' ≡ next_arm v.d near → far' ≡ next_arm v.d far → ArmsAt v (j + 1) near' far'
  arms-turned a near' far' n f =
      record {
        first = λ h. n ∙ ap (next_arm v.d) (a.first (omega (arith, h))) ∙ near_next v j e h;
        second = λ h. f ∙ ap (next_arm v.d) (a.second (omega (arith, h))) ∙ far-next v j e h;
      }

  module _ (h : j < v.d) (a : ArmsAt v j near far) where
    pub both-light : Inner v → Light near × Light far
    both-light i = (subst Light (sym (a.first h)) (near-light v i j h), subst Light (sym (a.second h)) (far-light v i j h e))

    pub chosen-arms : (t : List ℕ) → chosen_by t near far ≡ chosen_at t v j
    unfolding chosen_at
    chosen-arms t =
        (λ i. chosen_by t (a.first h i) (a.second h i))
        ∙ ap (λ (s : Option Point). cond (holds t (first_at v j)) (Some (first_at v j)) (there t s)) (sym (second-by-arm v e j h))
