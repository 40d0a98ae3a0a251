-- Rows of numbers as the code fills them. `row_put` a point's numbers, from a place on · `six_numbers` a row by a function of places, `mixed`,
-- `mixed-more` two of them, the one up to a place and the other from there, one place on · `row-start` the row of no points, `row-zeros` of a refusal
-- · `row-point` the point at a place of it, `ring-point`, `adjacent-byte` of a vertex's · `answer-parts`
-- what equal answers share.
-- Assumes nothing.
use Rattle.std.specs.Prelude.{◌≡◌, Bool, cond, List, ltb, ℤ, get_or, set, replicate}
use Rattle.std.proofs.Math.Path.{refl}
use Rattle.std.proofs.Common.{ap, ◌∙◌, arith, lt-ltb, SFits, to_z, of_z}
use Prim.Native.Nat.{ℕ, zero, suc, ◌+◌, ◌*◌, ◌<◌}
use Rattle.std.proofs.Math.IntN.{pos}
use Rattle.std.proofs.lemmas.List.Edits.{sets}
use Rattle.std.specs.Int.{w32}
use Rattle.std.proofs.lemmas.Int.{to_z-of_z, to_z_pos}
use Rattle.lattice.specs.Patterns.{adjacent_of}
use Rattle.lattice.specs.PatternLaws.{adjacent-near}
use Rattle.lattice.specs.Places.{sum-depth}
use Rattle.lattice.specs.RecordLaws.{Inner}
use Rattle.lattice.specs.Stars.{scale_of, adjacent_at, nowhere, answer, refused, cell_of, given}
use Rattle.lattice.specs.declared.points.Point.{Point}
use Rattle.lattice.specs.declared.records.Record.{Record}
use Rattle.lattice.specs.declared.stars.Answer.{Answer}
use Rattle.lattice.specs.AnswerRows.{point_numbers, points_numbers, answer_numbers}

module _ (p : Point) (fa : SFits w32 p.a) (fb : SFits w32 p.b) (fm : p.m.0 < 256) where
  back-m : to_z w32 p.m.0 ≡ pos p.m.0
  back-m = to_z_pos w32 p.m.0 (omega (arith, fm))

  -- three numbers of a row
  pub row_put :
      (out : List ℤ) (i : ℕ)
      → set (set (set out i (to_z w32 (of_z w32 p.a))) (i + 1) (to_z w32 (of_z w32 p.b))) (i + 2) (to_z w32 p.m.0) ≡ sets out i (point_numbers p)
  row_put out i =
      let e₁ : i + 1 ≡ suc i = omega arith in
      let e₂ : i + 2 ≡ suc (suc i) = omega arith in
      λ j. set (set (set out i (to_z-of_z w32 p.a fa j)) (e₁ j) (to_z-of_z w32 p.b fb j)) (e₂ j) (back-m j)

-- the row of six points
abbrev pub six_numbers : ℕ → (ℕ → Point) → List ℤ
six_numbers d f = answer_numbers (answer 0 d (f 0) (f 1) (f 2) (f 3) (f 4) (f 5))

-- the points of f below place j, and those of g from there on
abbrev pub mixed : (ℕ → Point) → (ℕ → Point) → ℕ → ℕ → Point
mixed f g j i = cond (ltb i j) (f i) (g i)

pub mixed-more :
    (d : ℕ) (f g : ℕ → Point) (j : ℕ) → j < 6 → (p : Point) → p ≡ f j
    → sets (six_numbers d (mixed f g j)) (3 * j + 1) (point_numbers p) ≡ six_numbers d (mixed f g (j + 1))
unfolding answer_numbers points_numbers
mixed-more d f g j h p e = ap (λ (q : Point). sets (six_numbers d (mixed f g j)) (3 * j + 1) (point_numbers q)) e ∙ go j h
  where
    go : (j : ℕ) → j < 6 → sets (six_numbers d (mixed f g j)) (3 * j + 1) (point_numbers (f j)) ≡ six_numbers d (mixed f g (j + 1))
    go zero h = refl
    go (suc zero) h = refl
    go (suc (suc zero)) h = refl
    go (suc (suc (suc zero))) h = refl
    go (suc (suc (suc (suc zero)))) h = refl
    go (suc (suc (suc (suc (suc zero))))) h = refl
    go (suc (suc (suc (suc (suc (suc j)))))) h = absurd (omega arith)

-- all zeros but the count
pub row-start : (d : ℕ) → d < 256 → set (replicate 19 (pos 0)) 0 (to_z w32 d) ≡ six_numbers d (λ i. nowhere)
unfolding answer_numbers points_numbers
row-start d h = ap (set (replicate 19 (pos 0)) 0) (to_z_pos w32 d (omega (arith, h)))

pub row-zeros : (n : ℕ) → replicate 19 (pos 0) ≡ answer_numbers (refused n)
unfolding answer_numbers points_numbers
row-zeros n = refl

-- the point at place i
module _ (d : ℕ) (f : ℕ → Point) (j : ℕ) (h : j < 6) where
  pub row-point :
      (get_or (six_numbers d f) (3 * j + 1) (pos 0) ≡ (f j).a)
      × (get_or (six_numbers d f) (3 * j + 1 + 1) (pos 0) ≡ (f j).b)
      × (get_or (six_numbers d f) (3 * j + 1 + 2) (pos 0) ≡ pos (f j).m.0)
  unfolding answer_numbers points_numbers
  row-point = go j h
    where
      go : (j : ℕ) → j < 6
          → (get_or (six_numbers d f) (3 * j + 1) (pos 0) ≡ (f j).a)
          × (get_or (six_numbers d f) (3 * j + 1 + 1) (pos 0) ≡ (f j).b)
          × (get_or (six_numbers d f) (3 * j + 1 + 2) (pos 0) ≡ pos (f j).m.0)
      go zero h = (refl, refl, refl)
      go (suc zero) h = (refl, refl, refl)
      go (suc (suc zero)) h = (refl, refl, refl)
      go (suc (suc (suc zero))) h = (refl, refl, refl)
      go (suc (suc (suc (suc zero)))) h = (refl, refl, refl)
      go (suc (suc (suc (suc (suc zero))))) h = (refl, refl, refl)
      go (suc (suc (suc (suc (suc (suc j)))))) h = absurd (omega arith)

-- the adjacent point at a place of a vertex's row
module _ (v : Record) (i : Inner v) (j : ℕ) (h : j < v.d) where
  cell : cell_of v j ≡ adjacent_at v j
  cell = ap (λ (b : Bool). cond b (adjacent_at v j) nowhere) (lt-ltb j v.d h)

  pub ring-point :
      (get_or (answer_numbers (given v)) (3 * j + 1) (pos 0) ≡ (adjacent_at v j).a)
      × (get_or (answer_numbers (given v)) (3 * j + 1 + 1) (pos 0) ≡ (adjacent_at v j).b)
      × (get_or (answer_numbers (given v)) (3 * j + 1 + 2) (pos 0) ≡ pos (adjacent_at v j).m.0)
  ring-point =
      let p = row-point v.d (cell_of v) j (omega (arith, i.top, h)) in
      (p.0 ∙ ap (λ (q : Point). q.a) cell, p.1 ∙ ap (λ (q : Point). q.b) cell, p.2 ∙ ap (λ (q : Point). pos q.m.0) cell)

  pub adjacent-byte : (adjacent_at v j).m.0 < 256
  adjacent-byte =
      omega (arith, sum-depth v.at (scale_of v.n (adjacent_of v.d v.k j)), i.depth, (adjacent-near v i j h).depth)

-- equal answers: their numbers, and their rows
pub answer-parts : {x y : Answer} → x ≡ y → (x.number ≡ y.number) × (answer_numbers x ≡ answer_numbers y)
answer-parts e = (ap (λ (r : Answer). r.number) e, ap answer_numbers e)
