-- Rows put one after the other, and the call by cases.
-- `row_record` the record at a triple, where both lists are good: `row-none`, `row-some`, `row-triple` · `row_put` six stores · `rows_none`, `rows_more`,
-- `rows_long` row by row, `rows_at` each at its place · `many-refused`, `many-short`, `many-done` the call · `after-parts`.
-- Assumes nothing.
use Rattle.std.specs.Prelude.{◌≡◌, refl, ◌≢◌, true, false, List, ◌++◌, leb, ℤ, pos, nat_abs, length, get_or, set, take, drop}
use Rattle.std.proofs.Common.{sym, ◌∙◌, append_assoc, arith, add-one, le-leb, length-drop, take-append-drop, length-take-le, take_at, drop_at, SFits, to_z, of_z}
use Rattle.std.proofs.Math.Path.{ap}
use Rattle.std.proofs.Math.Bool.{Bool, cond}
use Prim.Native.Nat.{ℕ, zero, suc, ◌+◌, ◌*◌, ◌≤◌, ◌<◌}
use Rattle.std.proofs.Math.Decide.{ℕ_discrete}
use Rattle.std.proofs.lemmas.Bool.{lt-leb}
use Rattle.std.proofs.lemmas.List.Edits.{sets, sets-eq}
use Rattle.std.proofs.Math.Seq.{length-sets}
use Rattle.std.proofs.lemmas.List.{take-append-le, drop-append-le}
use Rattle.std.specs.Int.{w32}
use Rattle.std.proofs.lemmas.Int.{to_z-of_z, to_z_pos}
use Rattle.laws.specs.Choices.{unless}
use Rattle.laws.specs.Triples.{triples_in, is_byte}
use Rattle.lattice.specs.Points.{normal_of}
use Rattle.lattice.specs.Records.{nobody}
use Rattle.lattice.specs.declared.points.Point.{Point}
use Rattle.lattice.specs.declared.records.Record.{Record}
use Rattle.centres.specs.Centres.{is_listed}
use Rattle.engine.specs.Engine.{pairs_in, record_by, left_by, VertexAfter, tell_at, bad_base}
use Rattle.engine.specs.Scan.{judge_of}
use Rattle.engine.specs.CallLaws.{call-told}
use Rattle.engine.specs.Many.{record_row, row_width, triple_record, rows_in, RowsAfter, rows_after, vertices_of}

-- ---- the record at a triple, after all pairs, H the listed hexagons
abbrev pub record_or : (Point → Bool) → List ℤ → ℤ → ℤ → ℕ → Record
record_or H ps a b m = (tell_at (record_by H ps (pairs_in ps) (normal_of a b m))).vertex

unfoldable pub row_record : (Point → Bool) → List ℤ → List ℤ → ℕ → Record
row_record H ps qs i =
    unless (is_byte (get_or qs (3 * i + 2) (pos 0))) nobody
    (record_or H ps (get_or qs (3 * i) (pos 0)) (get_or qs (3 * i + 1) (pos 0)) (nat_abs (get_or qs (3 * i + 2) (pos 0))))

module _ (H : Point → Bool) (ps qs : List ℤ) (i : ℕ) where
  pub row_by : (b : Bool) → is_byte (get_or qs (3 * i + 2) (pos 0)) ≡ b
      → unless b nobody (record_or H ps (get_or qs (3 * i) (pos 0)) (get_or qs (3 * i + 1) (pos 0)) (nat_abs (get_or qs (3 * i + 2) (pos 0)))) ≡ row_record H ps qs i
  unfolding row_record
  row_by b e =
      ap (λ (x : Bool). unless x nobody (record_or H ps (get_or qs (3 * i) (pos 0)) (get_or qs (3 * i + 1) (pos 0)) (nat_abs (get_or qs (3 * i + 2) (pos 0))))) (sym e)

-- it is the definition's
pub row-triple : (cs ps qs : List ℤ) → judge_of cs ps ≡ 0 → (i : ℕ) → row_record (is_listed cs) ps qs i ≡ triple_record cs ps qs i
unfolding row_record triple_record
row-triple cs ps qs h i =
    ap (λ (t : VertexAfter). unless (is_byte (get_or qs (3 * i + 2) (pos 0))) nobody t.vertex)
    (call-told cs ps (get_or qs (3 * i) (pos 0)) (get_or qs (3 * i + 1) (pos 0)) (nat_abs (get_or qs (3 * i + 2) (pos 0))) h)

-- ---- six stores
pub row_put : (r : Record) → SFits w32 r.at.a → SFits w32 r.at.b → r.at.m.0 < 256 → r.d < 256 → r.k < 256 → r.n.0 < 256 → (out : List ℤ) (i : ℕ)
    → set (set (set (set (set (set out i (to_z w32 (of_z w32 r.at.a))) (i + 1) (to_z w32 (of_z w32 r.at.b))) (i + 2) (to_z w32 r.at.m.0))
    (i + 3) (to_z w32 r.d)) (i + 4) (to_z w32 r.k)) (i + 5) (to_z w32 r.n.0) ≡ sets out i (record_row r)
row_put r fa fb fm fd fk fn out i =
    let e₁ : i + 1 ≡ suc i = omega arith in
    let e₂ : i + 2 ≡ suc (suc i) = omega arith in
    let e₃ : i + 3 ≡ suc (suc (suc i)) = omega arith in
    let e₄ : i + 4 ≡ suc (suc (suc (suc i))) = omega arith in
    let e₅ : i + 5 ≡ suc (suc (suc (suc (suc i)))) = omega arith in
    λ j. set (set (set (set (set (set out i (to_z-of_z w32 r.at.a fa j)) (e₁ j) (to_z-of_z w32 r.at.b fb j)) (e₂ j) (small r.at.m.0 fm j))
    (e₃ j) (small r.d fd j)) (e₄ j) (small r.k fk j)) (e₅ j) (small r.n.0 fn j)
  where
    small : (x : ℕ) → x < 256 → to_z w32 x ≡ pos x
    small x h = to_z_pos w32 x (omega arith)

-- ---- row by row
pub rows_none : (f : ℕ → Record) (out : List ℤ) → out ≡ rows_in f out 0
unfolding rows_in
rows_none f out = refl

pub rows_more : (f : ℕ → Record) (out : List ℤ) (k : ℕ) → sets (rows_in f out k) (row_width * k) (record_row (f k)) ≡ rows_in f out (k + 1)
unfolding rows_in
rows_more f out k = rw (add-one k)

pub rows_long : (f : ℕ → Record) (out : List ℤ) (k : ℕ) → length (rows_in f out k) ≡ length out
unfolding rows_in
rows_long f out zero = refl
rows_long f out (suc k) = length-sets (rows_in f out k) (row_width * k) (record_row (f k)) ∙ rows_long f out k

pub rows_same : (f g : ℕ → Record) → ((i : ℕ) → f i ≡ g i) → (out : List ℤ) (k : ℕ) → rows_in f out k ≡ rows_in g out k
unfolding rows_in
rows_same f g e out zero = refl
rows_same f g e out (suc k) = λ i. sets (rows_same f g e out k i) (row_width * k) (record_row (e k i))

-- each row stands at its place
pub rows_at : (f : ℕ → Record) (out : List ℤ) (n i : ℕ) → row_width * n ≤ length out → i < n
    → take row_width (drop (row_width * i) (rows_in f out n)) ≡ record_row (f i)
unfolding rows_in
rows_at f out zero i h l = absurd (omega arith)
rows_at f out (suc k) i h l = ap (λ (x : List ℤ). take row_width (drop (row_width * i) x)) whole ∙ last (ℕ_discrete i k) (λ g. rows_at f out k i (omega arith) g)
  where
    xs : List ℤ
    xs = rows_in f out k

    before : List ℤ
    before = take (row_width * k) xs

    rest : List ℤ
    rest = drop (row_width * k + row_width) xs

    long : row_width * k + row_width ≤ length xs
    long = omega (arith, h, rows_long f out k)

    before-long : length before ≡ row_width * k
    before-long = length-take-le (row_width * k) xs (omega (arith, long))

    whole : sets xs (row_width * k) (record_row (f k)) ≡ before ++ (record_row (f k) ++ rest)
    whole = sets-eq (record_row (f k)) xs (row_width * k) long ∙ append_assoc before (record_row (f k)) rest

    -- what comes after the first of two parts is no matter inside it
    inside : (p q r : List ℤ) (a n : ℕ) → a + n ≤ length p → take n (drop a (p ++ q)) ≡ take n (drop a (p ++ r))
    inside p q r a n g =
        let e = length-drop a p in
        let m : n ≤ length (drop a p) = omega (arith, e, g) in
        ap (take n) (drop-append-le a p q (omega arith)) ∙ take-append-le n (drop a p) q m ∙ sym (take-append-le n (drop a p) r m)
        ∙ ap (take n) (sym (drop-append-le a p r (omega arith)))

    last : Dec (i ≡ k) → (i < k → take row_width (drop (row_width * i) xs) ≡ record_row (f i))
        → take row_width (drop (row_width * i) (before ++ (record_row (f k) ++ rest))) ≡ record_row (f i)
    last (yes e) ih =
        ap (λ (n : ℕ). take row_width (drop (row_width * n) (before ++ (record_row (f k) ++ rest)))) e
        ∙ ap (take row_width) (drop_at before (record_row (f k) ++ rest) (row_width * k) before-long)
        ∙ take_at (record_row (f k)) rest row_width refl ∙ ap (λ (n : ℕ). record_row (f n)) (sym e)
    last (no n) ih =
        inside before (record_row (f k) ++ rest) (drop (row_width * k) xs) (row_width * i) row_width (omega (arith, before-long, l, n))
        ∙ ap (λ (x : List ℤ). take row_width (drop (row_width * i) x)) (take-append-drop (row_width * k) xs) ∙ ih (omega arith)

-- ---- the call
pub after-parts : {x y : RowsAfter} → x ≡ y → (x.number ≡ y.number) × (x.rows ≡ y.rows)
after-parts e = (ap (λ (r : RowsAfter). r.number) e, ap (λ (r : RowsAfter). r.rows) e)

module _ (cs ps qs out : List ℤ) where
  abbrev done : RowsAfter
  done = rows_after 0 (rows_in (triple_record cs ps qs) out (triples_in qs))

  abbrev roomy : Bool → RowsAfter
  roomy b = unless b (rows_after 13 out) done

  abbrev room : Bool
  room = leb (row_width * triples_in qs) (length out)

  pub many-refused : judge_of cs ps ≢ 0 → rows_after (judge_of cs ps) out ≡ vertices_of cs ps qs out
  unfolding vertices_of judge_of
  many-refused n = go (bad_base cs) (left_by (is_listed cs) ps) n
    where
      num : Bool → Bool → ℕ
      num x y = cond x 2 (cond y 0 21)

      go : (x y : Bool) → (num x y ≡ 0 → ⊥) → rows_after (num x y) out ≡ cond x (rows_after 2 out) (unless y (rows_after 21 out) (roomy room))
      go true y h = refl
      go false true h = absurd (h refl)
      go false false h = refl

  judged : judge_of cs ps ≡ 0 → roomy room ≡ vertices_of cs ps qs out
  unfolding vertices_of judge_of
  judged n = go (bad_base cs) (left_by (is_listed cs) ps) n
    where
      num : Bool → Bool → ℕ
      num x y = cond x 2 (cond y 0 21)

      go : (x y : Bool) → num x y ≡ 0 → roomy room ≡ cond x (rows_after 2 out) (unless y (rows_after 21 out) (roomy room))
      go true y h = absurd (two h)
        where
          two : ◌≡◌ {A = ℕ} 2 0 → ⊥
          two h = omega arith
      go false true h = refl
      go false false h = absurd (last h)
        where
          last : ◌≡◌ {A = ℕ} 21 0 → ⊥
          last h = omega arith

  pub many-short : judge_of cs ps ≡ 0 → length out < row_width * triples_in qs → rows_after 13 out ≡ vertices_of cs ps qs out
  many-short h l = ap roomy (sym (lt-leb (row_width * triples_in qs) (length out) l)) ∙ judged h

  pub many-done : judge_of cs ps ≡ 0 → row_width * triples_in qs ≤ length out → done ≡ vertices_of cs ps qs out
  many-done h l = ap roomy (sym (le-leb (row_width * triples_in qs) (length out) l)) ∙ judged h
