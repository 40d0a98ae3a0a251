-- What the passes come to, on every table in order. `passes-told` 0, 7 or 8, and a table in order · `Stopped`, `PassesEnd`, `passes-end` "A refused pass
-- is undone whole; passes before it stand, the answer says how many" · `fits-level` past 17 the level is one.
-- Assumes nothing.
use Rattle.std.specs.Prelude.{◌≡◌, refl, Bool, true, cond, ◌&&◌, List, ℕ, zero, suc, ◌+◌, ◌≤◌, ◌<◌, eqb, leb}
use Rattle.std.proofs.Common.{sym, ◌∙◌, ap, subst, inl, arith, eq-eqb, ne_eqb, leb-true}
use Rattle.std.proofs.Math.Decide.{ℕ_discrete}
use Rattle.laws.specs.Each.{both_right}
use Rattle.table.specs.Order.{InOrder}
use Rattle.mesh.specs.Subdivide.{Many}
use Rattle.outlines.specs.declared.values.Outline.{Outline}
use Rattle.outlines.specs.Outlines.{pass_of, many, passes_from, outline_fits, request_fits}
use Rattle.outlines.specs.TurnLaws.{Refusal, pass-number, pass-order, refused-back}

-- ---- the numbers of the passes are 0, 7 and 8
abbrev Told : Many → Type 0
Told m = InOrder m.bytes × Refusal m.number

told-pass : (o : Outline) (level : ℕ) (t : List ℕ) → InOrder t → level ≤ 12 → (i : ℕ) (rest : Many) → ((pass_of o level t).number ≡ 0 → Told rest)
    → Told (cond (eqb (pass_of o level t).number 0) rest (many (pass_of o level t).number i (pass_of o level t).bytes))
told-pass o level t h l i rest ih = go (ℕ_discrete (pass_of o level t).number 0)
  where
    go : Dec ((pass_of o level t).number ≡ 0) → Told (cond (eqb (pass_of o level t).number 0) rest (many (pass_of o level t).number i (pass_of o level t).bytes))
    go (yes z) =
        subst (λ (b : Bool). Told (cond b rest (many (pass_of o level t).number i (pass_of o level t).bytes)))
        (sym (eq-eqb (pass_of o level t).number 0 z)) (ih z)
    go (no z) =
        subst (λ (b : Bool). Told (cond b rest (many (pass_of o level t).number i (pass_of o level t).bytes))) (sym (ne_eqb (pass_of o level t).number 0 z))
        (pass-order o level t h, pass-number o level l t h)

pub passes-told : (o : Outline) (level : ℕ) → level ≤ 12 → (t : List ℕ) → InOrder t → (i left : ℕ)
    → InOrder (passes_from o level t i left).bytes × Refusal (passes_from o level t i left).number
unfolding passes_from
passes-told o level l t h i zero = (h, inl refl)
passes-told o level l t h i (suc left) =
    told-pass o level t h l i (passes_from o level (pass_of o level t).bytes (i + 1) left)
    (λ z. passes-told o level l (pass_of o level t).bytes (pass-order o level t h) (i + 1) left)

-- ---- "A refused pass is undone whole; passes before it stand, the answer says how many": so many passes are accepted and leave the table that is left,
-- and one more there is refused with the number given
pub record Stopped (o : Outline) (level : ℕ) (t : List ℕ) (i left : ℕ) (m : Many) : Type 0 where
  pub before : ℕ
  pub fewer : before < left
  pub count : m.done ≡ i + before
  pub stand : passes_from o level t i before ≡ many 0 m.done m.bytes
  pub next : (pass_of o level m.bytes).number ≡ m.number

pub data PassesEnd (o : Outline) (level : ℕ) (t : List ℕ) (i left : ℕ) (m : Many) : Type 0 where
  ended : m.number ≡ 0 → m.done ≡ i + left → PassesEnd o level t i left m
  stopped : (m.number ≡ 0 → ⊥) → Stopped o level t i left m → PassesEnd o level t i left m

none_made : (o : Outline) (level : ℕ) (t : List ℕ) (i : ℕ) → passes_from o level t i 0 ≡ many 0 i t
unfolding passes_from
none_made o level t i = refl

one-made : (o : Outline) (level : ℕ) (t : List ℕ) (i k : ℕ) → (pass_of o level t).number ≡ 0
    → passes_from o level t i (suc k) ≡ passes_from o level (pass_of o level t).bytes (i + 1) k
unfolding passes_from
one-made o level t i k z =
    let a = pass_of o level t in
    ap (λ (b : Bool). cond b (passes_from o level a.bytes (i + 1) k) (many a.number i a.bytes)) (eq-eqb a.number 0 z)

one-refused : (o : Outline) (level : ℕ) (t : List ℕ) (i k : ℕ) → ((pass_of o level t).number ≡ 0 → ⊥)
    → passes_from o level t i (suc k) ≡ many (pass_of o level t).number i (pass_of o level t).bytes
unfolding passes_from
one-refused o level t i k z =
    let a = pass_of o level t in
    ap (λ (b : Bool). cond b (passes_from o level a.bytes (i + 1) k) (many a.number i a.bytes)) (ne_eqb a.number 0 z)

pub passes-end : (o : Outline) (level : ℕ) (t : List ℕ) (i left : ℕ) → PassesEnd o level t i left (passes_from o level t i left)
passes-end o level t i zero =
    let e = sym (none_made o level t i) in
    subst (PassesEnd o level t i 0) e (ended refl (omega arith))
passes-end o level t i (suc left) = go (ℕ_discrete (pass_of o level t).number 0) (passes-end o level (pass_of o level t).bytes (i + 1) left)
  where
    u : List ℕ
    u = (pass_of o level t).bytes

    later : (pass_of o level t).number ≡ 0 → (m : Many) → PassesEnd o level (pass_of o level t).bytes (i + 1) left m → PassesEnd o level t i (suc left) m
    later z m (ended x y) = ended x (omega arith)
    later z m (stopped x w) =
        stopped x (record {
          before = suc w.before;
          fewer = omega (arith, w.fewer);
          count = omega (arith, w.count);
          stand = one-made o level t i w.before z ∙ w.stand;
          next = w.next;
        })

    go : Dec ((pass_of o level t).number ≡ 0)
        → PassesEnd o level (pass_of o level t).bytes (i + 1) left (passes_from o level (pass_of o level t).bytes (i + 1) left)
        → PassesEnd o level t i (suc left) (passes_from o level t i (suc left))
    go (yes z) r =
        subst (PassesEnd o level t i (suc left)) (sym (one-made o level t i left z))
        (later z (passes_from o level (pass_of o level t).bytes (i + 1) left) r)
    go (no z) r =
        let b = refused-back o level t z in
        subst (PassesEnd o level t i (suc left)) (sym (one-refused o level t i left z))
        (stopped z (record {
          before = 0;
          fewer = omega arith;
          count = omega arith;
          stand = none_made o level t i ∙ ap (many 0 i) (sym b);
          next = ap (λ (x : List ℕ). (pass_of o level x).number) b;
        }))

-- ---- the request
pub fits-level : (o : Outline) (passes level : ℕ) → request_fits o passes level ≡ true → level ≤ 12
unfolding request_fits
fits-level o passes level h =
    let w = both_right (outline_fits o) (leb passes 12 && leb level 12) h in leb-true level 12 (both_right (leb passes 12) (leb level 12) w)
