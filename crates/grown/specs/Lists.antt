-- A base of the model, as the list of numbers a, b, a, b, .. that the call takes: no centre twice.
-- `once` a list of points without the repeats · `numbers` points as numbers · `Numbered`, `base-numbers` each base of the model is a good list's.
-- Assumes nothing.
use Rattle.std.specs.Prelude.{◌≡◌, refl, ◌⊎◌, Bool, true, false, cond, not, ◌||◌, ℕ, zero, suc, ◌+◌, ◌*◌, ◌%◌, ◌<◌, eqb, ℤ, pos, length, get_or}
use Rattle.std.proofs.Common.{sym, ◌∙◌, ap, inl, inr, arith, eq-eqb, ne_eqb, eqb-true}
use Rattle.std.proofs.Math.Path.{subst}
use mathlib.Core.List.Memᴰ
use mathlib.Core.List.{List, [], ◌∷◌, Memᴰ}
use Rattle.std.proofs.Math.Dec.{T}
use Rattle.laws.specs.Bools.{and_left, and_right}
use Rattle.laws.specs.Choices.{is_true, of-true, or_split, or_left, or_right}
use Rattle.laws.specs.Each.{not-both, same_test}
use Rattle.laws.specs.Rules.{run, sound, complete}
use Rattle.lattice.specs.Points.{pt}
use Rattle.lattice.specs.PointLaws.{alike, alike-eq}
use Rattle.lattice.specs.declared.points.Point.{Point}
use Rattle.growth.specs.Sheets.{in_list, CentreSet}
use Rattle.centres.specs.Centres.{centre_at, centres_in, good_centre, listed_in, is_listed, unpaired, GoodList}
use Rattle.centres.specs.MarkLaws.{listed_at, listed-is}

-- ---- without the repeats

once : List Point → List Point
once [] = []
once (c ∷ cs) = cond (in_list cs c) (once cs) (c ∷ once cs)

-- no point stands twice
abbrev Once : List Point → Type 0
Once [] = Unit
Once (c ∷ cs) = (Memᴰ c cs → ⊥) × Once cs

listed-member : (cs : List Point) (p : Point) → T (in_list cs p) → Memᴰ p cs
listed-member [] p t = absurd t
listed-member (c ∷ cs) p t = go (or_split (run (alike c p)) (in_list cs p) t) (λ u. listed-member cs p u)
  where
    go : T (run (alike c p)) ⊎ T (in_list cs p) → (T (in_list cs p) → Memᴰ p cs) → Memᴰ p (c ∷ cs)
    go (inl u) ih = Memᴰ.head (sym (alike-eq c p (sound (alike c p) u)))
    go (inr u) ih = Memᴰ.tail (ih u)

alike_is : (c p : Point) → c ≡ p → T (run (alike c p))
alike_is c p e = complete (alike c p) (ap (λ (q : Point). q.a) e, (ap (λ (q : Point). q.b) e, ap (λ (q : Point). q.m.0) e))

member-listed : (cs : List Point) (p : Point) → Memᴰ p cs → T (in_list cs p)
member-listed [] p m = absurd (Memᴰ.not-nil m)
member-listed (c ∷ cs) p m = go (Memᴰ.cases_cons m) (λ k. member-listed cs p k)
  where
    go : (p ≡ c) ⊎ Memᴰ p cs → (Memᴰ p cs → T (in_list cs p)) → T (run (alike c p) || in_list cs p)
    go (inl e) ih = or_left (run (alike c p)) (in_list cs p) (alike_is c p (sym e))
    go (inr k) ih = or_right (run (alike c p)) (in_list cs p) (ih k)

once-member : (cs : List Point) (p : Point) → Memᴰ p cs → Memᴰ p (once cs)
unfolding once
once-member [] p m = m
once-member (c ∷ cs) p m = go (in_list cs c) refl (Memᴰ.cases_cons m) (λ k. once-member cs p k)
  where
    go : (b : Bool) → in_list cs c ≡ b → (p ≡ c) ⊎ Memᴰ p cs → (Memᴰ p cs → Memᴰ p (once cs)) → Memᴰ p (cond b (once cs) (c ∷ once cs))
    go true e (inl h) ih = ih (listed-member cs p (of-true (ap (in_list cs) h ∙ e)))
    go true e (inr k) ih = ih k
    go false e (inl h) ih = Memᴰ.head h
    go false e (inr k) ih = Memᴰ.tail (ih k)

member-once : (cs : List Point) (p : Point) → Memᴰ p (once cs) → Memᴰ p cs
unfolding once
member-once [] p m = m
member-once (c ∷ cs) p m = go (in_list cs c) m (λ k. member-once cs p k)
  where
    go : (b : Bool) → Memᴰ p (cond b (once cs) (c ∷ once cs)) → (Memᴰ p (once cs) → Memᴰ p cs) → Memᴰ p (c ∷ cs)
    go true k ih = Memᴰ.tail (ih k)
    go false k ih = head-or (Memᴰ.cases_cons k)
      where
        head-or : (p ≡ c) ⊎ Memᴰ p (once cs) → Memᴰ p (c ∷ cs)
        head-or (inl e) = Memᴰ.head e
        head-or (inr l) = Memᴰ.tail (ih l)

once_is : (cs : List Point) → Once (once cs)
unfolding once
once_is [] = tt
once_is (c ∷ cs) = go (in_list cs c) refl (once_is cs)
  where
    go : (b : Bool) → in_list cs c ≡ b → Once (once cs) → Once (cond b (once cs) (c ∷ once cs))
    go true e ih = ih
    go false e ih = (λ m. not-both (is_true (in_list cs c) (member-listed cs c (member-once cs c m))) e, ih)

-- ---- points as numbers

numbers : List Point → List ℤ
numbers [] = []
numbers (c ∷ cs) = c.a ∷ c.b ∷ numbers cs

numbers-length : (cs : List Point) → length (numbers cs) ≡ 2 * length cs
unfolding numbers
numbers-length [] = refl
numbers-length (c ∷ cs) = omega (arith, numbers-length cs)

centre-next : (c : Point) (cs : List Point) (i : ℕ) → centre_at (numbers (c ∷ cs)) (suc i) ≡ centre_at (numbers cs) i
unfolding numbers
centre-next c cs i =
    let e : 2 * suc i ≡ suc (suc (2 * i)) = omega arith in
    let f : 2 * suc i + 1 ≡ suc (suc (2 * i + 1)) = omega arith in
    λ k. pt (get_or (c.a ∷ c.b ∷ numbers cs) (e k) (pos 0)) (get_or (c.a ∷ c.b ∷ numbers cs) (f k) (pos 0)) 0

centre-first : (c : Point) (cs : List Point) → c.m.0 ≡ 0 → centre_at (numbers (c ∷ cs)) 0 ≡ c
unfolding numbers
centre-first c cs d = λ k. pt c.a c.b (sym d k)

-- the points all have depth 0
abbrev Flat : List Point → Type 0
Flat cs = (p : Point) → Memᴰ p cs → p.m.0 ≡ 0

flat-rest : (c : Point) (cs : List Point) → Flat (c ∷ cs) → Flat cs
flat-rest c cs f = λ p m. f p (Memᴰ.tail m)

flat-first : (c : Point) (cs : List Point) → Flat (c ∷ cs) → centre_at (numbers (c ∷ cs)) 0 ≡ c
flat-first c cs f = centre-first c cs (f c (Memᴰ.head refl))

centre-member : (cs : List Point) → Flat cs → (i : ℕ) → i < length cs → Memᴰ (centre_at (numbers cs) i) cs
centre-member [] f i l = absurd (omega arith)
centre-member (c ∷ cs) f zero l = Memᴰ.head (flat-first c cs f)
centre-member (c ∷ cs) f (suc i) l =
    Memᴰ.tail (subst (λ (p : Point). Memᴰ p cs) (sym (centre-next c cs i)) (centre-member cs (flat-rest c cs f) i (omega arith)))

member-centre : (cs : List Point) → Flat cs → (p : Point) → Memᴰ p cs → (i : ℕ) × (i < length cs) × (centre_at (numbers cs) i ≡ p)
member-centre [] f p m = absurd (Memᴰ.not-nil m)
member-centre (c ∷ cs) f p m = go (Memᴰ.cases_cons m) (λ k. member-centre cs (flat-rest c cs f) p k)
  where
    go : (p ≡ c) ⊎ Memᴰ p cs → (Memᴰ p cs → (i : ℕ) × (i < length cs) × (centre_at (numbers cs) i ≡ p))
        → (i : ℕ) × (i < length (c ∷ cs)) × (centre_at (numbers (c ∷ cs)) i ≡ p)
    go (inl e) ih = (0, omega arith, flat-first c cs f ∙ sym e)
    go (inr k) ih = let (i, l, e) = ih k in (suc i, omega arith, centre-next c cs i ∙ e)

centres-apart : (cs : List Point) → Flat cs → Once cs → (i j : ℕ) → i < j → j < length cs → centre_at (numbers cs) i ≡ centre_at (numbers cs) j → ⊥
centres-apart [] f o i j l h e = absurd (omega arith)
centres-apart (c ∷ cs) f o i zero l h e = absurd (omega arith)
centres-apart (c ∷ cs) f o zero (suc j) l h e =
    o.0 (subst (λ (p : Point). Memᴰ p cs) (sym (centre-next c cs j) ∙ sym e ∙ flat-first c cs f) (centre-member cs (flat-rest c cs f) j (omega arith)))
centres-apart (c ∷ cs) f o (suc i) (suc j) l h e =
    centres-apart cs (flat-rest c cs f) o.1 i j (omega arith) (omega arith) (sym (centre-next c cs i) ∙ e ∙ centre-next c cs j)

-- ---- a base of the model

-- a good list whose hexagons are those of H
pub record Numbered (H : Point → Bool) : Type 0 where
  pub list : List ℤ
  pub good : GoodList list
  pub same : (p : Point) → is_listed list p ≡ H p

module _ (H : Point → Bool) (b : CentreSet H) where
  points : List Point
  points = once b.list

  abbrev cs : List ℤ
  cs = numbers points

  point-in : (p : Point) → Memᴰ p points → T (H p)
  unfolding points
  point-in p m = subst T (sym (b.lists p)) (member-listed b.list p (member-once b.list p m))

  in-point : (p : Point) → T (H p) → Memᴰ p points
  unfolding points
  in-point p t = once-member b.list p (listed-member b.list p (subst T (b.lists p) t))

  each-once : Once points
  unfolding points
  each-once = once_is b.list

  flat : Flat points
  flat = λ p m. eqb-true p.m.0 0 (is_true (eqb p.m.0 0) (and_left (eqb p.m.0 0) (good_centre p) (b.ranges p (point-in p m))))

  how-many : centres_in cs ≡ length points
  how-many = omega (arith, numbers-length points)

  below : (i : ℕ) → i < centres_in cs → i < length points
  below i l = omega (arith, how-many)

  pairs : unpaired cs ≡ false
  pairs =
      let (p, t) = b.some-centre in
      let (i, l, e) = member-centre points flat p (in-point p t) in
      let n = numbers-length points in
      (λ k. ne_eqb (length cs) 0 (λ z. omega arith) k || not (eq-eqb (length cs % 2) 0 (omega arith) k))

  good-at : (i : ℕ) → i < centres_in cs → good_centre (centre_at cs i) ≡ true
  good-at i l =
      let p = centre_at cs i in
      is_true (good_centre p) (and_right (eqb p.m.0 0) (good_centre p) (b.ranges p (point-in p (centre-member points flat i (below i l)))))

  once-at : (i : ℕ) → i < centres_in cs → listed_in cs i (centre_at cs i) ≡ false
  once-at i l = go (listed_in cs i (centre_at cs i)) refl
    where
      go : (x : Bool) → listed_in cs i (centre_at cs i) ≡ x → listed_in cs i (centre_at cs i) ≡ false
      go false e = e
      go true e = let (j, h, q) = listed-is cs i (centre_at cs i) e in absurd (centres-apart points flat each-once j i h (below i l) q)

  -- it lists what H says
  lists-in : (p : Point) → is_listed cs p ≡ true → H p ≡ true
  lists-in p e =
      let (i, l, q) = listed-is cs (centres_in cs) p e in
      is_true (H p) (point-in p (subst (λ (x : Point). Memᴰ x points) q (centre-member points flat i (below i l))))

  in-lists : (p : Point) → H p ≡ true → is_listed cs p ≡ true
  in-lists p e =
      let (i, l, q) = member-centre points flat p (in-point p (of-true e)) in
      ap (is_listed cs) (sym q) ∙ listed_at cs (centres_in cs) i (omega (arith, how-many))

  pub base-numbers : Numbered H
  base-numbers =
      record {
        list = cs;
        good = record { paired = pairs; good = good-at; once = once-at };
        same = λ p. same_test (is_listed cs p) (H p) (lists-in p) (in-lists p);
      }
