-- A slot compared by its first two words at once: two pairs of words are equal as numbers where and only where both words are. So the rest of a slot
-- is asked only where the pair is that of a free slot (`gap-rest`, else `gap-none`) or of the point (`hit-rest`, else `hit-none`). `paired` the pair of two
-- numbers that were cast.
-- Assumes nothing.
use Rattle.std.specs.Prelude.{◌≡◌, Bool, true, false, ◌&&◌, List, ℕ, ◌+◌, ◌<◌, eqb, ℤ, get_or}
use Rattle.std.proofs.Common.{sym, ap, ◌∙◌, arith, eq-eqb, eqb-true, SFits, Fits, of_z, to_z, to_z-of_z}
use Rattle.std.specs.Int.{w32}
use Rattle.std.proofs.Math.Facts.{of_z-to_z, sfits_to_z, Fits-of_z}
use Rattle.laws.specs.Words.{word_at}
use Rattle.laws.specs.Rules.{eq_z}
use Rattle.laws.specs.Signs.{same_bits}
use Rattle.laws.specs.Each.{both_left, both_right, same_test, never}
use Rattle.lattice.specs.declared.points.Point.{Point}
use Rattle.table.specs.Slots.{free_at, signed, record_at}
use Rattle.table.specs.Reading.{Word, First, pair_of}
use Rattle.table.specs.Search.{same_point}
use Rattle.table.specs.SlotLaws.{free-first, free-words}

word_below : (t : List ℕ) (p w : ℕ) → Word t p w → w < 4294967296
unfolding word_at
word_below t p w W = omega (arith, W.is, W.byte0, W.byte1, W.byte2, W.byte3)

parts : (a b x y : ℕ) → a < 4294967296 → x < 4294967296 → pair_of a b ≡ pair_of x y → (a ≡ x) × (b ≡ y)
parts a b x y ha hx e = omega arith

word-is : (u : ℕ) (z : ℤ) → u < 4294967296 → SFits w32 z → eq_z (signed u) z ≡ eqb u (of_z w32 z)
word-is u z h f =
    let l : Fits w32 u = record { fits = h } in
    sym (same_bits (signed u) z (sfits_to_z l).sfits f.sfits) ∙ ap (λ (v : ℕ). eqb v (of_z w32 z)) (of_z-to_z l)

-- the pair of what two numbers were cast to, as the machine hands them on
pub paired : (x y : ℤ) (u v f : ℕ) → SFits w32 x → SFits w32 y → u ≡ of_z w32 (to_z w32 (of_z w32 x)) → v ≡ of_z w32 (to_z w32 (of_z w32 y)) → f ≡ pair_of u v
    → f ≡ pair_of (of_z w32 x) (of_z w32 y)
paired x y u v f fa fb eu ev e = e ∙ rw (eu, ev, to_z-of_z fa, to_z-of_z fb)

module _ (t : List ℕ) (s f : ℕ) (F : First t s f) where
  abbrev a : ℕ
  a = word_at t s

  abbrev b : ℕ
  b = word_at t (s + 4)

  la : a < 4294967296
  la = word_below t s a F.low

  lb : b < 4294967296
  lb = word_below t (s + 4) b F.high

  pub gap-rest : (c : ℕ) → Word t (s + 8) c → f ≡ 18446744073709551615 → eqb c 4294967295 ≡ free_at t s
  gap-rest c C e =
      let p = parts a b 4294967295 4294967295 la (omega arith) (sym F.is ∙ e) in
      sym (free-words t s a b c F.low F.high C ∙ rw (eq-eqb a 4294967295 p.0, eq-eqb b 4294967295 p.1))

  pub gap-none : (f ≡ 18446744073709551615 → ⊥) → false ≡ free_at t s
  gap-none n = same_test false (free_at t s) (λ h. absurd (never h)) (λ h. absurd (n (go (free-first t s a b F.low F.high h))))
    where
      go : (a ≡ 4294967295) × (b ≡ 4294967295) → f ≡ 18446744073709551615
      go e = F.is ∙ rw (e.0, e.1)

  module _ (p : Point) (fa : SFits w32 p.a) (fb : SFits w32 p.b) where
    abbrev x : ℕ
    x = of_z w32 p.a

    abbrev y : ℕ
    y = of_z w32 p.b

    same-is : same_point (record_at t s).at p ≡ (eqb a x && eqb b y) && eqb (get_or t (s + 8) 0) p.m.0
    unfolding same_point record_at
    same-is = rw (word-is a p.a la fa, word-is b p.b lb fb)

    -- both compared at once
    pub hit-both : eqb f (pair_of x y) && eqb (get_or t (s + 8) 0) p.m.0 ≡ same_point (record_at t s).at p
    hit-both = ap (λ (c : Bool). c && eqb (get_or t (s + 8) 0) p.m.0) (same_test (eqb f (pair_of x y)) (eqb a x && eqb b y) there back) ∙ sym same-is
      where
        there : eqb f (pair_of x y) ≡ true → eqb a x && eqb b y ≡ true
        there h =
            let q = parts a b x y la (Fits-of_z fa).fits (sym F.is ∙ eqb-true f (pair_of x y) h) in
            rw (eq-eqb a x q.0, eq-eqb b y q.1)

        back : eqb a x && eqb b y ≡ true → eqb f (pair_of x y) ≡ true
        back h =
            eq-eqb f (pair_of x y)
            (F.is ∙ rw (eqb-true a x (both_left (eqb a x) (eqb b y) h), eqb-true b y (both_right (eqb a x) (eqb b y) h)))

    pub hit-rest : f ≡ pair_of x y → eqb (get_or t (s + 8) 0) p.m.0 ≡ same_point (record_at t s).at p
    hit-rest e =
        let q = parts a b x y la (Fits-of_z fa).fits (sym F.is ∙ e) in
        sym (same-is ∙ rw (eq-eqb a x q.0, eq-eqb b y q.1))

    pub hit-none : (f ≡ pair_of x y → ⊥) → false ≡ same_point (record_at t s).at p
    hit-none n = same_test false (same_point (record_at t s).at p) (λ h. absurd (never h)) (λ h. absurd (n (go (sym same-is ∙ h))))
      where
        go : (eqb a x && eqb b y) && eqb (get_or t (s + 8) 0) p.m.0 ≡ true → f ≡ pair_of x y
        go h =
            let ab = both_left (eqb a x && eqb b y) (eqb (get_or t (s + 8) 0) p.m.0) h in
            F.is ∙ rw (eqb-true a x (both_left (eqb a x) (eqb b y) ab), eqb-true b y (both_right (eqb a x) (eqb b y) ab))
