-- From the keys laid to the keys sorted: they are those of the findings of the vertices, vertex by vertex.
-- `stands-as-long` the findings of the vertices are as long as those on the plan · `laid-fit`, `laid-room` the keys laid may be sorted · `ready` they
-- are sorted, `ready-past` and what stands behind them · `parts-inside`, `joined-inside` both parts are no longer than the list.
-- Assumes nothing.
use Rattle.std.specs.Prelude.{◌≡◌, refl, Bool, cond, not, ℕ, ◌+◌, ◌*◌, ◌≤◌, ◌<◌, ltb, drop}
use Rattle.std.proofs.Math.Path.{sym, ap}
use Rattle.std.proofs.Common.{◌∙◌, subst, lt-ltb, le-ltb}
use Rattle.std.proofs.Math.Bool.{true, false}
use mathlib.Core.List.{List, [], ◌∷◌, ◌++◌, map, Memᴰ}
use native.Mathlib.Omega.{arith}
use Rattle.std.proofs.Math.Decide.{dec_lt}
use Rattle.std.proofs.Math.ListN.{length, length-append, length-map}
use Rattle.table.specs.Order.{InOrder}
use Rattle.table.specs.Entries.{holds}
use Rattle.text.specs.LineOrder.{order_of, Close}
use Rattle.sorting.specs.Sorting.{sort_by, key_width, key_in, keys_in}
use Rattle.sorting.specs.SortLaws.{mem-sort, sort-map, at_mem}
use Rattle.sorting.specs.KeyLaws.{firsts-length, firsts_at, by_rank, keys-sorted}
use Rattle.sorting.specs.HeapKeys.{Ranked}
use Rattle.findings.specs.Findings.{entry_at, point_of, keep, standing, lost, stands_text, lost_text, texts, joined, Sound, read_list}
use Rattle.findings.specs.EntryLaws.{InList, good-is, entry_in, entry-from, entry_next}
use Rattle.findings.specs.TextLengths.{stands-most, lost-most}
use Rattle.findings.specs.KeepLaws.{mem-keep}
use Rattle.findings.specs.StandingLaws.{on_plan, lengths, rank_of, sooner, plan-close, standing-sorted}
use Rattle.findings.specs.ListLaws.{Lines, sound-lines, lines-in, lines-later}
use Rattle.findings.specs.OnceLaws.{standing-long}
use Rattle.findings.specs.Judged.{found, AllSound, parts_of}
use Rattle.findings.specs.Ranks.{short, is_short, key_of, place_of, order_in, rank, AllFit}
use Rattle.findings.specs.RankLaws.{key-short, key-long, rank-short, rank-long, short-place, key-place}
use Rattle.findings.specs.Laying.{lost_end, Laid, Ready}
use Rattle.findings.specs.LayLaws.{texts-least}
use Rattle.findings.specs.declared.line.Finding.{Finding}

-- ---- keys are compared as their findings are

-- a greater base keeps the order
wider : (p q x y : ℕ) → x < short → y < short → ltb (p * lengths + x) (q * lengths + y) ≡ ltb (p * short + x) (q * short + y)
wider p q x y hx hy = go (dec_lt p q) (dec_lt q p) (dec_lt x y)
  where
    go : Dec (p < q) → Dec (q < p) → Dec (x < y) → ltb (p * lengths + x) (q * lengths + y) ≡ ltb (p * short + x) (q * short + y)
    go (yes a) b c = lt-ltb (p * lengths + x) (q * lengths + y) (omega arith) ∙ sym (lt-ltb (p * short + x) (q * short + y) (omega arith))
    go (no a) (yes b) c = le-ltb (p * lengths + x) (q * lengths + y) (omega arith) ∙ sym (le-ltb (p * short + x) (q * short + y) (omega arith))
    go (no a) (no b) (yes c) = lt-ltb (p * lengths + x) (q * lengths + y) (omega arith) ∙ sym (lt-ltb (p * short + x) (q * short + y) (omega arith))
    go (no a) (no b) (no c) = le-ltb (p * lengths + x) (q * lengths + y) (omega arith) ∙ sym (le-ltb (p * short + x) (q * short + y) (omega arith))

module _ (l : List ℕ) (small : length l < lengths) where
  place-small : (f : Finding) → InList l f → f.from < lengths
  place-small f i = let w = entry_next l f.from f i in omega (arith, w.0, w.1)

  -- in a long list a key's rank is its finding's
  rank-key : is_short l ≡ false → (f : Finding) → InList l f → rank l (key_of l f) ≡ rank_of f
  rank-key h f i =
      ap (rank l) (sym (key-long l h f)) ∙ sym (rank-long l h f.from) ∙ ap (λ (e : _). order_in e * lengths + f.from) i

  sooner-key : (f g : Finding) → InList l f → InList l g → sooner f g ≡ by_rank (rank l) (key_of l f) (key_of l g)
  sooner-key f g i j = go (is_short l) refl
    where
      go : (b : Bool) → is_short l ≡ b → sooner f g ≡ by_rank (rank l) (key_of l f) (key_of l g)
      go true h =
          wider (order_of (point_of f)) (order_of (point_of g)) f.from g.from (short-place l h f i) (short-place l h g j)
          ∙ (λ z. ltb (key-short l h f z) (key-short l h g z)) ∙ (λ z. ltb (rank-short l h (key_of l f) z) (rank-short l h (key_of l g) z))
      go false h = λ z. ltb (sym (rank-key h f i) z) (sym (rank-key h g j) z)

  -- and keys of one rank are one
  key_one : (f g : Finding) → InList l f → InList l g → rank l (key_of l f) ≡ rank l (key_of l g) → key_of l f ≡ key_of l g
  key_one f g i j e = go (is_short l) refl
    where
      go : (b : Bool) → is_short l ≡ b → key_of l f ≡ key_of l g
      go true h = rank-short l h (key_of l f) ∙ e ∙ sym (rank-short l h (key_of l g))
      go false h =
          let q : rank_of f ≡ rank_of g = sym (rank-key h f i) ∙ e ∙ rank-key h g j in
          let a = place-small f i in
          let b = place-small g j in
          let z : f.from ≡ g.from = omega arith in
          sym (key-long l h f) ∙ z ∙ key-long l h g

-- ---- the keys laid

module _ (t l : List ℕ) (in_order : InOrder t) (sound : AllSound l) where
  abbrev fs : List Finding
  fs = found l

  good : (f : Finding) → Memᴰ f (on_plan t fs) → InList l f
  good f m = lines-in l fs (sound-lines l fs sound) f (mem-keep (λ g. holds t (point_of g)) fs f m).0

  module _ (small : length l < lengths) where
    plan-sorted : standing t fs ≡ sort_by sooner (on_plan t fs)
    plan-sorted =
        let w = sound-lines l fs sound in
        standing-sorted fs (lines-later l 0 fs w) (λ f m. place-small l small f (lines-in l fs w f m)) t in_order

  -- the findings of the vertices are as long as those on the plan
  pub stands-as-long : (parts_of t l fs).stands ≡ length (texts (stands_text l) (standing t fs))
  unfolding parts_of
  stands-as-long = sym (standing-long t in_order (stands_text l) fs)

  module _ (start : ℕ) (begin : start ≡ (parts_of t l fs).stands) (o o₁ : List ℕ) (k : ℕ) (laid : Laid t l start fs o o₁ k) where
    -- a key laid is that of a finding on the plan
    laid-key : (i : ℕ) → i < k → (f : Finding) × Memᴰ f (on_plan t fs) × (key_of l f ≡ key_in o₁ i)
    laid-key i h =
        let m : Memᴰ (key_in o₁ i) (keys_in o₁ k) =
        subst (λ (v : ℕ). Memᴰ v (keys_in o₁ k)) (firsts_at (key_in o₁) k i h) (at_mem 0 (keys_in o₁ k) i (omega (arith, firsts-length (key_in o₁) k))) in
        mathlib.Core.List.Memᴰ.of_map (key_of l) (on_plan t fs) (subst (Memᴰ (key_in o₁ i)) laid.keys m)

    pub laid-fit : AllFit l o₁ k
    laid-fit i h g e =
        let (f, m, q) = laid-key i h in
        let same : f ≡ g = good-is (sym (key-place l f (good f m)) ∙ ap (λ (v : ℕ). entry_at l (place_of l v)) q ∙ e) in
        subst (λ (x : Finding). Close (point_of x)) same (plan-close t in_order (point_of f) (mem-keep (λ x. holds t (point_of x)) fs f m).1)

    pub laid-room : key_width * k ≤ start
    unfolding parts_of
    laid-room =
        let count : k ≡ length (on_plan t fs) = sym (firsts-length (key_in o₁) k) ∙ ap length laid.keys ∙ length-map (on_plan t fs) (key_of l) in
        omega (arith, begin, texts-least l (on_plan t fs))

    -- ---- sorted

    module _ (small : length l < lengths) (o₂ : List ℕ) (ranked : Ranked (rank l) o₁ k o₂) where
      apart : (i j : ℕ) → i < k → j < k → rank l (key_in o₁ i) ≡ rank l (key_in o₁ j) → key_in o₁ i ≡ key_in o₁ j
      apart i j hi hj e =
          let (f, m, p) = laid-key i hi in
          let (g, n, q) = laid-key j hj in
          sym p ∙ key_one l small f g (good f m) (good g n) (ap (rank l) p ∙ e ∙ ap (rank l) (sym q)) ∙ q

      pub ready : start ≤ length o → Ready l (standing t fs) o₂ k start
      ready room = record {
        keys =
            keys-sorted (rank l) o₁ k o₂ ranked.moved ranked.rises apart
            ∙ ap (sort_by (by_rank (rank l))) laid.keys
            ∙ sym (sort-map sooner (by_rank (rank l)) (key_of l) (on_plan t fs) (λ f g m n. sooner-key l small f g (good f m) (good g n)))
            ∙ ap (map (key_of l)) (sym (plan-sorted small));
        in_list = λ f m. good f (mem-sort sooner (on_plan t fs) f (subst (Memᴰ f) (plan-sorted small) m));
        long = begin ∙ stands-as-long;
        room = omega (arith, ranked.moved.long, laid.long);
      }

      pub ready-past : drop start o₂ ≡ texts (lost_text l) (lost t fs) ++ drop (lost_end t l start fs) o
      ready-past = ranked.moved.past start laid-room ∙ laid.lines

-- ---- both parts are no longer than the list

module _ (t l : List ℕ) where
  inside : (p : ℕ) (fs : List Finding) → p ≤ length l → Lines l p fs
      → p + length (texts (stands_text l) (on_plan t fs)) + length (texts (lost_text l) (lost t fs)) ≤ length l
  unfolding keep texts
  inside p [] h w = omega arith
  inside p (f ∷ fs) h w =
      let i = entry_in l p f w.0 in
      let n = entry_next l p f w.0 in
      go (holds t (point_of f)) (entry-from l p f w.0) (stands-most l f i) (lost-most l f i) (inside f.next fs n.1 w.1)
    where
      go : (b : Bool) → f.from ≡ p → f.from + length (stands_text l f) ≤ f.next → f.from + length (lost_text l f) < f.next
          → f.next + length (texts (stands_text l) (on_plan t fs)) + length (texts (lost_text l) (lost t fs)) ≤ length l
          → p + length (texts (stands_text l) (cond b (f ∷ on_plan t fs) (on_plan t fs)))
          + length (texts (lost_text l) (cond (not b) (f ∷ lost t fs) (lost t fs))) ≤ length l
      go true e a b ih = omega (arith, length-append (stands_text l f) (texts (stands_text l) (on_plan t fs)))
      go false e a b ih = omega (arith, length-append (lost_text l f) (texts (lost_text l) (lost t fs)))

  pub parts-inside : AllSound l → (parts_of t l (found l)).stands + (parts_of t l (found l)).lost ≤ length l
  unfolding parts_of
  parts-inside sound = let w = inside 0 (found l) (omega arith) (sound-lines l (found l) sound) in omega arith

  -- so an output as long as the list is long enough
  pub joined-inside : InOrder t → (fs : List Finding) → read_list l ≡ Sound fs → length (joined t l fs) ≤ length l
  unfolding joined
  joined-inside o fs e =
      omega (
        arith,
        inside 0 fs (omega arith) (sound-lines l fs e),
        standing-long t o (stands_text l) fs,
        length-append (texts (stands_text l) (standing t fs)) (texts (lost_text l) (lost t fs)),
      )
