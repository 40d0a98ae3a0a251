-- The laws of a search.
-- `search-none`, `search-meets` one turn of the loop · `walk n i k` the slot k steps after slot i, `walk_steps`, `steps-walk` its inverse ·
-- `search-found`, `search-full` where a search ends · `End`, `ends` how it can end · `same_refl`, `same_true`, `same_or_not` of two points ·
-- `Kind`, `kind`, `own-hit`, `holds-eq`, `free-holds`, `other-another` what a slot is to a search · `search-resumed` a search goes on from any slot that
-- it comes to, `comes-filled` and it comes as far when slots have filled.
-- Why a search may be resumed: all slots before the one it came to hold other points' records, so it passes them from home; and started there, once
-- round, it sees them last, where they settle nothing. Slots that only fill leave them other points'.
-- Assumes nothing.
pub use Rattle.lattice.specs.PointLaws.{same_refl, same_true, same_or_not}
use Rattle.std.specs.Prelude.{◌≡◌, refl, Bool, true, false, cond, ℕ, zero, suc, ◌+◌, ◌-◌, ◌≤◌, ◌<◌, eqb, ltb, Option, Some, None}
use Rattle.std.proofs.Common.{sym, ap, ◌∙◌, arith, lt-ltb, le-ltb, le-leb, eq-eqb, ne_eqb}
use Rattle.std.proofs.Math.Decide.{dec_lt}
use Rattle.std.proofs.lemmas.Bool.{lt-leb, eqb-false}
use Rattle.lattice.specs.declared.points.Point.{Point}
use Rattle.lattice.specs.declared.records.Record.{Record}
use Rattle.table.specs.Search.{home_of, same_point, meets, next, settle, search_from, seek}
use Rattle.table.specs.Order.{steps}
use Rattle.table.specs.Told.{Another, ComesTo, Fills}
use Rattle.table.specs.declared.probe.Meet.{Meet}
use Rattle.table.specs.declared.probe.Meet.TheVariants.{Hit, Gap, Other}
use Rattle.table.specs.declared.probe.Found.{Found}
use Rattle.table.specs.declared.probe.Found.TheVariants as found

-- the slot k steps after slot i, wrapping, for k at most n
abbrev pub walk : ℕ → ℕ → ℕ → ℕ
walk n i k = cond (ltb (i + k) n) (i + k) (i + k - n)

-- one turn of a search, at a number of slots left that is not 0
pub search-turn : (look : ℕ → Meet) (n i left : ℕ) → 0 < left → search_from look n i left ≡ settle (look i) i (search_from look n (next n i) (left - 1))
unfolding search_from
search-turn look n i zero h = absurd (omega arith)
search-turn look n i (suc left) h =
    let e : left ≡ suc left - 1 = omega arith in
    ap (λ (l : ℕ). settle (look i) i (search_from look n (next n i) l)) e

module _ (look : ℕ → Meet) (n i left : ℕ) where
  pub search-none : left ≡ 0 → found.Full ≡ search_from look n i left
  unfolding search_from
  search-none e = rw e

  pub search-meets : (left ≡ 0 → ⊥) → (m : Meet) → m ≡ look i → search_from look n i left ≡ settle m i (search_from look n (next n i) (left - 1))
  search-meets h m e =
      let more : 0 < left = omega arith in
      search-turn look n i left more ∙ ap (λ (x : Meet). settle x i (search_from look n (next n i) (left - 1))) (sym e)

pub next-below : (n i : ℕ) → i < n → next n i < n
next-below n i h = go (eqb (i + 1) n) refl
  where
    go : (b : Bool) → eqb (i + 1) n ≡ b → cond b 0 (i + 1) < n
    go true e = omega arith
    go false e = let ne = eqb-false (i + 1) n e in omega arith

-- ---- steps round the ring

by-lt {ℓ} : {P : Type ℓ} (a b : ℕ) → (a < b → P) → (b ≤ a → P) → P
by-lt {P} a b f g = go (dec_lt a b)
  where
    go : Dec (a < b) → P
    go (yes l) = f l
    go (no l) = g (omega arith)

module _ (n i k : ℕ) where
  pub walk-lo : i + k < n → walk n i k ≡ i + k
  walk-lo h = rw (lt-ltb (i + k) n h)

  pub walk-hi : n ≤ i + k → walk n i k ≡ i + k - n
  walk-hi h = rw (le-ltb (i + k) n h)

  pub steps-lo : i ≤ k → steps n i k ≡ k - i
  steps-lo h = rw (le-leb i k h)

  pub steps-hi : k < i → steps n i k ≡ k + n - i
  steps-hi h = rw (lt-leb i k h)

  pub next-lo : i + 1 < n → next n i ≡ i + 1
  next-lo h = let e : i + 1 ≡ n → ⊥ = omega arith in rw (ne_eqb (i + 1) n e)

  pub next-hi : i + 1 ≡ n → next n i ≡ 0
  next-hi h = rw (eq-eqb (i + 1) n h)

module _ (n i : ℕ) (hi : i < n) where
  pub walk-zero : walk n i 0 ≡ i
  walk-zero = let l : i + 0 < n = omega arith in omega (arith, walk-lo n i 0 l)

  pub walk-below : (k : ℕ) → k < n → walk n i k < n
  walk-below k h = by-lt (i + k) n (λ l. omega (arith, walk-lo n i k l)) (λ l. omega (arith, walk-hi n i k l))

  pub steps-below : (j : ℕ) → j < n → steps n i j < n
  steps-below j h = by-lt j i (λ l. omega (arith, steps-hi n i j l)) (λ l. omega (arith, steps-lo n i j l))

  pub walk-next : (k : ℕ) → k + 1 < n → walk n (next n i) k ≡ walk n i (k + 1)
  walk-next k h = by-lt (i + 1) n
      (λ l. ap (λ (x : ℕ). walk n x k) (next-lo n i k l) ∙
      by-lt (i + 1 + k) n
      (λ m. let m' : i + (k + 1) < n = omega arith in omega (arith, walk-lo n (i + 1) k m, walk-lo n i (k + 1) m'))
      (λ m. let m' : n ≤ i + (k + 1) = omega arith in omega (arith, walk-hi n (i + 1) k m, walk-hi n i (k + 1) m')))
      (λ l. let e : i + 1 ≡ n = omega arith in
      let a : 0 + k < n = omega arith in
      let b : n ≤ i + (k + 1) = omega arith in
      ap (λ (x : ℕ). walk n x k) (next-hi n i k e) ∙ omega (arith, walk-lo n 0 k a, walk-hi n i (k + 1) b))

  pub steps-walk : (k : ℕ) → k < n → steps n i (walk n i k) ≡ k
  steps-walk k h = by-lt (i + k) n
      (λ l. let m : i ≤ i + k = omega arith in ap (steps n i) (walk-lo n i k l) ∙ omega (arith, steps-lo n i (i + k) m))
      (λ l. let m : i + k - n < i = omega arith in ap (steps n i) (walk-hi n i k l) ∙ omega (arith, steps-hi n i (i + k - n) m))

  pub walk_steps : (j : ℕ) → j < n → walk n i (steps n i j) ≡ j
  walk_steps j h = by-lt j i
      (λ l. let m : n ≤ i + (j + n - i) = omega arith in ap (walk n i) (steps-hi n i j l) ∙ omega (arith, walk-hi n i (j + n - i) m))
      (λ l. let m : i + (j - i) < n = omega arith in ap (walk n i) (steps-lo n i j l) ∙ omega (arith, walk-lo n i (j - i) m))

-- ---- where a search ends

-- k steps of others
abbrev pub Others : (ℕ → Meet) → ℕ → ℕ → ℕ → Type 0
Others look n i k = (j : ℕ) → j < k → look (walk n i j) ≡ Other

others-next : (look : ℕ → Meet) (n i k : ℕ) → i < n → k + 1 ≤ n → Others look n i (k + 1) → Others look n (next n i) k
others-next look n i k hi hk o j hj =
    let b : j + 1 < k + 1 = omega arith in
    let b' : j + 1 < n = omega arith in
    ap look (walk-next n i hi j b') ∙ o (j + 1) b

pub search-found : (look : ℕ → Meet) (n k i left : ℕ) (o : Found) → i < n → k < left → left ≤ n → Others look n i k
    → ((r : Found) → settle (look (walk n i k)) (walk n i k) r ≡ o) → search_from look n i left ≡ o
search-found look n zero i left o hi hk hl os e =
    let more : 0 < left = omega arith in
    search-turn look n i left more
    ∙ ap (λ (x : ℕ). settle (look x) x (search_from look n (next n i) (left - 1))) (sym (walk-zero n i hi)) ∙ e (search_from look n (next n i) (left - 1))
search-found look n (suc k) i left o hi hk hl os e =
    let more : 0 < left = omega arith in
    let here : look i ≡ Other = ap look (sym (walk-zero n i hi)) ∙ os 0 (omega arith) in
    let k1 : k + 1 ≡ suc k = omega arith in
    let room : k + 1 < n = omega arith in
    let step : walk n (next n i) k ≡ walk n i (suc k) = walk-next n i hi k room ∙ ap (walk n i) k1 in
    search-turn look n i left more ∙ ap (λ (m : Meet). settle m i (search_from look n (next n i) (left - 1))) here
    ∙ search-found look n k (next n i) (left - 1) o (next-below n i hi) (omega arith) (omega arith)
    (others-next look n i k hi (omega arith) (λ j hj. os j (omega arith)))
    (λ r. ap (λ (x : ℕ). settle (look x) x r) step ∙ e r)

pub search-full : (look : ℕ → Meet) (n left i : ℕ) → i < n → left ≤ n → Others look n i left → search_from look n i left ≡ found.Full
search-full look n zero i hi hl os = sym (search-none look n i 0 refl)
search-full look n (suc left) i hi hl os =
    let here : look i ≡ Other = ap look (sym (walk-zero n i hi)) ∙ os 0 (omega arith) in
    let e : suc left - 1 ≡ left = omega arith in
    search-turn look n i (suc left) (omega arith) ∙ ap (λ (m : Meet). settle m i (search_from look n (next n i) (suc left - 1))) here
    ∙ ap (search_from look n (next n i)) e
    ∙ search-full look n left (next n i) (next-below n i hi) (omega arith) (others-next look n i left hi (omega arith) (λ j hj. os j (omega arith)))

-- ---- what a slot is to a search for p

pub data Kind (c : Option Record) (p : Point) : Type 0 where
  free : c ≡ None → meets c p ≡ Gap → Kind c p
  own : (r : Record) → c ≡ Some r → r.at ≡ p → meets c p ≡ Hit → Kind c p
  alien : (r : Record) → c ≡ Some r → meets c p ≡ Other → Kind c p

pub kind : (c : Option Record) (p : Point) → Kind c p
kind None p = free refl refl
kind (Some r) p = go (same_point r.at p) refl
  where
    go : (b : Bool) → same_point r.at p ≡ b → Kind (Some r) p
    go true e = own r refl (same_true r.at p e) (ap (λ (x : Bool). cond x Hit Other) e)
    go false e = alien r refl (ap (λ (x : Bool). cond x Hit Other) e)

pub own-hit : (c : Option Record) (r : Record) → c ≡ Some r → meets c r.at ≡ Hit
own-hit c r e = ap (λ (x : Option Record). meets x r.at) e ∙ ap (λ (b : Bool). cond b Hit Other) (same_refl r.at)

pub holds-eq : (a b : Record) → Some a ≡ Some b → a ≡ b
holds-eq a b e = cc

pub free-holds : {A : Type 0} (r : Record) {s : Option Record} → s ≡ None → s ≡ Some r → A
free-holds r e h = absurd (let z : ◌≡◌ {A = ℕ} 0 1 = cc in omega arith)

-- another point's record, in the words of the search and of Told
another-other : (c : Option Record) (p : Point) → Another c p → meets c p ≡ Other
another-other c p a = go (kind c p)
  where
    go : Kind c p → meets c p ≡ Other
    go (free e m) = free-holds a.rec e a.holds
    go (own r e s m) = absurd (a.other (ap (λ (x : Record). x.at) (holds-eq a.rec r (sym a.holds ∙ e)) ∙ s))
    go (alien r e m) = m

pub other-another : (c : Option Record) (p : Point) → meets c p ≡ Other → Another c p
other-another c p h = go (kind c p)
  where
    go : Kind c p → Another c p
    go (free e m) = absurd (let q : ◌≡◌ {A = ℕ} 0 1 = cc in omega arith)
    go (own r e s m) = absurd (let q : ◌≡◌ {A = ℕ} 0 1 = cc in omega arith)
    go (alien r e m) = record {
      rec = r;
      holds = e;
      other =
          λ s. let x : meets c p ≡ Hit = ap (meets c) (sym s) ∙ own-hit c r e in
          let q : ◌≡◌ {A = ℕ} 0 1 = cc in omega arith;
    }

-- ---- a search gone on with

-- k slots of others are passed
search-passes : (look : ℕ → Meet) (n k i left : ℕ) → i < n → k < n → k ≤ left → left ≤ n → Others look n i k
    → search_from look n i left ≡ search_from look n (walk n i k) (left - k)
search-passes look n zero i left hi hk hl hn os =
    let e : left ≡ left - 0 = omega arith in
    λ x. search_from look n (sym (walk-zero n i hi) x) (e x)
search-passes look n (suc k) i left hi hk hl hn os =
    let more : 0 < left = omega arith in
    let here : look i ≡ Other = ap look (sym (walk-zero n i hi)) ∙ os 0 (omega arith) in
    let k1 : k + 1 ≡ suc k = omega arith in
    let room : k + 1 < n = omega arith in
    let step : walk n (next n i) k ≡ walk n i (suc k) = walk-next n i hi k room ∙ ap (walk n i) k1 in
    let e : left - 1 - k ≡ left - suc k = omega arith in
    search-turn look n i left more ∙ ap (λ (m : Meet). settle m i (search_from look n (next n i) (left - 1))) here
    ∙ search-passes look n k (next n i) (left - 1) (next-below n i hi) (omega arith) (omega arith) (omega arith)
    (others-next look n i k hi (omega arith) (λ j hj. os j (omega arith)))
    ∙ (λ x. search_from look n (step x) (e x))

-- k slots of others at its end settle nothing
search-longer : (look : ℕ → Meet) (n k left i : ℕ) → i < n → left + k ≤ n → ((j : ℕ) → left ≤ j → j < left + k → look (walk n i j) ≡ Other)
    → search_from look n i left ≡ search_from look n i (left + k)
search-longer look n k zero i hi hl os =
    let e : k ≡ 0 + k = omega arith in
    sym (search-none look n i 0 refl)
    ∙ sym (search-full look n k i hi (omega arith) (λ j hj. os j (omega arith) (omega arith)))
    ∙ ap (search_from look n i) e
search-longer look n k (suc left) i hi hl os =
    let a : suc left - 1 ≡ left = omega arith in
    let b : left + k ≡ suc left + k - 1 = omega arith in
    search-turn look n i (suc left) (omega arith)
    ∙ ap (λ (x : Found). settle (look i) i x)
    (ap (search_from look n (next n i)) a
    ∙ search-longer look n k left (next n i) (next-below n i hi) (omega arith)
    (λ j lo up. let m : j + 1 < n = omega arith in ap look (walk-next n i hi j m) ∙ os (j + 1) (omega arith) (omega arith))
    ∙ ap (search_from look n (next n i)) b)
    ∙ sym (search-turn look n i (suc left + k) (omega arith))

-- a slot that comes after i only by wrapping past home lies before i on the way from home
wrapped : (n h i j : ℕ) → h < n → i < n → j < n → n - steps n h i ≤ j → steps n h (walk n i j) < steps n h i
wrapped n h i j hh hi hj l = by-lt i h below above
  where
    below : i < h → steps n h (walk n i j) < steps n h i
    below m =
        by-lt (i + j) n
        (λ w. let b : h ≤ i + j = omega (arith, steps-hi n h i m) in
        omega (arith, steps-hi n h i m, ap (steps n h) (walk-lo n i j w), steps-lo n h (i + j) b))
        (λ w. let b : i + j - n < h = omega arith in
        omega (arith, steps-hi n h i m, ap (steps n h) (walk-hi n i j w), steps-hi n h (i + j - n) b))

    above : h ≤ i → steps n h (walk n i j) < steps n h i
    above m =
        let w : n ≤ i + j = omega (arith, steps-lo n h i m) in
        let b : h ≤ i + j - n = omega (arith, steps-lo n h i m) in
        omega (arith, steps-lo n h i m, ap (steps n h) (walk-hi n i j w), steps-lo n h (i + j - n) b)

-- the search from home is the search that starts at a slot it comes to
pub search-resumed : (n : ℕ) (f : ℕ → Option Record) (p : Point) (i : ℕ) → home_of p n < n → ComesTo n f p i → seek n f p ≡ search_from (λ s. meets (f s) p) n i n
search-resumed n f p i inside c =
    let h = home_of p n in
    let look : ℕ → Meet = λ s. meets (f s) p in
    let k = steps n h i in
    let kn : k < n = steps-below n h inside i c.below in
    let top : n ≤ n = omega arith in
    let others : Others look n h k = λ j l.
    another-other (f (walk n h j)) p (c.before (walk n h j) (walk-below n h inside j (omega arith)) (omega (arith, steps-walk n h inside j (omega arith)))) in
    let e : n - k + k ≡ n = omega arith in
    search-passes look n k h n inside kn (omega arith) top others
    ∙ ap (λ (x : ℕ). search_from look n x (n - k)) (walk_steps n h inside i c.below)
    ∙ search-longer look n k (n - k) i c.below (omega arith)
    (λ j lo up. let m : j < n = omega arith in
    another-other (f (walk n i j)) p (c.before (walk n i j) (walk-below n i c.below j m) (wrapped n h i j inside c.below m lo)))
    ∙ ap (search_from look n i) e

-- slots that have filled are passed still
pub comes-filled : (n : ℕ) (f g : ℕ → Option Record) (p : Point) (i : ℕ) → Fills n f g → ComesTo n f p i → ComesTo n g p i
comes-filled n f g p i w c =
    record {
      below = c.below;
      before =
          λ s l m. let a = c.before s l m in
          let b = w s a.rec l a.holds in
          record { rec = b.0; holds = b.1; other = λ e. a.other (sym b.2 ∙ e) };
    }

-- ---- how a search ends

pub data End (look : ℕ → Meet) (n i left : ℕ) : Type 0 where
  hits : (k : ℕ) → k < left → Others look n i k → look (walk n i k) ≡ Hit → End look n i left
  gaps : (k : ℕ) → k < left → Others look n i k → look (walk n i k) ≡ Gap → End look n i left
  full : Others look n i left → End look n i left

one_more : (look : ℕ → Meet) (n i left : ℕ) → Others look n i left → (m : Meet) → look (walk n i left) ≡ m → End look n i (suc left)
one_more look n i left os Hit e = hits left (omega arith) os e
one_more look n i left os Gap e = gaps left (omega arith) os e
one_more look n i left os Other e = full (λ j h. go j h (dec_lt j left))
  where
    go : (j : ℕ) → j < suc left → Dec (j < left) → look (walk n i j) ≡ Other
    go j h (yes l) = os j l
    go j h (no l) = let q : j ≡ left = omega arith in ap (λ (x : ℕ). look (walk n i x)) q ∙ e

pub ends : (look : ℕ → Meet) (n i left : ℕ) → End look n i left
ends look n i zero = full (λ j h. absurd (omega arith))
ends look n i (suc left) = go (ends look n i left)
  where
    go : End look n i left → End look n i (suc left)
    go (hits k l os e) = hits k (omega arith) os e
    go (gaps k l os e) = gaps k (omega arith) os e
    go (full os) = one_more look n i left os (look (walk n i left)) refl
