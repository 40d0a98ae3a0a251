-- Each side of the faces is counted once: `edges-counted`. Where a face was counted before, its far sides that are not wide need not be looked at:
-- `far-spared`.
--
-- Put all near sides first, then the far ones whose vertex stands at an apex of them (wide), then the other far ones (NearFarLaws of `firsts`). A near side
-- was there before exactly where its other end stands earlier and has it (`nears-told`). A far side was there before where one of its ends has it, in whatever
-- slot; a wide one else where a vertex at the other apex stands earlier and has it (`wides-told`); another one else where a vertex at an apex has it, in
-- whatever slot, or a vertex across from it stands earlier and has it (`fars-told`), which can stand at sixteen places only (AcrossLaws). In one star the near
-- sides are different, and so are the far ones. Where the apexes lie does not matter here: any place that p and q determine would do, with that of q and p.
-- Assumes nothing.
use Rattle.std.specs.Prelude.{◌≡◌, ◌⊎◌, cond, ◌&&◌, ◌||◌, Option, Some, None}
use Rattle.std.proofs.Math.Path.{refl, ap}
use Rattle.std.proofs.Common.{sym, ◌∙◌, subst, inl, inr, arith, eq-eqb, ne_eqb}
use Rattle.std.proofs.Math.Bool.{Bool, true, false, not, or_comm, or_assoc, or-false}
use mathlib.Core.List.{List, [], ◌∷◌, ◌++◌}
use Prim.Native.Nat.{ℕ, ◌+◌, ◌≤◌, ◌<◌}
use Rattle.std.proofs.Math.Decide.{ℕ_discrete}
use Rattle.laws.specs.Rules.{among}
use Rattle.laws.specs.Each.{not-both, never, and-false, among-at, at-among, same_test}
use Rattle.laws.specs.Some.{some_of, some-append}
use Rattle.lattice.specs.Stars.{adjacent_at}
use Rattle.lattice.specs.Records.{valid_of}
use Rattle.lattice.specs.RecordLaws.{Inner}
use Rattle.lattice.specs.declared.points.Point.{Point}
use Rattle.lattice.specs.declared.records.Record.{Record}
use Rattle.geometry.specs.GeometryLaws.{star-distinct}
use Rattle.table.specs.Slots.{slots_of, slot_at}
use Rattle.table.specs.Order.{InOrder}
use Rattle.table.specs.Search.{same_point}
use Rattle.table.specs.Entries.{records_below, records_of}
use Rattle.table.specs.MapLaws.{same_refl, same_true}
use Rattle.queries.specs.Queries.{chosen_at}
use Rattle.across.specs.Across.{factor_of, across_of, apex_of}
use Rattle.firsts.specs.Faces.{bit, different_after, gather, each, next_place, faces_at, same_face, Side, side, sides_of, same_side}
use Rattle.firsts.specs.Earlier.{sum_below, slot_sum, faced, has_near, near_in, near_before, has_far, end_has, face_on, face_before}
use Rattle.firsts.specs.DifferentLaws.{slot_test, sum-plus, sum-each, some_one, some-none, some-gather, some-each, different-nothing, different-one}
use Rattle.firsts.specs.DifferentLaws.{different-place, different-append, different-star, different-slots}
use Rattle.firsts.specs.EarlierLaws.{Passes, passes-too, valid-inner, other-point, star-inner, earlier-yes, yes-earlier, slots-pass, pass-slots}
use Rattle.firsts.specs.StarLaws.{adjacent-away}
use Rattle.firsts.specs.FaceLaws.{next-below, gives-makes, face-before}
use Rattle.firsts.specs.declared.faces.Face.{Face}
use Rattle.firsts.specs.SameLaws.{side_same, side-self, swap-right, same-sides}
use Rattle.firsts.specs.NearFarLaws.{one_of, left-of, right_of, near_with, Kind, every, taken, far_with, near_place, far_place, nears_at, fars_at, NearSide, near-has}
use Rattle.firsts.specs.NearFarLaws.{has-near, near-gives, gives-near, FarSide, far-has, has-far, far-two, far-gives, gives-far, near_at, is_far, side_in, four-of}
use Rattle.firsts.specs.NearFarLaws.{corner-gives, record-sides, other, each-kinds, all-sides}
use Rattle.counts.specs.Counts.{edges_in}
use Rattle.counts.specs.Counted.{near_count, far_seen, far_before, has_either, apex_seen, is_wide, narrow_else, across_else, far_one, Spared, far_at, far_count}
use Rattle.counts.specs.Counted.{star_sides, slot_sides}
use Rattle.counts.specs.AcrossLaws.{IsAcross, adjacent-opposite, opposite-apart, across-before, across-after}

-- ---- apexes

abbrev AtApex : Point → Point → Point → Type 0
AtApex v p q = (v ≡ apex_of p q) ⊎ (v ≡ apex_of q p)

apex-turned : (v p q : Point) → AtApex v p q → AtApex v q p
apex-turned v p q (inl e) = inr e
apex-turned v p q (inr e) = inl e

wide-apex : (v p q : Point) → is_wide v p q ≡ true → AtApex v p q
wide-apex v p q h = go (one_of (same_point v (apex_of p q)) (same_point v (apex_of q p)) h)
  where
    go : (same_point v (apex_of p q) ≡ true) ⊎ (same_point v (apex_of q p) ≡ true) → AtApex v p q
    go (inl e) = inl (same_true v (apex_of p q) e)
    go (inr e) = inr (same_true v (apex_of q p) e)

apex-wide : (v p q : Point) → AtApex v p q → is_wide v p q ≡ true
apex-wide v p q (inl e) = left-of (same_point v (apex_of p q)) (same_point v (apex_of q p))
    (ap (λ (a : Point). same_point a (apex_of p q)) e ∙ same_refl (apex_of p q))
apex-wide v p q (inr e) = right_of (same_point v (apex_of p q)) (same_point v (apex_of q p))
    (ap (λ (a : Point). same_point a (apex_of q p)) e ∙ same_refl (apex_of q p))

-- ---- counted at the first

module _ (t : List ℕ) (o : InOrder t) where
  -- a vertex at an apex, before slot k, has the side
  abbrev wide_before : ℕ → Point → Point → Bool
  wide_before k p q = apex_seen t k p q (apex_of p q) || apex_seen t k p q (apex_of q p)

  -- which near sides the vertices before slot k have
  module _ (k : ℕ) (top : k ≤ slots_of t) (p q : Point) where
    nears-told : some_of (same_side (side p q)) (each (nears_at t) (records_below t k)) ≡ near_before t k p q || near_before t k q p
    unfolding near_in
    nears-told = some-each (same_side (side p q)) (nears_at t) t k
        ∙ same_test (among k (λ i. slot_test gives (slot_at t i))) (near_before t k p q || near_before t k q p) there back
      where
        gives : Record → Bool
        gives u = some_of (same_side (side p q)) (nears_at t u)

        seen : (a b : Point) (x : Passes t k gives) → NearSide t x.rec a → x.rec.at ≡ b → near_before t k a b ≡ true
        seen a b x n e = earlier-yes t o k top (has_near t a) b (passes-too x (has_near t a) (near-has t x.rec a n)) e

        there : among k (λ i. slot_test gives (slot_at t i)) ≡ true → near_before t k p q || near_before t k q p ≡ true
        there h = let x = slots-pass t k gives h in let y = gives-near t (side p q) x.rec x.passes in
            go x y.0 y.1 (side_same (side p q) (side x.rec.at y.0) y.2)
          where
            go : (x : Passes t k gives) (a : Point) → NearSide t x.rec a → (side p q ≡ side x.rec.at a) ⊎ (side p q ≡ side a x.rec.at)
                → near_before t k p q || near_before t k q p ≡ true
            go x a n (inl e) = right_of (near_before t k p q) (near_before t k q p)
                (ap (λ (z : Side). near_before t k z.other z.one) e ∙ seen a x.rec.at x n refl)
            go x a n (inr e) = left-of (near_before t k p q) (near_before t k q p)
                (ap (λ (z : Side). near_before t k z.one z.other) e ∙ seen a x.rec.at x n refl)

        given : (a b : Point) → same_side (side p q) (side b a) ≡ true → near_before t k a b ≡ true → among k (λ i. slot_test gives (slot_at t i)) ≡ true
        given a b e h =
            let y = yes-earlier t o k top (has_near t a) b h in
            let x = y.0 in
            pass-slots t k gives
            (passes-too x gives (near-gives t (side p q) x.rec a (has-near t x.rec a x.passes)
            (ap (λ (z : Point). same_side (side p q) (side z a)) y.1 ∙ e)))

        back : near_before t k p q || near_before t k q p ≡ true → among k (λ i. slot_test gives (slot_at t i)) ≡ true
        back h = go (one_of (near_before t k p q) (near_before t k q p) h)
          where
            go : (near_before t k p q ≡ true) ⊎ (near_before t k q p ≡ true) → among k (λ i. slot_test gives (slot_at t i)) ≡ true
            go (inl e) = given p q (swap-right (side p q) (side p q) ∙ side-self (side p q)) e
            go (inr e) = given q p (side-self (side p q)) e

    -- which far sides they have
    fars-told : some_of (same_side (side p q)) (each (fars_at t every) (records_below t k)) ≡ far_before t k p q || far_before t k q p
    unfolding far_before far_seen
    fars-told = some-each (same_side (side p q)) (fars_at t every) t k
        ∙ same_test (among k (λ i. slot_test gives (slot_at t i))) (far_before t k p q || far_before t k q p) there back
      where
        gives : Record → Bool
        gives u = some_of (same_side (side p q)) (fars_at t every u)

        seen : (a b : Point) (x : Passes t k gives) → FarSide t x.rec a b → IsAcross a b x.rec.at → far_before t k a b ≡ true
        seen a b x f l =
            at-among (far_seen t k a b) 8 l.0 l.1
            (earlier-yes t o k top (has_far t a b) (across_of (factor_of l.0) a b) (passes-too x (has_far t a b) (far-has t x.rec a b f)) (sym l.2))

        found : (a b : Point) (x : Passes t k gives) → FarSide t x.rec a b → far_before t k a b ≡ true
        found a b x f = seen a b x f (go f.is)
          where
            u : Record
            u = x.rec

            ok : valid_of u ≡ true
            ok = o.valid x.slot u (omega (arith, x.below)) x.holds

            inn : Inner u
            inn = valid-inner u f.corner ok f.below

            go : (adjacent_at u f.corner ≡ a) ⊎ (adjacent_at u (next_place u.d f.corner) ≡ a) → IsAcross a b u.at
            go (inl e) = subst (λ (z : Point). IsAcross z b u.at) e (across-before t u ok inn f.corner b f.below f.chosen)
            go (inr e) = subst (λ (z : Point). IsAcross z b u.at) e
                (across-after t u ok inn f.corner b f.below (next-below u.d f.corner f.below) f.chosen)

        there : among k (λ i. slot_test gives (slot_at t i)) ≡ true → far_before t k p q || far_before t k q p ≡ true
        there h = let x = slots-pass t k gives h in let y = gives-far t every (side p q) x.rec x.passes in
            go x y.p y.q y.far (side_same (side p q) (side y.p y.q) y.same)
          where
            go : (x : Passes t k gives) (a b : Point) → FarSide t x.rec a b → (side p q ≡ side a b) ⊎ (side p q ≡ side b a) → far_before t k p q
                || far_before t k q p ≡ true
            go x a b f (inl e) = left-of (far_before t k p q) (far_before t k q p) (ap (λ (z : Side). far_before t k z.one z.other) e ∙ found a b x f)
            go x a b f (inr e) = right_of (far_before t k p q) (far_before t k q p) (ap (λ (z : Side). far_before t k z.other z.one) e ∙ found a b x f)

        given : (a b : Point) → same_side (side p q) (side a b) ≡ true → far_before t k a b ≡ true → among k (λ i. slot_test gives (slot_at t i)) ≡ true
        given a b e h =
            let c = among-at (far_seen t k a b) 8 h in
            let y = yes-earlier t o k top (has_far t a b) (across_of (factor_of c.0) a b) c.2 in
            let x = y.0 in
            pass-slots t k gives
            (passes-too x gives (far-gives t every (side p q) x.rec a b (has-far t x.rec a b x.passes) refl e))

        back : far_before t k p q || far_before t k q p ≡ true → among k (λ i. slot_test gives (slot_at t i)) ≡ true
        back h = go (one_of (far_before t k p q) (far_before t k q p) h)
          where
            go : (far_before t k p q ≡ true) ⊎ (far_before t k q p ≡ true) → among k (λ i. slot_test gives (slot_at t i)) ≡ true
            go (inl e) = given p q (side-self (side p q)) e
            go (inr e) = given q p (swap-right (side p q) (side p q) ∙ side-self (side p q)) e

    -- which wide ones: their vertex stands at an apex
    wides-told : some_of (same_side (side p q)) (each (fars_at t is_wide) (records_below t k)) ≡ wide_before k p q
    unfolding apex_seen has_either
    wides-told = some-each (same_side (side p q)) (fars_at t is_wide) t k ∙ same_test (among k (λ i. slot_test gives (slot_at t i))) (wide_before k p q) there back
      where
        gives : Record → Bool
        gives u = some_of (same_side (side p q)) (fars_at t is_wide u)

        seen : (a b : Point) (x : Passes t k gives) → has_far t a b x.rec || has_far t b a x.rec ≡ true → AtApex x.rec.at a b → wide_before k a b ≡ true
        seen a b x h (inl e) = left-of (apex_seen t k a b (apex_of a b)) (apex_seen t k a b (apex_of b a))
            (earlier-yes t o k top (has_either t a b) (apex_of a b) (passes-too x (has_either t a b) h) e)
        seen a b x h (inr e) = right_of (apex_seen t k a b (apex_of a b)) (apex_seen t k a b (apex_of b a))
            (earlier-yes t o k top (has_either t a b) (apex_of b a) (passes-too x (has_either t a b) h) e)

        there : among k (λ i. slot_test gives (slot_at t i)) ≡ true → wide_before k p q ≡ true
        there h = let x = slots-pass t k gives h in let y = gives-far t is_wide (side p q) x.rec x.passes in
            go x y.p y.q (far-has t x.rec y.p y.q y.far) (wide-apex x.rec.at y.p y.q y.kind)
            (side_same (side p q) (side y.p y.q) y.same)
          where
            go : (x : Passes t k gives) (a b : Point) → has_far t a b x.rec ≡ true → AtApex x.rec.at a b → (side p q ≡ side a b) ⊎ (side p q ≡ side b a)
                → wide_before k p q ≡ true
            go x a b f w (inl e) = ap (λ (z : Side). wide_before k z.one z.other) e
                ∙ seen a b x (left-of (has_far t a b x.rec) (has_far t b a x.rec) f) w
            go x a b f w (inr e) = ap (λ (z : Side). wide_before k z.one z.other) e
                ∙ seen b a x (right_of (has_far t b a x.rec) (has_far t a b x.rec) f) (apex-turned x.rec.at a b w)

        given : (a : Point) → ((u : Record) → u.at ≡ a → AtApex u.at p q) → apex_seen t k p q a ≡ true → among k (λ i. slot_test gives (slot_at t i)) ≡ true
        given a w h =
            let y = yes-earlier t o k top (has_either t p q) a h in
            let x = y.0 in
            pass-slots t k gives (passes-too x gives (go x.rec (w x.rec y.1) (one_of (has_far t p q x.rec) (has_far t q p x.rec) x.passes)))
          where
            go : (u : Record) → AtApex u.at p q → (has_far t p q u ≡ true) ⊎ (has_far t q p u ≡ true) → gives u ≡ true
            go u w (inl f) = far-gives t is_wide (side p q) u p q (has-far t u p q f) (apex-wide u.at p q w) (side-self (side p q))
            go u w (inr f) = far-gives t is_wide (side p q) u q p (has-far t u q p f) (apex-wide u.at q p (apex-turned u.at p q w))
                (swap-right (side p q) (side p q) ∙ side-self (side p q))

        back : wide_before k p q ≡ true → among k (λ i. slot_test gives (slot_at t i)) ≡ true
        back h = go (one_of (apex_seen t k p q (apex_of p q)) (apex_seen t k p q (apex_of q p)) h)
          where
            go : (apex_seen t k p q (apex_of p q) ≡ true) ⊎ (apex_seen t k p q (apex_of q p) ≡ true) → among k (λ i. slot_test gives (slot_at t i)) ≡ true
            go (inl e) = given (apex_of p q) (λ u g. inl g) e
            go (inr e) = given (apex_of q p) (λ u g. inr g) e

  abbrev all : List Side
  all = each (nears_at t) (records_of t)

  abbrev wides : List Side
  wides = each (fars_at t is_wide) (records_of t)

  -- a far side of v, in slot k, is counted elsewhere
  abbrev else_of : ℕ → Record → Point → Point → Bool
  else_of k v p q = end_has t p q || across_else t k v.at p q

  -- how many of the far sides of a corner, of one kind, are counted there
  abbrev kind_at : Kind → ℕ → Record → ℕ → Option Point → ℕ
  kind_at c k v j None = 0
  kind_at c k v j (Some q) =
      bit (c v.at (adjacent_at v j) q && not (else_of k v (adjacent_at v j) q))
      + bit (c v.at (adjacent_at v (next_place v.d j)) q && not (else_of k v (adjacent_at v (next_place v.d j)) q))

  abbrev kind_count : Kind → ℕ → Record → ℕ → ℕ
  kind_count c k v j = kind_at c k v j (chosen_at t v j)

  module _ (k : ℕ) (v : Record) (l : k < slots_of t) (here : slot_at t k ≡ Some v) where
    top : k ≤ slots_of t
    top = omega arith

    ok : valid_of v ≡ true
    ok = o.valid k v l here

    not-true : (b : Bool) → (b ≡ true → ⊥) → b ≡ false
    not-true true h = absurd (h refl)
    not-true false h = refl

    -- ---- near sides

    near_before_lem : (a : Point) → some_of (same_side (side v.at a)) (each (nears_at t) (records_below t k)) ≡ near_before t k v.at a
    unfolding near_in
    near_before_lem a =
        nears-told k top v.at a ∙ ap (λ (b : Bool). near_before t k v.at a || b) (not-true (near_before t k a v.at) itself)
        ∙ or-false (near_before t k v.at a)
      where
        itself : near_before t k a v.at ≡ true → ⊥
        itself h = let y = yes-earlier t o k top (has_near t a) v.at h in other-point t o k v l here y.0 y.1

    near_apart : (i j : ℕ) → i < j → j < v.d → some_of (same_side (side v.at (adjacent_at v j))) (near_place t v i) ≡ false
    near_apart i j h m = go (faced t v i)
      where
        s : Side
        s = side v.at (adjacent_at v j)

        differs : (s ≡ side v.at (adjacent_at v i)) ⊎ (s ≡ side (adjacent_at v i) v.at) → ⊥
        differs (inl e) =
            let n = star-inner t o k v l here j m in
            let x : j ≡ i = star-distinct v j i n.low n.top m (omega arith) (ap (λ (z : Side). z.other) e) in
            omega arith
        differs (inr e) = adjacent-away v (star-inner t o k v l here j m) j m (ap (λ (z : Side). z.other) e)

        go : (b : Bool) → some_of (same_side s) (near_with v i b) ≡ false
        go false = some-none (same_side s)
        go true = some_one (same_side s) (side v.at (adjacent_at v i))
            ∙ not-true (same_side s (side v.at (adjacent_at v i))) (λ e. differs (side_same s (side v.at (adjacent_at v i)) e))

    star-nears : different_after same_side (each (nears_at t) (records_below t k)) (nears_at t v) ≡ sum_below (near_count t k v) v.d
    unfolding near_count
    star-nears = different-star same_side before (near_place t v) (near_count t k v) v.d (λ j m. go j m (faced t v j))
      where
        before : List Side
        before = each (nears_at t) (records_below t k)

        go : (j : ℕ) → j < v.d → (b : Bool) → different_after same_side (before ++ gather j (near_place t v)) (near_with v j b)
            ≡ bit (b && not (near_before t k v.at (adjacent_at v j)))
        go j m false = different-nothing same_side (before ++ gather j (near_place t v))
        go j m true =
            different-place same_side before (near_place t v) j (side v.at (adjacent_at v j)) (near_before t k v.at (adjacent_at v j))
            (near_before_lem (adjacent_at v j)) (λ i h. near_apart i j h m)

    -- ---- far sides

    ends : (p q : Point) → some_of (same_side (side p q)) all ≡ end_has t p q
    unfolding end_has
    ends p q = nears-told (slots_of t) (omega arith) p q ∙ or_comm (near_before t (slots_of t) p q) (near_before t (slots_of t) q p)

    far-before : (p q : Point) → some_of (same_side (side p q)) (all ++ each (fars_at t every) (records_below t k))
        ≡ end_has t p q || (far_before t k p q || far_before t k q p)
    far-before p q = some-append (same_side (side p q)) all (each (fars_at t every) (records_below t k)) ∙ (λ i. ends p q i || fars-told k top p q i)

    -- a wide side of v was there before where an end has it, or a vertex at the other apex
    wide-before : (p q : Point) → is_wide v.at p q ≡ true
        → some_of (same_side (side p q)) (all ++ each (fars_at t is_wide) (records_below t k)) ≡ end_has t p q || across_else t k v.at p q
    unfolding across_else apex_seen
    wide-before p q w =
        some-append (same_side (side p q)) all (each (fars_at t is_wide) (records_below t k))
        ∙ (λ i. ends p q i || (wides-told k top p q ∙ go (same_point v.at (apex_of p q)) (same_point v.at (apex_of q p)) refl refl w) i)
      where
        left : Bool
        left = apex_seen t k p q (apex_of p q)

        right : Bool
        right = apex_seen t k p q (apex_of q p)

        -- v itself does not stand before slot k
        itself : (a : Point) → v.at ≡ a → apex_seen t k p q a ≡ false
        itself a e = not-true (apex_seen t k p q a)
            (λ h. let y = yes-earlier t o k top (has_either t p q) a h in other-point t o k v l here y.0 (y.1 ∙ sym e))

        go : (x y : Bool) → same_point v.at (apex_of p q) ≡ x → same_point v.at (apex_of q p) ≡ y → x || y ≡ true
            → left || right ≡ cond x right (cond y left (narrow_else t k p q))
        go true y e f h = ap (λ (b : Bool). b || right) (itself (apex_of p q) (same_true v.at (apex_of p q) e))
        go false true e f h = ap (λ (b : Bool). left || b) (itself (apex_of q p) (same_true v.at (apex_of q p) f)) ∙ or-false left
        go false false e f h = absurd (never h)

    -- another one where an end has it, or a vertex at an apex, in whatever slot, or one across before slot k
    narrow-before : (p q : Point) → is_wide v.at p q ≡ false
        → some_of (same_side (side p q)) ((all ++ wides) ++ each (fars_at t (other is_wide)) (records_below t k)) ≡ end_has t p q || across_else t k v.at p q
    unfolding across_else narrow_else
    narrow-before p q w =
        some-append s (all ++ wides) (each (fars_at t (other is_wide)) (records_below t k))
        ∙ ap (λ (b : Bool). b || rest) (some-append s all wides)
        ∙ or_assoc (some_of s all) (some_of s wides) rest
        ∙ (λ i. ends p q i || (absorb (some_of s wides) (some_of s (each (fars_at t is_wide) (records_below t k))) rest more
        ∙ (λ i. wides-told (slots_of t) (omega arith) p q i || (sym (each-kinds t is_wide (side p q) (records_below t k)) ∙ fars-told k top p q) i)
        ∙ or_assoc left right (far_before t k p q || far_before t k q p)
        ∙ go (same_point v.at (apex_of p q)) (same_point v.at (apex_of q p)) w) i)
      where
        s : Side → Bool
        s = same_side (side p q)

        left : Bool
        left = apex_seen t (slots_of t) p q (apex_of p q)

        right : Bool
        right = apex_seen t (slots_of t) p q (apex_of q p)

        rest : Bool
        rest = some_of s (each (fars_at t (other is_wide)) (records_below t k))

        absorb : (a b c : Bool) → (b ≡ true → a ≡ true) → a || c ≡ a || (b || c)
        absorb true b c h = refl
        absorb false true c h = absurd (never (h refl))
        absorb false false c h = refl

        -- the earlier ones are among all
        more : some_of s (each (fars_at t is_wide) (records_below t k)) ≡ true → some_of s wides ≡ true
        more h =
            let x = slots-pass t k (λ u. some_of s (fars_at t is_wide u)) (sym (some-each s (fars_at t is_wide) t k) ∙ h) in
            some-each s (fars_at t is_wide) t (slots_of t)
            ∙ pass-slots t (slots_of t) (λ u. some_of s (fars_at t is_wide u))
            (record { rec = x.rec; slot = x.slot; below = omega (arith, x.below); holds = x.holds; passes = x.passes })

        go : (x y : Bool) → x || y ≡ false → left || (right || (far_before t k p q || far_before t k q p))
            ≡ cond x (apex_seen t k p q (apex_of q p)) (cond y (apex_seen t k p q (apex_of p q)) (left || (right || (far_before t k p q || far_before t k q p))))
        go true y h = absurd (never (sym h))
        go false true h = absurd (never (sym h))
        go false false h = refl

    -- the far sides of a star are different: from place a to the opposite of corner i, and from place b to that of corner j
    far-differ : (a b i j : ℕ) (p q : Point) → a < v.d → b < v.d → i < v.d → j < v.d → chosen_at t v i ≡ Some p → chosen_at t v j ≡ Some q
        → ((adjacent_at v b ≡ adjacent_at v a) → q ≡ p → ⊥)
        → same_side (side (adjacent_at v b) q) (side (adjacent_at v a) p) ≡ false
    far-differ a b i j p q ha hb hi hj ci cj n =
        not-true (same_side (side (adjacent_at v b) q) (side (adjacent_at v a) p)) (λ e. go (side_same (side (adjacent_at v b) q) (side (adjacent_at v a) p) e))
      where
        go : (side (adjacent_at v b) q ≡ side (adjacent_at v a) p) ⊎ (side (adjacent_at v b) q ≡ side p (adjacent_at v a)) → ⊥
        go (inl e) = n (ap (λ (z : Side). z.one) e) (ap (λ (z : Side). z.other) e)
        go (inr e) = adjacent-opposite t v ok (star-inner t o k v l here a ha) b i p hb hi ci (ap (λ (z : Side). z.one) e)

    far_apart : (c : Kind) (b j : ℕ) (q : Point) → b < v.d → j < v.d → chosen_at t v j ≡ Some q → (i : ℕ) → i < j
        → some_of (same_side (side (adjacent_at v b) q)) (far_place t c v i) ≡ false
    far_apart c b j q hb hj cj i h = go (chosen_at t v i) refl
      where
        s : Side
        s = side (adjacent_at v b) q

        hi : i < v.d
        hi = omega arith

        one : (a : ℕ) (p : Point) → a < v.d → chosen_at t v i ≡ Some p → c v.at (adjacent_at v a) p && same_side s (side (adjacent_at v a) p) ≡ false
        one a p ha e =
            ap (λ (x : Bool). c v.at (adjacent_at v a) p && x)
            (far-differ a b i j p q ha hb hi hj e cj (λ x y. opposite-apart t v ok (star-inner t o k v l here j hj) i j p h hj e (cj ∙ ap Some y)))
            ∙ and-false (c v.at (adjacent_at v a) p)

        go : (z : Option Point) → chosen_at t v i ≡ z → some_of (same_side s) (far_with c v i z) ≡ false
        go None e = some-none (same_side s)
        go (Some p) e = far-two t c s v i p ∙ (λ z. one i p hi e z || one (next_place v.d i) p (next-below v.d i hi) e z)

    -- what is counted of one kind, after these sides
    module _ (c : Kind) (first : List Side)
        (told : (p q : Point) → c v.at p q ≡ true → some_of (same_side (side p q)) (first ++ each (fars_at t c) (records_below t k)) ≡ else_of k v p q) where
      abbrev before : List Side
      before = first ++ each (fars_at t c) (records_below t k)

      next-other : (j : ℕ) → j < v.d → 3 ≤ v.d → next_place v.d j ≡ j → ⊥
      next-other j m w = step (ℕ_discrete (j + 1) v.d)
        where
          step : Dec (j + 1 ≡ v.d) → next_place v.d j ≡ j → ⊥
          step (yes e) = rw (eq-eqb (j + 1) v.d e) (λ h. omega arith)
          step (no e) = rw (ne_eqb (j + 1) v.d e) (λ h. omega arith)

      star-fars : different_after same_side before (fars_at t c v) ≡ sum_below (kind_count c k v) v.d
      star-fars = different-star same_side before (far_place t c v) (kind_count c k v) v.d (λ j m. go j m (chosen_at t v j) refl)
        where
          go : (j : ℕ) → j < v.d → (z : Option Point) → chosen_at t v j ≡ z → different_after same_side (before ++ gather j (far_place t c v)) (far_with c v j z)
              ≡ kind_at c k v j z
          go j m None e = different-nothing same_side (before ++ gather j (far_place t c v))
          go j m (Some q) e =
              let a = different-append same_side seen (taken c v.at x q) (taken c v.at y q) in
              let f = one (c v.at x q) refl in
              let g = two (c v.at y q) refl in
              omega (arith, a, f, g)
            where
              n : ℕ
              n = next_place v.d j

              x : Point
              x = adjacent_at v j

              y : Point
              y = adjacent_at v n

              hn : n < v.d
              hn = next-below v.d j m

              seen : List Side
              seen = before ++ gather j (far_place t c v)

              inn : Inner v
              inn = star-inner t o k v l here j m

              one : (b : Bool) → c v.at x q ≡ b → different_after same_side seen (cond b (side x q ∷ []) []) ≡ bit (b && not (else_of k v x q))
              one false w = different-nothing same_side seen
              one true w =
                  different-place same_side before (far_place t c v) j (side x q) (else_of k v x q) (told x q w) (far_apart c j j q m m e)

              apart : same_side (side y q) (side x q) ≡ false
              apart = far-differ j n j j q q m hn m m e e (λ w g. next-other j m inn.low (star-distinct v n j inn.low inn.top hn m w))

              -- the other one is not the same
              past : (b : Bool) → some_of (same_side (side y q)) (cond b (side x q ∷ []) []) ≡ false
              past true = some_one (same_side (side y q)) (side x q) ∙ apart
              past false = some-none (same_side (side y q))

              clear : some_of (same_side (side y q)) seen ≡ some_of (same_side (side y q)) before
              clear =
                  some-append (same_side (side y q)) before (gather j (far_place t c v))
                  ∙ ap (λ (b : Bool). some_of (same_side (side y q)) before || b)
                  (some-gather (same_side (side y q)) j (far_place t c v)
                  ∙ not-true (among j (λ i. some_of (same_side (side y q)) (far_place t c v i))) none)
                  ∙ or-false (some_of (same_side (side y q)) before)
                where
                  none : among j (λ i. some_of (same_side (side y q)) (far_place t c v i)) ≡ true → ⊥
                  none h = let x = among-at (λ i. some_of (same_side (side y q)) (far_place t c v i)) j h in
                      not-both x.2 (far_apart c n j q hn m e x.0 x.1)

              two : (b : Bool) → c v.at y q ≡ b → different_after same_side (seen ++ taken c v.at x q) (cond b (side y q ∷ []) [])
                  ≡ bit (b && not (else_of k v y q))
              two false w = different-nothing same_side (seen ++ taken c v.at x q)
              two true w =
                  different-one same_side (seen ++ taken c v.at x q) (side y q) (else_of k v y q)
                  (some-append (same_side (side y q)) seen (taken c v.at x q)
                  ∙ (λ i. (clear ∙ told y q w) i || past (c v.at x q) i) ∙ or-false (else_of k v y q))

    -- ---- where the face was counted before, so were its far sides: they are near or far sides of the vertex that has it
    far-face : (f : Face) (s : Side) → f.at ≡ v.at → face_before t k f ≡ true → some_of (same_side s) (sides_of f) ≡ true
        → some_of (same_side s) (all ++ each (fars_at t every) (records_below t k)) ≡ true
    far-face f s e h g =
        let x = slots-pass t k (λ u. some_of (same_face f) (faces_at t u)) (sym (some-each (same_face f) (faces_at t) t k) ∙ face-before t o k v l here f e ∙ h) in
        let u = x.rec in
        let y = gives-makes t f u x.passes in
        let m = y.1 in
        let in-face : side_in t s u m.corner m.opposite ≡ true =
        ap (λ (z : Face). some_of (same_side s) (sides_of z)) m.is ∙ sym (same-sides s f y.0 y.2) ∙ g in
        some-append (same_side s) all (each (fars_at t every) (records_below t k))
        ∙ go x (one_of (some_of (same_side s) (nears_at t u)) (some_of (same_side s) (fars_at t every u))
        (sym (record-sides t s u) ∙ corner-gives t s u m.corner m.opposite m.below m.chosen in-face))
      where
        nears : Bool
        nears = some_of (same_side s) all

        fars : Bool
        fars = some_of (same_side s) (each (fars_at t every) (records_below t k))

        go : (x : Passes t k (λ u. some_of (same_face f) (faces_at t u))) → (some_of (same_side s) (nears_at t x.rec) ≡ true)
            ⊎ (some_of (same_side s) (fars_at t every x.rec) ≡ true) → nears || fars ≡ true
        go x (inl q) =
            left-of nears fars
            (some-each (same_side s) (nears_at t) t (slots_of t)
            ∙ pass-slots t (slots_of t) (λ u. some_of (same_side s) (nears_at t u))
            (record { rec = x.rec; slot = x.slot; below = omega (arith, x.below); holds = x.holds; passes = q }))
        go x (inr q) =
            right_of nears fars
            (some-each (same_side s) (fars_at t every) t k ∙ pass-slots t k (λ u. some_of (same_side s) (fars_at t every u))
            (passes-too x (λ u. some_of (same_side s) (fars_at t every u)) q))

    pub far-spared : (j : ℕ) (p : Point) (seen : Bool) → chosen_at t v j ≡ Some p → seen ≡ face_before t k (face_on v j p)
        → Spared t k v.at (adjacent_at v j) p seen × Spared t k v.at (adjacent_at v (next_place v.d j)) p seen
    unfolding narrow_else
    far-spared j p seen c h = ((λ e w. spared x (sym h ∙ e) first), (λ e w. spared y (sym h ∙ e) second))
      where
        n : ℕ
        n = next_place v.d j

        x : Point
        x = adjacent_at v j

        y : Point
        y = adjacent_at v n

        first : side_in t (side x p) v j p ≡ true
        first =
            let s = side x p in
            four-of t s v j p ∙ right_of (near_at t s v j) (is_far t s v j p || (is_far t s v n p || near_at t s v n))
            (left-of (is_far t s v j p) (is_far t s v n p || near_at t s v n) (side-self s))

        second : side_in t (side y p) v j p ≡ true
        second =
            let s = side y p in
            four-of t s v j p ∙ right_of (near_at t s v j) (is_far t s v j p || (is_far t s v n p || near_at t s v n))
            (right_of (is_far t s v j p) (is_far t s v n p || near_at t s v n) (left-of (is_far t s v n p) (near_at t s v n) (side-self s)))

        widen : (a b c d : Bool) → a || d ≡ true → a || (b || (c || d)) ≡ true
        widen true b c d g = refl
        widen false true c d g = refl
        widen false false true d g = refl
        widen false false false d g = g

        spared : (q : Point) → face_before t k (face_on v j p) ≡ true → side_in t (side q p) v j p ≡ true → end_has t q p || narrow_else t k q p ≡ true
        spared q g f =
            widen (end_has t q p) (apex_seen t (slots_of t) q p (apex_of q p)) (apex_seen t (slots_of t) q p (apex_of p q)) (far_before t k q p || far_before t k p q)
            (sym (far-before q p) ∙ far-face (face_on v j p) (side q p) refl g f)

  star-wides : (k : ℕ) (v : Record) → k < slots_of t → slot_at t k ≡ Some v
      → different_after same_side (all ++ each (fars_at t is_wide) (records_below t k)) (fars_at t is_wide v) ≡ sum_below (kind_count is_wide k v) v.d
  star-wides k v l here = star-fars k v l here is_wide all (wide-before k v l here)

  star-narrows : (k : ℕ) (v : Record) → k < slots_of t → slot_at t k ≡ Some v
      → different_after same_side ((all ++ wides) ++ each (fars_at t (other is_wide)) (records_below t k)) (fars_at t (other is_wide) v)
      ≡ sum_below (kind_count (other is_wide) k v) v.d
  star-narrows k v l here = star-fars k v l here (other is_wide) (all ++ wides) (λ p q w. narrow-before k v l here p q (turned (is_wide v.at p q) w))
    where
      turned : (b : Bool) → not b ≡ true → b ≡ false
      turned true e = absurd (never e)
      turned false e = refl

  -- the far sides of a corner are of one kind or the other
  both-kinds : (k : ℕ) (v : Record) (j : ℕ) → kind_count is_wide k v j + kind_count (other is_wide) k v j ≡ far_count t k v j
  unfolding far_count far_one
  both-kinds k v j = go (chosen_at t v j)
    where
      one : (w e : Bool) → bit (w && not e) + bit (not w && not e) ≡ bit (not e)
      one true true = refl
      one true false = refl
      one false true = refl
      one false false = refl

      go : (z : Option Point) → kind_at is_wide k v j z + kind_at (other is_wide) k v j z ≡ far_at t k v j z
      go None = refl
      go (Some q) =
          let x = adjacent_at v j in
          let y = adjacent_at v (next_place v.d j) in
          let a = one (is_wide v.at x q) (else_of k v x q) in
          let b = one (is_wide v.at y q) (else_of k v y q) in
          omega (arith, a, b)

  -- what a slot adds
  slot-all : (k : ℕ) (s : Option Record) → slot_sum (λ v. sum_below (near_count t k v) v.d) s
      + (slot_sum (λ v. sum_below (kind_count is_wide k v) v.d) s + slot_sum (λ v. sum_below (kind_count (other is_wide) k v) v.d) s)
      ≡ slot_sum (star_sides t k) s
  slot-all k None = refl
  slot-all k (Some v) =
      let a = sum-plus (kind_count is_wide k v) (kind_count (other is_wide) k v) v.d in
      let b = sum-each (λ j. kind_count is_wide k v j + kind_count (other is_wide) k v j) (far_count t k v) v.d (λ j h. both-kinds k v j) in
      let c = sum-plus (near_count t k v) (far_count t k v) v.d in
      omega (arith, a, b, c)

  -- "An edge is from now on a side of a face, taken once whichever way it runs."
  pub edges-counted : sum_below (slot_sides t) (slots_of t) ≡ edges_in t
  unfolding slot_sides
  edges-counted =
      let n = slots_of t in
      let near : ℕ → ℕ = λ k. slot_sum (λ v. sum_below (near_count t k v) v.d) (slot_at t k) in
      let wide : ℕ → ℕ = λ k. slot_sum (λ v. sum_below (kind_count is_wide k v) v.d) (slot_at t k) in
      let narrow : ℕ → ℕ = λ k. slot_sum (λ v. sum_below (kind_count (other is_wide) k v) v.d) (slot_at t k) in
      let narrows = each (fars_at t (other is_wide)) (records_of t) in
      let a = all-sides t is_wide (records_of t) in
      let b = different-append same_side [] all (wides ++ narrows) in
      let c = different-append same_side all wides narrows in
      let d = different-slots same_side [] (nears_at t) (λ k v. sum_below (near_count t k v) v.d) t n star-nears in
      let e = different-slots same_side all (fars_at t is_wide) (λ k v. sum_below (kind_count is_wide k v) v.d) t n star-wides in
      let f = different-slots same_side (all ++ wides) (fars_at t (other is_wide)) (λ k v. sum_below (kind_count (other is_wide) k v) v.d) t n star-narrows in
      let g = sum-plus near (λ k. wide k + narrow k) n in
      let h = sum-plus wide narrow n in
      let i = sum-each (λ k. near k + (wide k + narrow k)) (λ k. slot_sum (star_sides t k) (slot_at t k)) n (λ k l. slot-all k (slot_at t k)) in
      omega (arith, a, b, c, d, e, f, g, h, i)
