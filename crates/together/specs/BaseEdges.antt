-- The edges of a base, by labels: each hexagon has three spokes, from its centre to the corners where a - b leaves 1, and six sides, of which each of these
-- corners begins two. A side lies between two hexagons, the one to its left and the one to its right; where both are listed it is theirs together. So the
-- sides are those to whose right a hexagon lies, and those to whose left alone one does: `base-edges`.
-- `edge_of` the edges that a centre has at its corner t, `across` the point that lies so far round from an edge · `beside_hex` the hexagon beyond the side to
-- whose left it lies, `beside-centre` · `Hex` the centre of a listed hexagon, `listed-there` · `base_labels` the labels, `labels-many` how many they are.
-- Assumes nothing.
use Rattle.std.specs.Prelude.{◌≡◌, refl, ◌⊎◌, Bool, true, false, not, ℕ, zero, suc, ◌+◌, ◌*◌, ◌%◌, ◌/◌, ◌<◌, ℤ, length}
use Rattle.std.proofs.Common.{sym, ◌∙◌, ap, subst, inl, inr}
use mathlib.Core.List.Memᴰ
use mathlib.Core.List.{List, [], ◌++◌, Memᴰ}
use native.Mathlib.Omega.{arith}
use Rattle.std.proofs.Math.Decide.{ℕ_discrete}
use Rattle.laws.specs.Each.{not-both}
use Rattle.geometry.specs.SideLaws.{Dir}
use Rattle.growth.specs.Normal.{Pt, rank, birth, move, fan, out-rank, out-birth, in-rank}
use Rattle.growth.specs.Hexagons.{centre-in}
use Rattle.growth.specs.BaseLaws.{class-one}
use Rattle.growth.specs.Parents.{par, par-dir, par-rank, par-back, par-inj, par-move, parent_of}
use Rattle.growth.specs.Closed.{T-lo, pres_at}
use Rattle.growth.specs.Order.{cnt, nil}
use Rattle.base.specs.Base.{is_listed}
use Rattle.centres.specs.Centres.{GoodList}
use Rattle.firsts.specs.Faces.{bit, each}
use Rattle.firsts.specs.Earlier.{sum_below}
use Rattle.together.specs.Cells.{add_turn, once, even-turn, cell, u_of, u-rank}
use Rattle.together.specs.Corners.{Mesh, pres, Alive}
use Rattle.together.specs.Places.{Beside, right, left, beside}
use Rattle.together.specs.Faces.{centre-int, base-gap}
use Rattle.together.specs.Inventory.{Distinct, Inventory, append-distinct, append-length, up_to, upto-in, in-upto, upto-distinct, upto-length}
use Rattle.together.specs.Gathered.{each_in, in-each, each-distinct, each-length, kept, kept_in, in_kept, kept-distinct}
use Rattle.together.specs.Gathered.{over, over-same, over-each, kept-length}
use Rattle.together.specs.Added.{seq_mesh}
use Rattle.together.specs.BaseStarts.{hex-start}
use Rattle.together.specs.Edges.{Label, label, Flanked, flanked-at, flanked-there, Edge}

-- at corner t of h: o = 6 the spoke, o = 4 the side to whose left h lies, o = 8 the one to whose right
abbrev edge_of : ℕ → Pt → ℕ → Label
edge_of o h t = label (par h t 0) ((birth h + 4 * t + o) % 12)

abbrev across : ℕ → Label → Pt
across o l = move l.x ((l.e + o) % 12) 0

-- the hexagon beyond the side to whose left h lies
abbrev pub beside_hex : Pt → ℕ → Pt
beside_hex h t = across 10 (edge_of 4 h t)

module _ (cs : List ℤ) (g : GoodList cs) where
  abbrev B : Mesh
  B = seq_mesh (is_listed cs) [] nil

  -- h is the centre of a listed hexagon
  pub record Hex (h : Pt) : Type 0 where
    pub level : rank h ≡ 1
    pub turn : birth h ≡ 0
    pub there : pres_at (is_listed cs) (cnt []) h 1 ≡ true

  pub listed-there : (h : Pt) → rank h ≡ 1 → birth h ≡ 0 → pres_at (is_listed cs) (cnt []) h 1 ≡ is_listed cs h.at
  unfolding pres_at
  listed-there h r b = centre-in (is_listed cs) h.at (sym (class-one h r) ∙ b)

  -- ---- each is an edge
  module _ (h : Pt) (X : Hex h) (t : ℕ) (l : t < 3) where
    d : Dir (birth h + 4 * t) 0
    d = par-dir h t 0 l X.level

    ground : rank (par h t 0) ≡ 0
    ground = let z = par-rank h t 0 l X.level in omega (arith, z)

    inner : Alive B (cell (par h t 0) ((birth h + 4 * t + 6) % 12) 0)
    inner = (hex-start cs g h t X.level X.turn X.there l).1

    outer : Alive B (cell (par h t 0) ((birth h + 4 * t + 4) % 12) 0)
    outer =
        let k = cell (par h t 0) ((birth h + 4 * t + 4) % 12) 0 in
        let dk : Dir ((birth h + 4 * t + 4) % 12) 0 = even-turn 4 (birth h + 4 * t) 0 refl d in
        let low = par-rank h t 0 l X.level in
        let u-is : u_of k ≡ move h ((birth h + 4 * t + 2) % 12) 0 =
        ap (λ (p : Pt). move p ((birth h + 4 * t + 4) % 12) 0) (par-move h t 0) ∙ fan h (birth h + 4 * t) 0 d in
        let gap = base-gap B h ((birth h + 4 * t + 2) % 12) X.level (centre-int B h X.level X.turn X.there)
        (even-turn 2 (birth h + 4 * t) 0 refl d) (two (birth h) t X.turn) in
        let v-is = ap (λ (e : ℕ). move (par h t 0) e 0) (add_turn (birth h + 4 * t) 4 2) ∙ sym (par-back h (par h t 0) t 0 l X.level refl) in
        record {
          dir = dk;
          low = low;
          u-there = ap (pres_at (is_listed cs) (cnt []) (u_of k)) (u-rank k dk low) ∙ ap (λ (p : Pt). pres_at (is_listed cs) (cnt []) p 1) u-is ∙ gap;
          v-there = ap (pres B) v-is ∙ ap (pres_at (is_listed cs) (cnt []) h) X.level ∙ X.there;
        }
      where
        two : (b t : ℕ) → b ≡ 0 → ((b + 4 * t + 2) % 12 + 2) % 4 ≡ b
        two b t z = omega arith

    at-ground : (e : ℕ) → Dir e 0 → Flanked B (par h t 0) e 0 → Edge B (label (par h t 0) e)
    at-ground e k F =
        record {
          dir = subst (λ (r : ℕ). Dir e r) (sym ground) k;
          flanked = flanked-at B (par h t 0) e e 0 (rank (par h t 0)) refl (sym ground) F;
        }

    spoke : Edge B (edge_of 6 h t)
    spoke = at-ground ((birth h + 4 * t + 6) % 12) inner.dir (inl inner)

    left-side : Edge B (edge_of 4 h t)
    left-side = at-ground ((birth h + 4 * t + 4) % 12) outer.dir (inl outer)

    right_side : Edge B (edge_of 8 h t)
    right_side =
        at-ground ((birth h + 4 * t + 8) % 12) (even-turn 8 (birth h + 4 * t) 0 refl d)
        (inr (subst (λ (e : ℕ). Alive B (cell (par h t 0) e 0)) (sym (add_turn (birth h + 4 * t) 8 10 ∙ once (birth h + 4 * t) 6)) inner))

    -- the edge tells its hexagon
    seen : (o i : ℕ) → o + i ≡ 18 → across i (edge_of o h t) ≡ h
    seen o i s = ap (λ (e : ℕ). move (par h t 0) e 0) (turn (birth h + 4 * t) o i s) ∙ sym (par-back h (par h t 0) t 0 l X.level refl)
      where
        turn : (e o i : ℕ) → o + i ≡ 18 → ((e + o) % 12 + i) % 12 ≡ (e + 6) % 12
        turn e o i s = omega arith

  -- ---- and each edge is one of them: from x towards the centre in direction d
  module _ (x : Pt) (z : rank x ≡ 0) (d : ℕ) (k : Dir d 0) (two : d % 4 ≡ 2) where
    to_level : rank (move x d 0) ≡ 1
    to_level = out-rank x d 0 k (omega arith)

    to-turn : birth (move x d 0) ≡ 0
    to-turn = out-birth x d 0 k (omega arith) ∙ zero4 d two
      where
        zero4 : (d : ℕ) → d % 4 ≡ 2 → (d + 6) % 4 ≡ 0
        zero4 d h = omega arith

    to-hex : pres_at (is_listed cs) (cnt []) (move x d 0) 1 ≡ true → Hex (move x d 0)
    to-hex on = record { level = to_level; turn = to-turn; there = on }

    is-edge : (o e : ℕ) → e ≡ ((d + 6) % 12 + o) % 12 → label x e ≡ edge_of o (move x d 0) ((d + 6) % 12 / 4)
    is-edge o e h = λ i. label (sym (parent_of x d 0 k (omega arith)) i) (dir-is d o e (birth (move x d 0)) two to-turn h i)
      where
        quarter : (q : ℕ) → q % 4 ≡ 0 → q ≡ 0 + 4 * (q / 4)
        quarter q h = omega arith

        whole4 : (d : ℕ) → d % 4 ≡ 2 → (d + 6) % 12 % 4 ≡ 0
        whole4 d h = omega arith

        dir-is : (d o e b : ℕ) → d % 4 ≡ 2 → b ≡ 0 → e ≡ ((d + 6) % 12 + o) % 12 → e ≡ (b + 4 * ((d + 6) % 12 / 4) + o) % 12
        dir-is d o e b t z h =
            h ∙ ap (λ (q : ℕ). (q + o) % 12) (quarter ((d + 6) % 12) (whole4 d t)) ∙ ap (λ (b : ℕ). (b + 4 * ((d + 6) % 12 / 4) + o) % 12) (sym z)

  -- ---- all of them
  module _ (hs : List Pt) (I : Inventory Hex hs) where
    abbrev ring : ℕ → List Label
    ring o = each (λ h. up_to (edge_of o h) 3) hs

    ring_in : (o : ℕ) (l : Label) → Memᴰ l (ring o) → (h : Pt) × Hex h × (t : ℕ) × (t < 3) × (l ≡ edge_of o h t)
    ring_in o l m =
        let (h, n, k) = each_in (λ h. up_to (edge_of o h) 3) hs l m in
        let (t, b, e) = upto-in (edge_of o h) 3 l k in
        (h, I.sound h n, t, b, e)

    in-ring : (o : ℕ) (h : Pt) → Hex h → (t : ℕ) → t < 3 → Memᴰ (edge_of o h t) (ring o)
    in-ring o h X t b = in-each (λ h. up_to (edge_of o h) 3) hs h (edge_of o h t) (I.full h X) (in-upto (edge_of o h) 3 t b)

    ring-distinct : (o i : ℕ) → o + i ≡ 18 → Distinct (ring o)
    ring-distinct o i s =
        each-distinct (λ h. up_to (edge_of o h) 3) hs I.distinct
        (λ h m. upto-distinct (edge_of o h) 3 (λ a b k l e. par-inj h a b 0 k l (I.sound h m).level (ap (λ (l : Label). l.x) e)))
        (λ h k z m n a b.
        (let (t, l, e) = upto-in (edge_of o h) 3 z a in
        let (r, j, f) = upto-in (edge_of o k) 3 z b in
        sym (seen h (I.sound h m) t l o i s) ∙ ap (across i) (sym e ∙ f) ∙ seen k (I.sound k n) r j o i s))

    ring-four : (o : ℕ) (l : Label) → Memᴰ l (ring o) → l.e % 4 ≡ o % 4
    ring-four o l m = let (h, X, t, b, e) = ring_in o l m in ap (λ (l : Label). l.e % 4) e ∙ four (birth h) t o X.turn
      where
        four : (b t o : ℕ) → b ≡ 0 → (b + 4 * t + o) % 12 % 4 ≡ o % 4
        four b t o z = omega arith

    -- a hexagon lies to its right
    abbrev shared : Label → Bool
    shared l = is_listed cs (across 10 l).at

    abbrev lone : List Label
    lone = kept (λ l. not (shared l)) (ring 4)

    abbrev pub base_labels : List Label
    base_labels = ring 6 ++ (ring 8 ++ lone)

    right-shared : (l : Label) → Memᴰ l (ring 8) → shared l ≡ true
    right-shared l m =
        let (h, X, t, b, e) = ring_in 8 l m in
        ap (λ (q : Pt). is_listed cs q.at) (ap (across 10) e ∙ seen h X t b 8 10 refl) ∙ sym (listed-there h X.level X.turn) ∙ X.there

    distinct : Distinct (ring 6 ++ (ring 8 ++ lone))
    distinct =
        append-distinct (ring 6) (ring 8 ++ lone) (ring-distinct 6 12 refl)
        (append-distinct (ring 8) lone (ring-distinct 8 10 refl) (kept-distinct (λ l. not (shared l)) (ring 4) (ring-distinct 4 14 refl))
        (λ l a b. not-both (kept_in (λ l. not (shared l)) (ring 4) l b).1 (ap not (right-shared l a))))
        (λ l a b. apart l (ring-four 6 l a) (Memᴰ.append_cases (ring 8) b))
      where
        apart : (l : Label) → l.e % 4 ≡ 2 → Memᴰ l (ring 8) ⊎ Memᴰ l lone → ⊥
        apart l e (inl m) = let z = ring-four 8 l m in omega (arith, e, z)
        apart l e (inr m) = let z = ring-four 4 l (kept_in (λ l. not (shared l)) (ring 4) l m).0 in omega (arith, e, z)

    sound : (l : Label) → Memᴰ l (ring 6) ⊎ Memᴰ l (ring 8 ++ lone) → Edge B l
    sound l (inl m) = let (h, X, t, b, e) = ring_in 6 l m in subst (Edge B) (sym e) (spoke h X t b)
    sound l (inr n) = go (Memᴰ.append_cases (ring 8) n)
      where
        go : Memᴰ l (ring 8) ⊎ Memᴰ l lone → Edge B l
        go (inl m) = let (h, X, t, b, e) = ring_in 8 l m in subst (Edge B) (sym e) (right_side h X t b)
        go (inr m) =
            let (h, X, t, b, e) = ring_in 4 l (kept_in (λ l. not (shared l)) (ring 4) l m).0 in
            subst (Edge B) (sym e) (left-side h X t b)

    -- of what lies in direction d, as it is there
    found : (o : ℕ) (l : Label) → rank l.x ≡ 0 → (d : ℕ) → Dir d 0 → d % 4 ≡ 2 → l.e ≡ ((d + 6) % 12 + o) % 12
        → pres_at (is_listed cs) (cnt []) (move l.x d 0) 1 ≡ true → Memᴰ l (ring o)
    found o l z d k two e on =
        subst (λ (m : Label). Memᴰ m (ring o)) (sym (is-edge l.x z d k two o l.e e))
        (in-ring o (move l.x d 0) (to-hex l.x z d k two on) ((d + 6) % 12 / 4) (omega arith))

    full : (l : Label) → Edge B l → Memᴰ l (ring 6 ++ (ring 8 ++ lone))
    full l E = go (rank l.x) refl
      where
        deep : (b : ℕ) → rank l.x ≡ suc b → Beside B l.x b l.e → Memᴰ l (ring 6 ++ (ring 8 ++ lone))
        deep b f (right a d k e h) =
            let x = T-lo (cnt []) (move l.x a b) b h in
            let y = in-rank l.x a b d.0 f k in
            absurd (unfold cnt in omega (arith, x, y))
        deep b f (left a d k e h) =
            let x = T-lo (cnt []) (move l.x a b) b h in
            let y = in-rank l.x a b d.0 f k in
            absurd (unfold cnt in omega (arith, x, y))

        at_zero : (z : rank l.x ≡ 0) → Dir l.e 0 → Flanked B l.x l.e 0 → Memᴰ l (ring 6 ++ (ring 8 ++ lone))
        at_zero z d F = by (ℕ_discrete (l.e % 4) 2)
          where
            as_one : (d : ℕ) → Dir d 0 → pres B (move l.x d 0) ≡ true → pres_at (is_listed cs) (cnt []) (move l.x d 0) 1 ≡ true
            as_one d k h = ap (pres_at (is_listed cs) (cnt []) (move l.x d 0)) (sym (out-rank l.x d 0 k (omega arith))) ∙ h

            six : (e : ℕ) → e < 12 → e ≡ ((e + 6) % 12 + 6) % 12
            six e h = omega arith

            four : (e : ℕ) → e < 12 → e ≡ (((e + 2) % 12 + 6) % 12 + 4) % 12
            four e h = omega arith

            eight : (e : ℕ) → e < 12 → e ≡ (((e + 10) % 12 + 6) % 12 + 8) % 12
            eight e h = omega arith

            even2 : (e : ℕ) → e % 2 ≡ 0 → (e % 4 ≡ 2 → ⊥) → (e + 2) % 12 % 4 ≡ 2
            even2 e h n = omega arith

            even10 : (e : ℕ) → e % 2 ≡ 0 → (e % 4 ≡ 2 → ⊥) → (e + 10) % 12 % 4 ≡ 2
            even10 e h n = omega arith

            by : Dec (l.e % 4 ≡ 2) → Memᴰ l (ring 6 ++ (ring 8 ++ lone))
            by (yes two) =
                Memᴰ.append_left (ring 8 ++ lone)
                (found 6 l z l.e d two (six l.e d.0) (as_one l.e d (flanked-there B l.x l.e 0 d.0 F)))
            by (no two) = Memᴰ.append_right (ring 6) (sided (shared l) refl F)
              where
                k : Dir ((l.e + 10) % 12) 0
                k = even-turn 10 l.e 0 refl d

                ten : (l.e + 10) % 12 % 4 ≡ 2
                ten = even10 l.e d.1 two

                is : pres_at (is_listed cs) (cnt []) (across 10 l) 1 ≡ shared l
                is = listed-there (across 10 l) (to_level l.x z ((l.e + 10) % 12) k ten) (to-turn l.x z ((l.e + 10) % 12) k ten)

                sided : (b : Bool) → shared l ≡ b → Flanked B l.x l.e 0 → Memᴰ l (ring 8 ++ lone)
                sided true s F = Memᴰ.append_left lone (found 8 l z ((l.e + 10) % 12) k ten (eight l.e d.0) (is ∙ s))
                sided false s (inr A) = absurd (not-both (sym is ∙ as_one ((l.e + 10) % 12) k A.u-there) s)
                sided false s (inl A) =
                    let k2 = even-turn 2 l.e 0 refl d in
                    Memᴰ.append_right (ring 8)
                    (in_kept (λ l. not (shared l)) (ring 4) l
                    (found 4 l z ((l.e + 2) % 12) k2 (even2 l.e d.1 two) (four l.e d.0) (as_one ((l.e + 2) % 12) k2 A.v-there)) (ap not s))

        go : (f : ℕ) → rank l.x ≡ f → Memᴰ l (ring 6 ++ (ring 8 ++ lone))
        go zero z = at_zero z (subst (λ (r : ℕ). Dir l.e r) z E.dir) (flanked-at B l.x l.e l.e (rank l.x) 0 refl z E.flanked)
        go (suc b) f =
            let F : Flanked B l.x l.e (suc b) = flanked-at B l.x l.e l.e (rank l.x) (suc b) refl f E.flanked in
            deep b f (beside B l.x b l.e f (subst (λ (r : ℕ). Dir l.e r) f E.dir) (flanked-there B l.x l.e (suc b) E.dir.0 F))

    pub base-edges : Inventory (Edge B) base_labels
    base-edges = record { distinct = distinct; sound = λ l m. sound l (Memᴰ.append_cases (ring 6) m); full = full }

    -- nine a hexagon, less the sides that two have together
    pub labels-many : length base_labels + over (λ h. sum_below (λ t. bit (is_listed cs (beside_hex h t).at)) 3) hs ≡ 9 * length hs
    labels-many =
        let a = append-length (ring 6) (ring 8 ++ lone) in
        let b = append-length (ring 8) lone in
        let c = three 6 in
        let d = three 8 in
        let e = three 4 in
        let k = kept-length shared (ring 4) in
        let o = over-each (λ l. bit (shared l)) (λ h. up_to (edge_of 4 h) 3) hs in
        let s = over-same (λ h. over (λ l. bit (shared l)) (up_to (edge_of 4 h) 3)) (λ h. sum_below (λ t. bit (is_listed cs (beside_hex h t).at)) 3) hs
        (λ h m. one h) in
        omega (arith, a, b, c, d, e, k, o, s)
      where
        three : (o : ℕ) → length (each (λ h. up_to (edge_of o h) 3) hs) ≡ length hs * 3
        three o = each-length (λ h. up_to (edge_of o h) 3) 3 (λ h. upto-length (edge_of o h) 3) hs

        one : (h : Pt) → over (λ l. bit (shared l)) (up_to (edge_of 4 h) 3) ≡ sum_below (λ t. bit (is_listed cs (beside_hex h t).at)) 3
        one h = unfold over in unfold up_to in unfold sum_below in omega arith

  -- what lies beyond a side is a centre, listed or not
  pub beside-centre : (h : Pt) → rank h ≡ 1 → birth h ≡ 0 → (t : ℕ) → t < 3 → (rank (beside_hex h t) ≡ 1) × (birth (beside_hex h t) ≡ 0)
  beside-centre h r b t l =
      let z = par-rank h t 0 l r in
      let k : Dir (((birth h + 4 * t + 4) % 12 + 10) % 12) 0 =
      even-turn 10 ((birth h + 4 * t + 4) % 12) 0 refl (even-turn 4 (birth h + 4 * t) 0 refl (par-dir h t 0 l r)) in
      let two = four (birth h) t b in (
        to_level (par h t 0) (omega (arith, z)) (((birth h + 4 * t + 4) % 12 + 10) % 12) k two,
        to-turn (par h t 0) (omega (arith, z)) (((birth h + 4 * t + 4) % 12 + 10) % 12) k two,
      )
    where
      four : (b t : ℕ) → b ≡ 0 → ((b + 4 * t + 4) % 12 + 10) % 12 % 4 ≡ 2
      four b t z = omega arith
