-- Edges counted. The label of an edge is its end x of lower rank, with a direction e of x's own rank: the edge now runs in direction e + c x, at level
-- rank x + c x (`far_end`). A label is alive where a cell on one of its two sides is, at the level rank x (`Edge`). Each side of a live cell's face has a
-- label that is alive, each such label is a side, and two sides are the same only where their labels are: `edges-labels`.
-- `edge-inventory` the labels of a table can be listed · `edges-add` a subdivision of q adds twelve: from each of its six old adjacents, the two new points
-- beside q.
-- Assumes nothing.
use Rattle.std.specs.Prelude.{◌≡◌, refl, ◌⊎◌, Bool, true, false, ℕ, zero, suc, ◌+◌, ◌*◌, ◌%◌, ◌/◌, ◌<◌, length}
use Rattle.std.proofs.Common.{sym, ◌∙◌, ap, subst, inl, inr, arith}
use mathlib.Core.List.Memᴰ
use mathlib.Core.List.{List, [], ◌∷◌, ◌++◌, Memᴰ}
use Rattle.std.proofs.Math.Decide.{ℕ_discrete}
use Rattle.laws.specs.Each.{not-both}
use Rattle.laws.specs.Some.{some_of, some_at, at_some}
use Rattle.geometry.specs.SideLaws.{Dir}
use Rattle.growth.specs.Normal.{Pt, pt-eq, pt?, rank, birth, move, inj, back, out-rank, out-birth}
use Rattle.growth.specs.Directions.{mod-12-4}
use Rattle.growth.specs.Closed.{T, T-hi, T-lt, T-on, T-off, bump, Good}
use Rattle.table.specs.Entries.{records_of}
use Rattle.firsts.specs.Faces.{each, faces_at, same_face, Side, side, sides_of, same_side}
use Rattle.firsts.specs.DifferentLaws.{some-over}
use Rattle.firsts.specs.FaceLaws.{same-round}
use Rattle.firsts.specs.SameLaws.{side_same, side-self, swap-right, same-sides, sides-alike, faces-alike}
use Rattle.firsts.specs.declared.faces.Face.{Face}
use Rattle.counts.specs.Counts.{edges_in}
use Rattle.together.specs.Cells.{add_turn, once, whole, even-turn, odd-turn, Cell, cell, u_of, v_of, w_of, other, dir2, u-x, v-x, u-w, v-w, u-rank, v-rank}
use Rattle.together.specs.Cells.{u-birth, v-birth}
use Rattle.together.specs.Corners.{Mesh, pres, Alive, old-alive, made-alive, left_there, right_there, round-alive}
use Rattle.together.specs.Places.{level-is, Beside, right, left, beside, ring-dir}
use Rattle.together.specs.Faces.{Live, xw_by, xw_of, yz_of, cell_face, other-live, face-other, u-off, v-off, Drawn}
use Rattle.together.specs.Inventory.{Distinct, Inventory, append-distinct, append-length, different-labels, inventory-of, up_to}
use Rattle.together.specs.Inventory.{upto-in, in-upto, upto-distinct, upto-length}
use Rattle.together.specs.Starts.{lives, has-face}
use Rattle.together.specs.Added.{after, keep-alive, ground-alive, split-new, Gains}

-- ---- two sides with the same ends
same_ends : (p q r s : Pt) → p ≡ r → q ≡ s → same_side (side p.at q.at) (side r.at s.at) ≡ true
same_ends p q r s e h = (λ i. same_side (side (e i).at (h i).at) (side r.at s.at)) ∙ side-self (side r.at s.at)

cross-ends : (p q r s : Pt) → p ≡ s → q ≡ r → same_side (side p.at q.at) (side r.at s.at) ≡ true
cross-ends p q r s e h = swap-right (side p.at q.at) (side s.at r.at) ∙ same_ends p q s r e h

-- ---- labels
pub record Label : Type 0 where
  pub x : Pt
  pub e : ℕ

abbrev pub label : Pt → ℕ → Label
label x e = record { x = x; e = e }

label? : (l m : Label) → Dec (l ≡ m)
label? l m = go (pt? l.x m.x) (ℕ_discrete l.e m.e)
  where
    go : Dec (l.x ≡ m.x) → Dec (l.e ≡ m.e) → Dec (l ≡ m)
    go (yes a) (yes b) = yes (λ t. label (a t) (b t))
    go (yes a) (no b) = no (λ h. b (ap (λ (l : Label). l.e) h))
    go (no a) q = no (λ h. a (ap (λ (l : Label). l.x) h))

abbrev far_end : Mesh → Label → Pt
far_end M l = move l.x ((l.e + M.c l.x) % 12) (rank l.x + M.c l.x)

abbrev side_in : Mesh → Label → Side
side_in M l = side l.x.at (far_end M l).at

-- a cell on one of the two sides of direction e is alive
abbrev pub Flanked : Mesh → Pt → ℕ → ℕ → Type 0
Flanked M x e i = Alive M (cell x e i) ⊎ Alive M (cell x ((e + 10) % 12) i)

pub record Edge (M : Mesh) (l : Label) : Type 0 where
  pub dir : Dir l.e (rank l.x)
  pub flanked : Flanked M l.x l.e (rank l.x)

pub flanked-at : (M : Mesh) (x : Pt) (e g i j : ℕ) → e ≡ g → i ≡ j → Flanked M x e i → Flanked M x g j
flanked-at M x e g i j h k (inl A) = inl (subst (Alive M) (λ t. cell x (h t) (k t)) A)
flanked-at M x e g i j h k (inr A) = inr (subst (Alive M) (λ t. cell x ((h t + 10) % 12) (k t)) A)

pub flanked-there : (M : Mesh) (x : Pt) (e i : ℕ) → e < 12 → Flanked M x e i → pres M (move x e i) ≡ true
flanked-there M x e i h (inl A) = A.u-there
flanked-there M x e i h (inr A) = ap (λ (g : ℕ). pres M (move x g i)) (sym (add_turn e 10 2 ∙ whole e h)) ∙ A.v-there

module _ (M : Mesh) where
  far-dir : (x : Pt) (e : ℕ) → Dir e (rank x) → Dir ((e + M.c x) % 12) (rank x + M.c x)
  far-dir x e d = (omega arith, go e (rank x) (M.c x) d.1)
    where
      twelve : (x : ℕ) → x % 12 % 2 ≡ x % 2
      twelve x = omega arith

      sum : (e r n : ℕ) → e % 2 ≡ r % 2 → (e + n) % 2 ≡ (r + n) % 2
      sum e r n h = omega arith

      go : (e r n : ℕ) → e % 2 ≡ r % 2 → (e + n) % 12 % 2 ≡ (r + n) % 2
      go e r n h = twelve (e + n) ∙ sum e r n h

  -- ---- two labels of one edge
  abbrev Marks : Side → Label → Type 0
  Marks p l = Edge M l × (same_side p (side_in M l) ≡ true)

  alike : (p q : Side) (l : Label) → Marks p l → Marks q l → same_side p q ≡ true
  alike p q l (E, h) (_, k) = sides-alike.both p (side_in M l) h q ∙ sides-alike.turn (side_in M l) q ∙ k

  agree : (p q : Side) (l m : Label) → Marks p l → Marks q m → same_side p q ≡ true → l ≡ m
  agree p q l m (E, h) (F, k) z =
      go (side_same (side_in M l) (side_in M m) (sym (sides-alike.both p (side_in M l) h (side_in M m)) ∙ sides-alike.both p q z (side_in M m) ∙ k))
    where
      rl : rank (far_end M l) ≡ suc (rank l.x + M.c l.x)
      rl = out-rank l.x ((l.e + M.c l.x) % 12) (rank l.x + M.c l.x) (far-dir l.x l.e E.dir) (omega arith)

      rm : rank (far_end M m) ≡ suc (rank m.x + M.c m.x)
      rm = out-rank m.x ((m.e + M.c m.x) % 12) (rank m.x + M.c m.x) (far-dir m.x m.e F.dir) (omega arith)

      turn : (a b n : ℕ) → a < 12 → b < 12 → (a + n) % 12 ≡ (b + n) % 12 → a ≡ b
      turn a b n ha hb h = omega arith

      go : (side_in M l ≡ side_in M m) ⊎ (side_in M l ≡ side (far_end M m).at m.x.at) → l ≡ m
      go (inl e) =
          let n = M.c l.x in
          let r = rank l.x + M.c l.x in
          let ex : l.x ≡ m.x = pt-eq l.x m.x (ap (λ (s : Side). s.one) e) in
          let ef : far_end M l ≡ far_end M m = pt-eq (far_end M l) (far_end M m) (ap (λ (s : Side). s.other) e) in
          let dm : Dir ((m.e + n) % 12) r = subst (λ (q : Pt). Dir ((m.e + M.c q) % 12) (rank q + M.c q)) (sym ex) (far-dir m.x m.e F.dir) in
          let z : move l.x ((l.e + n) % 12) r ≡ move l.x ((m.e + n) % 12) r =
          ef ∙ (λ t. move (sym ex t) ((m.e + M.c (sym ex t)) % 12) (rank (sym ex t) + M.c (sym ex t))) in
          let ee : l.e ≡ m.e =
          turn l.e m.e n E.dir.0 F.dir.0 (inj l.x ((l.e + n) % 12) ((m.e + n) % 12) r (far-dir l.x l.e E.dir) dm z) in
          (λ t. label (ex t) (ee t))
      go (inr e) =
          let r = ap rank (pt-eq l.x (far_end M m) (ap (λ (s : Side). s.one) e)) in
          let s = ap rank (pt-eq (far_end M l) m.x (ap (λ (s : Side). s.other) e)) in
          absurd (omega (arith, r, s, rl, rm))

  -- ---- a label, by the direction that its edge has now
  module _ (x : Pt) (e i : ℕ) (d : Dir e i) (n : i ≡ rank x + M.c x) where
    abbrev now : Label
    now = label x ((e + 11 * M.c x) % 12)

    far-now : far_end M now ≡ move x e i
    far-now = λ t. move x (go e (M.c x) d.0 t) (sym n t)
      where
        go : (e n : ℕ) → e < 12 → ((e + 11 * n) % 12 + n) % 12 ≡ e
        go e n h = omega arith

    dir-now : Dir ((e + 11 * M.c x) % 12) (rank x)
    dir-now = (omega arith, twelve (e + 11 * M.c x) ∙ sum e (rank x) (M.c x) (d.1 ∙ ap (λ (i : ℕ). i % 2) n))
      where
        twelve : (x : ℕ) → x % 12 % 2 ≡ x % 2
        twelve x = omega arith

        sum : (e r n : ℕ) → e % 2 ≡ (r + n) % 2 → (e + 11 * n) % 2 ≡ r % 2
        sum e r n h = omega arith

    -- x has been subdivided: both sides are alive at its rank; or it has not, and they are as they are now
    edge-now : Flanked M x e i → Edge M now
    edge-now A = go (ℕ_discrete (M.c x) 0)
      where
        go : Dec (M.c x ≡ 0) → Edge M now
        go (no z) =
            record {
              dir = dir-now;
              flanked = inl
                  (old-alive M x ((e + 11 * M.c x) % 12) (rank x) dir-now (omega arith) (T-lt M.c x (rank x) (omega arith)));
            }
        go (yes z) =
            let ee : e ≡ (e + 11 * M.c x) % 12 = same e (M.c x) d.0 z in
            let ei : i ≡ rank x = n ∙ ap (λ (m : ℕ). rank x + m) z ∙ omega arith in
            record { dir = dir-now; flanked = flanked-at M x e ((e + 11 * M.c x) % 12) i (rank x) ee ei A }
          where
            same : (e n : ℕ) → e < 12 → n ≡ 0 → e ≡ (e + 11 * n) % 12
            same e n h z = let w : e ≡ (e + 11 * 0) % 12 = omega arith in w ∙ ap (λ (m : ℕ). (e + 11 * m) % 12) (sym z)

  -- ---- each side of a live cell's face has a label
  module _ (k : Cell) (L : Live M k) where
    abbrev A : Alive M k
    A = L.alive

    abbrev Labelled : Pt → Type 0
    Labelled q = (l : Label) × Marks (side (xw_of M k).at q.at) l

    -- at x, not subdivided, in direction g; at its adjacent p, not subdivided, towards w
    at_x : T M.c k.x k.i ≡ false → (g : ℕ) → Dir g k.i → Flanked M k.x g k.i → Labelled (move k.x g k.i)
    at_x off g d F =
        let n = level-is M k.x k.e k.i A.dir A.low A.u-there off in
        let q = move k.x g k.i in (
          now k.x g k.i d n,
          (
            edge-now k.x g k.i d n F,
            same_ends (xw_of M k) q k.x (far_end M (now k.x g k.i d n)) (ap (xw_by k) off) (sym (far-now k.x g k.i d n)),
          ),
        )

    at_p : T M.c k.x k.i ≡ true → (p : Pt) (g : ℕ) → rank p ≡ suc k.i → T M.c p (suc k.i) ≡ false → Dir g (suc k.i)
        → move p g (suc k.i) ≡ w_of k → Flanked M p g (suc k.i) → Labelled p
    at_p on p g f off d w F =
        let z = T-hi M.c p (suc k.i) off in
        let n : suc k.i ≡ rank p + M.c p = omega arith in (
          now p g (suc k.i) d n,
          (
            edge-now p g (suc k.i) d n F,
            cross-ends (xw_of M k) p p (far_end M (now p g (suc k.i) d n)) (ap (xw_by k) on ∙ sym w ∙ sym (far-now p g (suc k.i) d n)) refl,
          ),
        )

    u-side : Labelled (u_of k)
    u-side = go (T M.c k.x k.i) refl
      where
        four : (e : ℕ) → (e + 6) % 12 % 4 ≡ (e + 2) % 12 % 4
        four e = omega arith

        go : (b : Bool) → T M.c k.x k.i ≡ b → Labelled (u_of k)
        go false h = at_x h k.e A.dir (inl A)
        go true h =
            let e = k.e in
            let d = A.dir in
            let f = u-rank k d A.low in
            let B = round-alive M (u_of k) ((e + 6) % 12) k.i f (even-turn 6 e k.i refl d) (four e ∙ u-birth k d A.low)
            (ap (λ (q : Pt). T M.c q k.i) (u-x k d) ∙ h) in
            at_p h (u_of k) ((e + 5) % 12) f (u-off M k L h) (odd-turn 5 e k.i refl d) (u-w k d)
            (inl (subst (λ (g : ℕ). Alive M (cell (u_of k) g (suc k.i))) (add_turn e 6 11 ∙ once e 5) B))

    v-side : Labelled (v_of k)
    v-side = go (T M.c k.x k.i) refl
      where
        four : (e : ℕ) → (e + 8) % 12 % 4 ≡ e % 4
        four e = omega arith

        go : (b : Bool) → T M.c k.x k.i ≡ b → Labelled (v_of k)
        go false h =
            at_x h ((k.e + 2) % 12) (dir2 k A.dir)
            (inr (subst (λ (g : ℕ). Alive M (cell k.x g k.i)) (sym (add_turn k.e 2 10 ∙ whole k.e A.dir.0)) A))
        go true h =
            let e = k.e in
            let d = A.dir in
            let f = v-rank k d A.low in
            let B = round-alive M (v_of k) ((e + 8) % 12) k.i f (even-turn 8 e k.i refl d) (four e ∙ v-birth k d A.low)
            (ap (λ (q : Pt). T M.c q k.i) (v-x k d) ∙ h) in
            at_p h (v_of k) ((e + 9) % 12) f (v-off M k L h) (odd-turn 9 e k.i refl d) (v-w k d)
            (inr (subst (λ (g : ℕ). Alive M (cell (v_of k) g (suc k.i))) (add_turn e 8 11 ∙ sym (add_turn e 9 10)) B))

  -- the other two are these of the other name
  side-label : (k : Cell) → Live M k → (z : Side) → Memᴰ z (sides_of (cell_face M k)) → (l : Label) × Marks z l
  side-label k L z h = a (Memᴰ.cases_cons h)
    where
      O : Live M (other k)
      O = other-live M k L

      given : (s : Side) → z ≡ s → (l : Label) × Marks s l → (l : Label) × Marks z l
      given s e (l, (E, m)) = (l, (E, ap (λ (s : Side). same_side s (side_in M l)) e ∙ m))

      crossed : (p q : Pt) → z ≡ side q.at p.at → (l : Label) × Marks (side p.at q.at) l → (l : Label) × Marks z l
      crossed p q e (l, (E, m)) = (
        l,
        (
          E,
          sides-alike.both z (side p.at q.at) (ap (λ (s : Side). same_side s (side p.at q.at)) e ∙ cross-ends q p p q refl refl)
              (side_in M l) ∙ m,
        ),
      )

      d : (z ≡ side (v_of k).at (xw_of M k).at) ⊎ Memᴰ z [] → (l : Label) × Marks z l
      d (inl e) = crossed (xw_of M k) (v_of k) e (v-side k L)
      d (inr m) = absurd (Memᴰ.not-nil m)

      c : (z ≡ side (yz_of M k).at (v_of k).at) ⊎ Memᴰ z (side (v_of k).at (xw_of M k).at ∷ []) → (l : Label) × Marks z l
      c (inl e) =
          given (side (xw_of M (other k)).at (u_of (other k)).at) (e ∙ (λ i. side (face-other M k L i).at (face-other M k L i).adjacent))
          (u-side (other k) O)
      c (inr m) = d (Memᴰ.cases_cons m)

      b : (z ≡ side (u_of k).at (yz_of M k).at) ⊎ Memᴰ z (side (yz_of M k).at (v_of k).at ∷ side (v_of k).at (xw_of M k).at ∷ [])
          → (l : Label) × Marks z l
      b (inl e) = crossed (xw_of M (other k)) (v_of (other k)) (e ∙ (λ i. side (face-other M k L i).next (face-other M k L i).at)) (v-side (other k) O)
      b (inr m) = c (Memᴰ.cases_cons m)

      a : (z ≡ side (xw_of M k).at (u_of k).at)
          ⊎ Memᴰ z (side (u_of k).at (yz_of M k).at ∷ side (yz_of M k).at (v_of k).at ∷ side (v_of k).at (xw_of M k).at ∷ [])
          → (l : Label) × Marks z l
      a (inl e) = given (side (xw_of M k).at (u_of k).at) e (u-side k L)
      a (inr m) = b (Memᴰ.cases_cons m)

  -- ---- and each label is a side
  label-side : (l : Label) → Edge M l → (k : Cell) × Live M k × (z : Side) × Memᴰ z (sides_of (cell_face M k)) × (same_side (side_in M l) z ≡ true)
  label-side l E = go (flanked (M.c l.x) refl)
    where
      e : ℕ
      e = (l.e + M.c l.x) % 12

      i : ℕ
      i = rank l.x + M.c l.x

      d : Dir ((l.e + M.c l.x) % 12) (rank l.x + M.c l.x)
      d = far-dir l.x l.e E.dir

      off : T M.c l.x (rank l.x + M.c l.x) ≡ false
      off = T-off M.c l.x (rank l.x + M.c l.x) refl

      -- where x has been subdivided, by its last subdivision; else as the label says
      flanked : (m : ℕ) → M.c l.x ≡ m → Flanked M l.x ((l.e + M.c l.x) % 12) (rank l.x + M.c l.x)
      flanked zero h =
          flanked-at M l.x l.e ((l.e + M.c l.x) % 12) (rank l.x) (rank l.x + M.c l.x) (same l.e (M.c l.x) E.dir.0 h)
          (omega arith) E.flanked
        where
          same : (e n : ℕ) → e < 12 → n ≡ 0 → e ≡ (e + n) % 12
          same e n h z = omega arith
      flanked (suc m) h =
          let n : rank l.x + M.c l.x ≡ suc (rank l.x + m) = omega arith in
          let g = (l.e + M.c l.x) % 12 in
          inl (subst (λ (i : ℕ). Alive M (cell l.x g i)) (sym n)
          (made-alive M l.x g (rank l.x + m) (subst (λ (i : ℕ). Dir g i) n d) (omega arith) (T-lt M.c l.x (rank l.x + m) (omega arith))))

      live : (g : ℕ) → Alive M (cell l.x g (rank l.x + M.c l.x)) → Live M (cell l.x g (rank l.x + M.c l.x))
      live g A = record { alive = A; unspent = λ a b. not-both a off }

      near : (g : ℕ) → xw_of M (cell l.x g (rank l.x + M.c l.x)) ≡ l.x
      near g = ap (xw_by (cell l.x g (rank l.x + M.c l.x))) off

      go : Flanked M l.x ((l.e + M.c l.x) % 12) (rank l.x + M.c l.x)
          → (k : Cell) × Live M k × (z : Side) × Memᴰ z (sides_of (cell_face M k)) × (same_side (side_in M l) z ≡ true)
      go (inl A) =
          let g = (l.e + M.c l.x) % 12 in
          let k = cell l.x g (rank l.x + M.c l.x) in
          (k, live g A, side (xw_of M k).at (u_of k).at, Memᴰ.head refl, same_ends l.x (far_end M l) (xw_of M k) (u_of k) (sym (near g)) refl)
      go (inr A) =
          let g = ((l.e + M.c l.x) % 12 + 10) % 12 in
          let n = rank l.x + M.c l.x in
          let k = cell l.x g n in
          let v-is : far_end M l ≡ v_of k = ap (λ (h : ℕ). move l.x h n)
          (sym (add_turn ((l.e + M.c l.x) % 12) 10 2 ∙ whole ((l.e + M.c l.x) % 12) d.0)) in (
            k,
            live g A,
            side (v_of k).at (xw_of M k).at,
            Memᴰ.tail (Memᴰ.tail (Memᴰ.tail (Memᴰ.head refl))),
            cross-ends l.x (far_end M l) (v_of k) (xw_of M k) (sym (near g)) v-is,
          )

-- ---- the sides of a table
module _ (t : List ℕ) (M : Mesh) (D : Drawn t M) where
  abbrev faces : List Face
  faces = each (faces_at t) (records_of t)

  marked : (p : Side) → some_of (same_side p) (each sides_of (each (faces_at t) (records_of t))) ≡ true → (l : Label) × Edge M l × Marks M p l
  marked p h =
      let (f, m, e) = some_at (λ f. some_of (same_side p) (sides_of f)) faces (sym (some-over (same_side p) sides_of faces) ∙ h) in
      let (k, L, r) = lives t M D f (at_some (same_face f) faces f m (faces-alike.self f)) in
      let (z, n, s) = some_at (same_side p) (sides_of (cell_face M k)) (sym (same-sides p f (cell_face M k) r) ∙ e) in
      let (l, (E, w)) = side-label M k L z n in
      (l, E, (E, sides-alike.both p z s (side_in M l) ∙ w))

  shown : (l : Label) → Edge M l → (p : Side) × (some_of (same_side p) (each sides_of (each (faces_at t) (records_of t))) ≡ true) × Marks M p l
  shown l E =
      let p = side_in M l in
      let (k, L, z, n, s) = label-side M l E in
      let (f, m, e) = some_at (same_face (cell_face M k)) faces (has-face t M D k L) in
      let w = sym (same-sides p (cell_face M k) f (same-round (cell_face M k) f e)) ∙ at_some (same_side p) (sides_of (cell_face M k)) z n s in
      (p, some-over (same_side p) sides_of faces ∙ at_some (λ f. some_of (same_side p) (sides_of f)) faces f m w, (E, side-self p))

  pub edges-labels : (ls : List Label) → Inventory (Edge M) ls → edges_in t ≡ length ls
  edges-labels ls L = different-labels same_side sides-alike (Marks M) (agree M) (alike M) (each sides_of faces) (Edge M) ls L marked shown

  pub edge-inventory : (ls : List Label) × Inventory (Edge M) ls
  edge-inventory = inventory-of same_side sides-alike (Marks M) (agree M) (alike M) label? (each sides_of faces) (Edge M) marked shown

-- ---- a subdivision of q adds twelve: what lies before and after q, seen from its old adjacents
abbrev dir_of : ℕ → ℕ → ℕ
dir_of n j = 2 * j + n % 2

abbrev before : Pt → ℕ → ℕ → Label
before q n j = label (move q (dir_of n j) n) ((dir_of n j + 5) % 12)

abbrev behind : Pt → ℕ → ℕ → Label
behind q n j = label (move q (dir_of n j) n) ((dir_of n j + 7) % 12)

abbrev pub new_labels : Mesh → Pt → List Label
new_labels M q = up_to (before q (rank q + M.c q)) 6 ++ up_to (behind q (rank q + M.c q)) 6

pub labels-size : (M : Mesh) (q : Pt) → length (new_labels M q) ≡ 12
labels-size M q =
    let n = rank q + M.c q in
    let a = append-length (up_to (before q n) 6) (up_to (behind q n) 6) in
    let b = upto-length (before q n) 6 in
    let c = upto-length (behind q n) 6 in
    omega arith

-- beside a parent of p that was subdivided, in direction a
module _ (M : Mesh) (p : Pt) (a i : ℕ) (f : rank p ≡ suc i) (d : Dir a i) (k : a % 4 ≡ birth p) (on : T M.c (move p a i) i ≡ true) where
  edge-right : Edge M (label p ((a + 11) % 12))
  edge-right =
      record {
        dir = subst (λ (r : ℕ). Dir ((a + 11) % 12) r) (sym f) (odd-turn 11 a i refl d);
        flanked = inl (subst (λ (r : ℕ). Alive M (cell p ((a + 11) % 12) r)) (sym f) (round-alive M p a i f d k on));
      }

  edge-left : Edge M (label p ((a + 1) % 12))
  edge-left =
      record {
        dir = subst (λ (r : ℕ). Dir ((a + 1) % 12) r) (sym f) (odd-turn 1 a i refl d);
        flanked = inr (subst (Alive M) (λ t. cell p (sym (add_turn a 1 10) t) (sym f t)) (round-alive M p a i f d k on));
      }

module _ (M : Mesh) (q : Pt) (g : Good M.H (bump q M.c)) where
  abbrev n : ℕ
  n = rank q + M.c q

  abbrev N : Mesh
  N = after M q g

  -- q seen from its old adjacent in direction e
  module _ (e : ℕ) (d : Dir e n) where
    abbrev u : Pt
    u = move q e n

    ru : rank (move q e n) ≡ suc n
    ru = out-rank q e n d (omega arith)

    d6 : Dir ((e + 6) % 12) n
    d6 = even-turn 6 e n refl d

    b6 : (e + 6) % 12 % 4 ≡ birth (move q e n)
    b6 = mod-12-4 (e + 6) ∙ sym (out-birth q e n d (omega arith))

    on : T (bump q M.c) (move (move q e n) ((e + 6) % 12) n) n ≡ true
    on = ap (λ (p : Pt). T (bump q M.c) p n) (back q e n d) ∙ T-on M.c q n refl

    off : T M.c (move (move q e n) ((e + 6) % 12) n) n ≡ false
    off = ap (λ (p : Pt). T M.c p n) (back q e n d) ∙ T-off M.c q n refl

    there : (h : ℕ) → Edge M (label (move q e n) h) → pres M (move (move q e n) h (suc n)) ≡ true
    there h E = ap (λ (r : ℕ). pres M (move (move q e n) h r)) (sym ru) ∙ flanked-there M (move q e n) h (rank (move q e n)) E.dir.0 E.flanked

    new-before : Edge N (label (move q e n) ((e + 5) % 12)) × (Edge M (label (move q e n) ((e + 5) % 12)) → ⊥)
    new-before =
        let is : ((e + 6) % 12 + 11) % 12 ≡ (e + 5) % 12 = add_turn e 6 11 ∙ once e 5 in (
          subst (λ (h : ℕ). Edge N (label u h)) is (edge-right N u ((e + 6) % 12) n ru d6 b6 on),
          λ E. not-both (ap (λ (h : ℕ). pres M (move u h (suc n))) is ∙ there ((e + 5) % 12) E) (right_there M u ((e + 6) % 12) n ru d6 b6 ∙ off),
        )

    new-behind : Edge N (label (move q e n) ((e + 7) % 12)) × (Edge M (label (move q e n) ((e + 7) % 12)) → ⊥)
    new-behind =
        let is : ((e + 6) % 12 + 1) % 12 ≡ (e + 7) % 12 = add_turn e 6 1 in (
          subst (λ (h : ℕ). Edge N (label u h)) is (edge-left N u ((e + 6) % 12) n ru d6 b6 on),
          λ E. not-both (ap (λ (h : ℕ). pres M (move u h (suc n))) is ∙ there ((e + 7) % 12) E) (left_there M u ((e + 6) % 12) n ru d6 b6 ∙ off),
        )

  place-inj : (i j : ℕ) → i < 6 → j < 6 → move q (dir_of n i) n ≡ move q (dir_of n j) n → i ≡ j
  place-inj i j a b e = let z = inj q (dir_of n i) (dir_of n j) n (ring-dir n i a) (ring-dir n j b) e in omega arith

  new-distinct : Distinct (new_labels M q)
  new-distinct =
      append-distinct (up_to (before q n) 6) (up_to (behind q n) 6)
      (upto-distinct (before q n) 6 (λ i j a b e. place-inj i j a b (ap (λ (l : Label). l.x) e)))
      (upto-distinct (behind q n) 6 (λ i j a b e. place-inj i j a b (ap (λ (l : Label). l.x) e)))
      (λ z a b.
      (let (i, h, e) = upto-in (before q n) 6 z a in
      let (j, k, f) = upto-in (behind q n) 6 z b in
      let same : before q n i ≡ behind q n j = sym e ∙ f in
      let ij = place-inj i j h k (ap (λ (l : Label). l.x) same) in
      apart (dir_of n i) (dir_of n j) (ap (dir_of n) ij) (ap (λ (l : Label). l.e) same)))
    where
      apart : (e g : ℕ) → e ≡ g → (e + 5) % 12 ≡ (g + 7) % 12 → ⊥
      apart e g h k = omega arith

  new-sound : (l : Label) → Memᴰ l (up_to (before q n) 6) ⊎ Memᴰ l (up_to (behind q n) 6) → Edge N l × (Edge M l → ⊥)
  new-sound l (inl a) =
      let (j, h, e) = upto-in (before q n) 6 l a in
      let (E, not) = new-before (dir_of n j) (ring-dir n j h) in
      (subst (Edge N) (sym e) E, λ F. not (subst (Edge M) e F))
  new-sound l (inr a) =
      let (j, h, e) = upto-in (behind q n) 6 l a in
      let (E, not) = new-behind (dir_of n j) (ring-dir n j h) in
      (subst (Edge N) (sym e) E, λ F. not (subst (Edge M) e F))

  keep-edge : (l : Label) → Edge M l → Edge N l
  keep-edge l E = record { dir = E.dir; flanked = go E.flanked }
    where
      go : Flanked M l.x l.e (rank l.x) → Flanked N l.x l.e (rank l.x)
      go (inl A) = inl (keep-alive M q g (cell l.x l.e (rank l.x)) A)
      go (inr A) = inr (keep-alive M q g (cell l.x ((l.e + 10) % 12) (rank l.x)) A)

  -- one that is alive is old, or lies beside q
  edge-old : (l : Label) → Edge N l → Edge M l ⊎ Memᴰ l (new_labels M q)
  edge-old l E = go (rank l.x) refl
    where
      ground : rank l.x ≡ 0 → Flanked N l.x l.e (rank l.x) → Flanked M l.x l.e (rank l.x)
      ground z (inl A) = inl (ground-alive M q g (cell l.x l.e (rank l.x)) z A)
      ground z (inr A) = inr (ground-alive M q g (cell l.x ((l.e + 10) % 12) (rank l.x)) z A)

      half : (h x : ℕ) → h % 2 ≡ x → 2 * (h / 2) + x ≡ h
      half h x k = omega arith

      -- the parent in direction a is q, and x its adjacent in direction a + 6
      from-q : (a b : ℕ) → Dir a b → move l.x a b ≡ q → b ≡ n → (j : ℕ) × (j < 6) × (dir_of n j ≡ (a + 6) % 12) × (move q (dir_of n j) n ≡ l.x)
      from-q a b d z w =
          let h = (a + 6) % 12 in
          let dh : Dir h b = even-turn 6 a b refl d in
          let is : dir_of n (h / 2) ≡ h = half h (n % 2) (dh.1 ∙ ap (λ (b : ℕ). b % 2) w) in
          (h / 2, omega arith, is, (λ t. move (sym z t) (is t) (sym w t)) ∙ back l.x a b d)

      by : (b : ℕ) → rank l.x ≡ suc b → Beside N l.x b l.e → Edge M l ⊎ Memᴰ l (new_labels M q)
      by b f (right a d k e h) = at (T M.c (move l.x a b) b) refl
        where
          at : (v : Bool) → T M.c (move l.x a b) b ≡ v → Edge M l ⊎ Memᴰ l (new_labels M q)
          at true t = inl (subst (λ (h : ℕ). Edge M (label l.x h)) (sym e) (edge-right M l.x a b f d k t))
          at false t =
              let (z, w) = split-new M q g (move l.x a b) b h t in
              let (j, lt, is, x-is) = from-q a b d z w in
              let e-is : (dir_of n j + 5) % 12 ≡ l.e = ap (λ (h : ℕ). (h + 5) % 12) is ∙ add_turn a 6 5 ∙ sym e in
              inr (Memᴰ.append_left (up_to (behind q n) 6)
              (subst (λ (m : Label). Memᴰ m (up_to (before q n) 6)) (λ t. label (x-is t) (e-is t)) (in-upto (before q n) 6 j lt)))
      by b f (left a d k e h) = at (T M.c (move l.x a b) b) refl
        where
          at : (v : Bool) → T M.c (move l.x a b) b ≡ v → Edge M l ⊎ Memᴰ l (new_labels M q)
          at true t = inl (subst (λ (h : ℕ). Edge M (label l.x h)) (sym e) (edge-left M l.x a b f d k t))
          at false t =
              let (z, w) = split-new M q g (move l.x a b) b h t in
              let (j, lt, is, x-is) = from-q a b d z w in
              let e-is : (dir_of n j + 7) % 12 ≡ l.e = ap (λ (h : ℕ). (h + 7) % 12) is ∙ add_turn a 6 7 ∙ once a 1 ∙ sym e in
              inr (Memᴰ.append_right (up_to (before q n) 6)
              (subst (λ (m : Label). Memᴰ m (up_to (behind q n) 6)) (λ t. label (x-is t) (e-is t)) (in-upto (behind q n) 6 j lt)))

      go : (f : ℕ) → rank l.x ≡ f → Edge M l ⊎ Memᴰ l (new_labels M q)
      go zero z = inl (record { dir = E.dir; flanked = ground z E.flanked })
      go (suc b) f =
          let F : Flanked N l.x l.e (suc b) = flanked-at N l.x l.e l.e (rank l.x) (suc b) refl f E.flanked in
          by b f (beside N l.x b l.e f (subst (λ (r : ℕ). Dir l.e r) f E.dir) (flanked-there N l.x l.e (suc b) E.dir.0 F))

  pub edges-add : Gains Edge M (after M q g) (new_labels M q)
  edges-add =
      record {
        distinct = new-distinct;
        sound = λ l m. new-sound l (Memᴰ.append_cases (up_to (before q n) 6) m);
        keep = keep-edge;
        old = edge-old;
      }
