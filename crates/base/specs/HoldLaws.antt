-- What a table holds while a base is laid into it.
-- `corner-class` a corner's remainder · `corner-back` the centre is a corner's corner · `Holding` a table holds the vertices of some points ·
-- `all-holds`, `all_short` after the first n hexagons it holds theirs, or there are more points than slots.
-- Each record that is entered is valid and is `base_record` its point, so that it is no matter which of the hexagons round a point enters it: after
-- any number of records the table is in order and holds the vertices of the points so far.
-- Assumes nothing.
use Rattle.std.proofs.Math.Path.{◌≡◌, refl, sym, ap, subst}
use Rattle.std.proofs.Common.{◌∙◌, lit<, eq-eqb, ne_eqb, le-leb, mod-lt}
use Rattle.std.specs.Prelude.{Bool, true, false, ◌&&◌, ◌||◌, eqb, ℤ, pos, ◌+ℤ◌, nat_abs, ◌-ℤ◌, length, Some, None}
use Rattle.std.proofs.Math.Bool.{cond, or_assoc}
use mathlib.Core.List.{List}
use Prim.Native.Nat.{ℕ, zero, suc, ◌+◌, ◌%◌, ◌≤◌, ◌<◌}
use native.Mathlib.Omega.{arith}
use Rattle.std.proofs.Math.IntN.{+ℤ_assoc, +ℤ_idr}
use Rattle.table.specs.MapLaws.{there, room, full, Searched, searched, enter-length, enter-order, enter-finds, enter-keeps, clear-length, clear-order}
use Rattle.table.specs.MapLaws.{clear-absent, clear-free, records-count, enter-records}
use Rattle.laws.specs.Each.{not-both}
use Rattle.laws.specs.Rules.{◌≡?◌, ◌≡ᶻ?◌, ◌&◌, rule}
use Rattle.laws.specs.Residue.{mod_z, left3-plus}
use Rattle.laws.specs.Linear.{‵, ◌⊕◌, ◌⊝◌, same}
use Rattle.lattice.specs.Points.{class_of}
use Rattle.lattice.specs.Records.{suits_of, valid_at, valid_of}
use Rattle.lattice.specs.Points.{pt, turns}
use Rattle.table.specs.Search.{same_point}
use Rattle.table.specs.Entries.{look_up, enter_of, records_of}
use Rattle.table.specs.Order.{InOrder}
use Rattle.table.specs.SearchLaws.{same_refl, same_true}
use Rattle.table.specs.Slots.{Table, slots_in, slots_of, cleared_of}
use Rattle.lattice.specs.declared.points.Point.{Point}
use Rattle.lattice.specs.declared.records.Record.{Record}
use Rattle.base.specs.Laying.{Within}
use Rattle.base.specs.Base.{centre_at, centres_in, good_centre, is_listed, corner_of, internal, at0, centre_record, corner_record, hexagon_of, Laid}
use Rattle.base.specs.Base.{Room, NoRoom, lay_at, lay, lay_hexagon, lay_all}
use Rattle.base.specs.LayLaws.{step_a, step_b, corner-is, corner-within, corner-at, hexagon-no-room}
use Rattle.base.specs.Vertices.{hexagon_point, in_hexagon, in_first, base_record, new_points, points_in}
use Rattle.centres.specs.MarkLaws.{Good, good-is}

-- ---- corners

-- a corner's remainder is 1 in the even directions, 2 in the odd ones
pub corner-class : (p : Point) (j : ℕ) → p.m.0 ≡ 0 → class_of p ≡ 0 → j < 6 → class_of (corner_of p j) ≡ 1 + j % 2
unfolding turns
corner-class p j d e h =
    let a = ‵ p.a in
    let b = ‵ p.b in
    let x = ‵ (step_a j) in
    let y = ‵ (step_b j) in
    ap class_of (sym (corner-is p j d h)) ∙ ap (λ (z : ℤ). mod_z z 3) (same ((a ⊕ x) ⊝ (b ⊕ y)) ((a ⊝ b) ⊕ (x ⊝ y)) (omega arith))
    ∙ left3-plus (p.a -ℤ p.b) (step_a j -ℤ step_b j) ∙ ap (λ (n : ℕ). (n + mod_z (step_a j -ℤ step_b j) 3) % 3) e
    ∙ rule 6 (λ j. (0 + mod_z (step_a j -ℤ step_b j) 3) % 3 ≡? 1 + j % 2) tt j h

-- the corner three directions on from a corner is the centre
pub corner-back : (p : Point) (j : ℕ) → p.m.0 ≡ 0 → j < 6 → corner_of (corner_of p j) ((j + 3) % 6) ≡ p
unfolding turns
corner-back p j d h =
    let k = (j + 3) % 6 in
    let l : k < 6 = mod-lt (j + 3) (lit< tt) in
    let q = pt (p.a +ℤ step_a j) (p.b +ℤ step_b j) 0 in
    let o = rule 6 (λ j. (step_a j +ℤ step_a ((j + 3) % 6)) ≡ᶻ? pos 0 & (step_b j +ℤ step_b ((j + 3) % 6)) ≡ᶻ? pos 0) tt j h in
    ap (λ (x : Point). corner_of x k) (sym (corner-is p j d h)) ∙ sym (corner-is q k refl l)
    ∙ (λ i. pt (away p.a (step_a j) (step_a k) o.0 i) (away p.b (step_b j) (step_b k) o.1 i) (sym d i))
  where
    away : (z x y : ℤ) → x +ℤ y ≡ pos 0 → (z +ℤ x) +ℤ y ≡ z
    away z x y e = +ℤ_assoc z x y ∙ ap (λ (w : ℤ). z +ℤ w) e ∙ +ℤ_idr z

-- ---- each record entered is valid, and is its point's

module _ (listed : Point → Bool) (c : Point) (g : Good c) (d : c.m.0 ≡ 0) where
  near : Within 250 c
  near = record { wide = g.wide; high = g.high; depth = d }

  hexagon-point : (k : ℕ) → (hexagon_of listed c k).at ≡ hexagon_point c k
  unfolding hexagon_of
  hexagon-point zero = refl
  hexagon-point (suc j) = corner-at listed (corner_of c j)

  hexagon-vertex : (k : ℕ) → k < 7 → hexagon_of listed c k ≡ base_record listed (hexagon_point c k)
  unfolding hexagon_of
  hexagon-vertex zero h = sym (ap (λ (b : Bool). cond b (centre_record c) (corner_record listed c)) (eq-eqb (class_of c) 0 g.class))
  hexagon-vertex (suc j) h =
      let e = corner-class c j d g.class (omega arith) in
      sym (ap (λ (b : Bool). cond b (centre_record (corner_of c j)) (corner_record listed (corner_of c j))) (ne_eqb (class_of (corner_of c j)) 0 (λ z. omega arith)))

  flat-valid : (p : Point) (dg k : ℕ) → Within 251 p → suits_of dg k 0 ≡ true → valid_of (at0 p dg k) ≡ true
  flat-valid p dg k w s =
      ap (λ (m : ℕ). valid_at p.a p.b m dg k 0) w.depth
      ∙ (λ i. le-leb (nat_abs p.a) 251 w.wide i && (le-leb (nat_abs p.b) 251 w.high i && s i))

  hexagon-valid : (k : ℕ) → k < 7 → valid_of (hexagon_of listed c k) ≡ true
  unfolding hexagon_of corner_record
  hexagon-valid zero h = flat-valid c 3 0 (record { wide = omega (arith, g.wide); high = omega (arith, g.high); depth = d }) refl
  hexagon-valid (suc j) h = go (internal listed (corner_of c j)) (eqb (class_of (corner_of c j)) 1)
    where
      q : Point
      q = corner_of c j

      w : Within 251 q
      w = corner-within 250 c j near (omega arith)

      go : (a b : Bool) → valid_of (cond a (cond b (at0 q 6 0) (at0 q 3 2)) (at0 q 0 0)) ≡ true
      go true true = flat-valid q 6 0 w refl
      go true false = flat-valid q 3 2 w refl
      go false b = flat-valid q 0 0 w refl

-- ---- what a table holds after some records

-- the points p of which `laid p` is so, n in number, and no other
pub record Holding (listed : Point → Bool) (slots : ℕ) (u : List ℕ) (laid : Point → Bool) (n : ℕ) : Type 0 where
  pub order : InOrder u
  pub holds : (p : Point) → look_up u p ≡ cond (laid p) (Some (base_record listed p)) None
  pub count : length (records_of u) ≡ n
  pub wide : slots_of u ≡ slots

room-eq : (a b : List ℕ) → Room a ≡ Room b → a ≡ b
room-eq a b e = cc

room-none : {A : Type 0} (a : List ℕ) → Room a ≡ NoRoom → A
room-none a e = absurd (let z : ◌≡◌ {A = ℕ} 0 1 = cc in omega arith)

module _ (listed : Point → Bool) (slots : ℕ) (u : List ℕ) (laid : Point → Bool) (n : ℕ) (h : Holding listed slots u laid n) (r : Record) where
  -- what is found is laid
  held-laid : (q : Record) → look_up u r.at ≡ Some q → laid r.at ≡ true
  held-laid q k = go (laid r.at) refl
    where
      go : (b : Bool) → laid r.at ≡ b → laid r.at ≡ true
      go true e = e
      go false e =
          let a : Some q ≡ None = sym k ∙ h.holds r.at ∙ ap (λ (b : Bool). cond b (Some (base_record listed r.at)) None) e in
          absurd (let z : ◌≡◌ {A = ℕ} 0 1 = cc in omega arith)

  absent-laid : look_up u r.at ≡ None → laid r.at ≡ false
  absent-laid k = go (laid r.at) refl
    where
      go : (b : Bool) → laid r.at ≡ b → laid r.at ≡ false
      go false e = e
      go true e =
          let a : None ≡ Some (base_record listed r.at) = sym k ∙ h.holds r.at
          ∙ ap (λ (b : Bool). cond b (Some (base_record listed r.at)) None) e in
          absurd (let z : ◌≡◌ {A = ℕ} 0 1 = cc in omega arith)

  -- no slot is left: its point is new, and every slot is taken
  lay-short : lay (Room u) r ≡ NoRoom → (laid r.at ≡ false) × (n ≡ slots)
  lay-short e = go (searched u h.order.fits r.at)
    where
      go : Searched u r.at → (laid r.at ≡ false) × (n ≡ slots)
      go (there i q f l s a k) = room-none u (sym (ap (lay_at u r) f) ∙ e)
      go (room i f l s a k) = room-none (enter_of u r) (sym (ap (lay_at u r) f) ∙ e)
      go (full f a k) = (absent-laid a, omega (arith, h.count, h.wide, records-count u, k))

  module _ (ok : valid_of r ≡ true) (is : r ≡ base_record listed r.at) where
    -- one record more
    lay-holds : (v : List ℕ) → lay (Room u) r ≡ Room v → Holding listed slots v (λ p. same_point r.at p || laid p) (n + cond (laid r.at) 0 1)
    lay-holds v e = go (searched u h.order.fits r.at)
      where
        go : Searched u r.at → Holding listed slots v (λ p. same_point r.at p || laid p) (n + cond (laid r.at) 0 1)
        go (there i q f l s a k) =
            let same : u ≡ v = room-eq u v (sym (ap (lay_at u r) f) ∙ e) in
            let t = held-laid q k in
            subst (λ (x : List ℕ). Holding listed slots x (λ p. same_point r.at p || laid p) (n + cond (laid r.at) 0 1)) same
            (record {
              order = h.order;
              holds = λ p. h.holds p ∙ ap (λ (b : Bool). cond b (Some (base_record listed p)) None) (old p t (same_point r.at p) refl);
              count = h.count ∙ (let z : n ≡ n + 0 = omega arith in z) ∙ sym (ap (λ (b : Bool). n + cond b 0 1) t);
              wide = h.wide;
            })
          where
            old : (p : Point) → laid r.at ≡ true → (b : Bool) → same_point r.at p ≡ b → laid p ≡ b || laid p
            old p t true x = ap laid (sym (same_true r.at p x)) ∙ t
            old p t false x = refl
        go (room i f l s a k) =
            let same : enter_of u r ≡ v = room-eq (enter_of u r) v (sym (ap (lay_at u r) f) ∙ e) in
            subst (λ (x : List ℕ). Holding listed slots x (λ p. same_point r.at p || laid p) (n + cond (laid r.at) 0 1)) same
            (record {
              order = enter-order u h.order r ok;
              holds = λ p. new p (same_point r.at p) refl;
              count = enter-records u h.order r ok a k ∙ ap (λ (x : ℕ). x + 1) h.count ∙ sym (ap (λ (b : Bool). n + cond b 0 1) (absent-laid a));
              wide = ap slots_in (enter-length u r) ∙ h.wide;
            })
          where
            new : (p : Point) (b : Bool) → same_point r.at p ≡ b → look_up (enter_of u r) p ≡ cond (b || laid p) (Some (base_record listed p)) None
            new p true x =
                let q = same_true r.at p x in
                ap (look_up (enter_of u r)) (sym q) ∙ enter-finds u h.order r ok a k ∙ ap Some (is ∙ ap (base_record listed) q)
            new p false x = enter-keeps u h.order r ok p (λ q. not-both (ap (same_point r.at) q ∙ same_refl r.at) x) ∙ h.holds p
        go (full f a k) = room-none v (sym e ∙ ap (lay_at u r) f)

-- ---- a hexagon, and all of them

module _ (listed : Point → Bool) (slots : ℕ) (c : Point) (g : Good c) (d : c.m.0 ≡ 0)
    (u : List ℕ) (laid : Point → Bool) (n : ℕ) (h : Holding listed slots u laid n) where
  -- as the code goes, one record after the other
  more : (k : ℕ) → k < 7 → (w v : List ℕ) → Holding listed slots w (λ p. in_hexagon c k p || laid p) (n + new_points laid c k)
      → lay (Room w) (hexagon_of listed c k) ≡ Room v
      → Holding listed slots v (λ p. in_hexagon c (suc k) p || laid p) (n + new_points laid c (suc k))
  unfolding in_hexagon new_points
  more k l w v ih e =
      let r = hexagon_of listed c k in
      let q = hexagon-point listed c g d k in
      let x = lay-holds listed slots w (λ p. in_hexagon c k p || laid p) (n + new_points laid c k) ih r
      (hexagon-valid listed c g d k l) (hexagon-vertex listed c g d k l ∙ ap (base_record listed) (sym q)) v e in
      let at : n + new_points laid c k + cond (in_hexagon c k r.at || laid r.at) 0 1 ≡ n + new_points laid c (suc k) =
      ap (λ (p : Point). n + new_points laid c k + cond (in_hexagon c k p || laid p) 0 1) q
      ∙ sum n (new_points laid c k) (cond (in_hexagon c k (hexagon_point c k) || laid (hexagon_point c k)) 0 1) in
      record {
        order = x.order;
        holds = λ p. x.holds p ∙ ap (λ (b : Bool). cond b (Some (base_record listed p)) None)
            (ap (λ (y : Point). same_point y p || (in_hexagon c k p || laid p)) q ∙ sym (or_assoc (same_point (hexagon_point c k) p) (in_hexagon c k p) (laid p)));
        count = x.count ∙ at;
        wide = x.wide;
      }
    where
      sum : (a b c : ℕ) → a + b + c ≡ a + (b + c)
      sum a b c = omega arith

  hexagon-holds : (k : ℕ) → k ≤ 7 → (v : List ℕ) → lay_hexagon listed c k (Room u) ≡ Room v
      → Holding listed slots v (λ p. in_hexagon c k p || laid p) (n + new_points laid c k)
  unfolding lay_hexagon in_hexagon new_points
  hexagon-holds zero l v e =
      subst (λ (x : List ℕ). Holding listed slots x laid (n + 0)) (room-eq u v e) (subst (Holding listed slots u laid) (let z : n ≡ n + 0 = omega arith in z) h)
  hexagon-holds (suc k) l v e = go (lay_hexagon listed c k (Room u)) refl e (λ w f. hexagon-holds k (omega arith) w f)
    where
      go : (x : Laid) → lay_hexagon listed c k (Room u) ≡ x → lay x (hexagon_of listed c k) ≡ Room v
          → ((w : List ℕ) → lay_hexagon listed c k (Room u) ≡ Room w → Holding listed slots w (λ p. in_hexagon c k p || laid p) (n + new_points laid c k))
          → Holding listed slots v (λ p. in_hexagon c (suc k) p || laid p) (n + new_points laid c (suc k))
      go NoRoom f y ih = room-none v (sym y)
      go (Room w) f y ih = more k (omega arith) w v (ih w f) y

  -- no slot is left: there are more points than slots
  hexagon-short : (k : ℕ) → k ≤ 7 → lay_hexagon listed c k (Room u) ≡ NoRoom → slots < n + new_points laid c k
  unfolding lay_hexagon new_points
  hexagon-short zero l e = room-none u e
  hexagon-short (suc k) l e = go (lay_hexagon listed c k (Room u)) refl e (λ f. hexagon-short k (omega arith) f)
    where
      go : (x : Laid) → lay_hexagon listed c k (Room u) ≡ x → lay x (hexagon_of listed c k) ≡ NoRoom
          → (lay_hexagon listed c k (Room u) ≡ NoRoom → slots < n + new_points laid c k)
          → slots < n + new_points laid c (suc k)
      go NoRoom f y ih = omega (arith, ih f)
      go (Room w) f y ih =
          let s = lay-short listed slots w (λ p. in_hexagon c k p || laid p)
          (n + new_points laid c k) (hexagon-holds k (omega arith) w f) (hexagon_of listed c k) y in
          let o : ◌≡◌ {A = ℕ} (cond (in_hexagon c k (hexagon_point c k) || laid (hexagon_point c k)) 0 1) 1 =
          ap (λ (b : Bool). cond b 0 1) (ap (λ (p : Point). in_hexagon c k p || laid p) (sym (hexagon-point listed c g d k)) ∙ s.0) in
          omega (arith, s.1)

module _ (t : List ℕ) (w : Table t (slots_of t)) (cs : List ℤ) (good : (i : ℕ) → i < centres_in cs → good_centre (centre_at cs i) ≡ true) where
  empty : Holding (is_listed cs) (slots_of t) (cleared_of t) (λ p. false) 0
  empty =
      let same : slots_of (cleared_of t) ≡ slots_of t = ap slots_in (clear-length t) in
      record {
        order = clear-order t w;
        holds = λ p. clear-absent t w p;
        count = omega (arith, records-count (cleared_of t), clear-free t w, same);
        wide = same;
      }

  pub all-holds : (n : ℕ) → n ≤ centres_in cs → (v : List ℕ) → lay_all cs n (Room (cleared_of t)) ≡ Room v
      → Holding (is_listed cs) (slots_of t) v (in_first cs n) (points_in cs n)
  unfolding lay_all in_first points_in
  all-holds zero l v e = subst (λ (x : List ℕ). Holding (is_listed cs) (slots_of t) x (λ p. false) 0) (room-eq (cleared_of t) v e) empty
  all-holds (suc n) l v e = go (lay_all cs n (Room (cleared_of t))) refl e (λ u f. all-holds n (omega arith) u f)
    where
      go : (x : Laid) → lay_all cs n (Room (cleared_of t)) ≡ x → lay_hexagon (is_listed cs) (centre_at cs n) 7 x ≡ Room v
          → ((u : List ℕ) → lay_all cs n (Room (cleared_of t)) ≡ Room u → Holding (is_listed cs) (slots_of t) u (in_first cs n) (points_in cs n))
          → Holding (is_listed cs) (slots_of t) v (in_first cs (suc n)) (points_in cs (suc n))
      go NoRoom f y ih = room-none v (sym y ∙ hexagon-no-room (is_listed cs) (centre_at cs n) 7)
      go (Room u) f y ih =
          hexagon-holds (is_listed cs) (slots_of t) (centre_at cs n) (good-is (centre_at cs n) (good n (omega arith))) refl u (in_first cs n) (points_in cs n)
          (ih u f) 7 (let z : 7 ≤ 7 = omega arith in z) v y

  pub all_short : (n : ℕ) → n ≤ centres_in cs → lay_all cs n (Room (cleared_of t)) ≡ NoRoom → slots_of t < points_in cs n
  unfolding lay_all points_in
  all_short zero l e = room-none (cleared_of t) e
  all_short (suc n) l e = go (lay_all cs n (Room (cleared_of t))) refl e (λ f. all_short n (omega arith) f)
    where
      go : (x : Laid) → lay_all cs n (Room (cleared_of t)) ≡ x → lay_hexagon (is_listed cs) (centre_at cs n) 7 x ≡ NoRoom
          → (lay_all cs n (Room (cleared_of t)) ≡ NoRoom → slots_of t < points_in cs n)
          → slots_of t < points_in cs (suc n)
      go NoRoom f y ih = omega (arith, ih f)
      go (Room u) f y ih =
          hexagon-short (is_listed cs) (slots_of t) (centre_at cs n) (good-is (centre_at cs n) (good n (omega arith))) refl u (in_first cs n) (points_in cs n)
          (all-holds n (omega arith) u f) 7 (let z : 7 ≤ 7 = omega arith in z) y
