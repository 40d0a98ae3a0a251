-- The counts of a grown table by its tally (Tally): each hexagon has three faces, three spokes and six sides, a side is shared exactly where two hexagons
-- stand side by side, each subdivision adds six vertices, six faces and twelve edges, and none of the vertices that it adds has depth 0.
-- `tally`, `faces-tally`, `edges-tally` of every grown table · `ground-fit`, `hexagons-fit`, `pairs-fit`, `sides-fit` of a table with its history ·
-- `points` the points of depth 0 that pass a test, `points-inventory`, `points-many` each once · `beside_at` which hexagons stand side by side.
-- Assumes nothing.
use Rattle.std.specs.Prelude.{◌≡◌, Bool, false, ◌&&◌, eqb, ℤ, pos, negsuc, ◌+ℤ◌, length, Option, Some, None}
use Rattle.std.proofs.Math.Path.{refl, sym, ap}
use Rattle.std.proofs.Common.{◌∙◌, subst, eq-eqb, eqb-true}
use Rattle.std.proofs.Math.Bool.{true, cond}
use mathlib.Core.List.Memᴰ
use mathlib.Core.List.{List, [], ◌∷◌, Memᴰ}
use Prim.Native.Nat.{ℕ, zero, suc, ◌+◌, ◌*◌, ◌-◌, ◌%◌, ◌<◌}
use native.Mathlib.Omega.{arith}
use Rattle.laws.specs.Each.{not-both, never, both_left, both_right, same_test}
use Rattle.lattice.specs.Points.{pt, class_of, normal_of, sum_of}
use Rattle.lattice.specs.Patterns.{orient}
use Rattle.lattice.specs.Places.{wide, high}
use Rattle.lattice.specs.declared.points.Point.{Point}
use Rattle.lattice.specs.declared.records.Record.{Record}
use Rattle.geometry.specs.GeometryLaws.{sum-sum}
use Rattle.geometry.specs.SideLaws.{vector, vector-depth}
use Rattle.geometry.specs.RankLaws.{times-one, ground-out, ground-base}
use Rattle.growth.specs.Sheets.{given_by, base_sheet}
use Rattle.growth.specs.Normal.{Pt, pt-eq, rank, birth, move}
use Rattle.growth.specs.BaseLaws.{class-one}
use Rattle.growth.specs.Parents.{par-move}
use Rattle.growth.specs.Local.{is_there}
use Rattle.table.specs.Slots.{slots_of, slot_at}
use Rattle.table.specs.Search.{same_point}
use Rattle.table.specs.Order.{InOrder}
use Rattle.table.specs.Entries.{look_up, holds, is_held, listed, records_below, records_of}
use Rattle.table.specs.MapLaws.{lookup-point, records-looked, looked-records, records-apart, Apart, same_refl, same_true}
use Rattle.base.specs.Base.{centre_at, centres_in, is_listed}
use Rattle.centres.specs.MarkLaws.{good-is, listed_at, listed-is}
use Rattle.centres.specs.Centres.{GoodList}
use Rattle.mesh.specs.Grown.{Grown}
use Rattle.local.specs.Sheet.{as_option}
use Rattle.firsts.specs.Faces.{bit, each}
use Rattle.firsts.specs.Earlier.{sum_below, slot_sum}
use Rattle.firsts.specs.SetLaws.{Alike}
use Rattle.counts.specs.Counts.{counts_of}
use Rattle.together.specs.Inventory.{Distinct, nothing, more, Inventory, up_to, upto-in, in-upto, upto-distinct, upto-length}
use Rattle.together.specs.Gathered.{each_in, in-each, each-distinct, each-length, kept, kept_in, in_kept, kept-distinct}
use Rattle.together.specs.Gathered.{over, over-append, over-same, over_ones, over-each, over-kept, kept-over, inventory-as, inventory-length}
use Rattle.together.specs.BaseStarts.{centre_pt, one_place}
use Rattle.together.specs.BaseEdges.{Hex, listed-there, beside_hex, beside-centre, base_labels, base-edges, labels-many}
use Rattle.together.specs.GrownFrom.{GrownFrom, grown-from, from-grown, base-from, list-from, sheet-from}
use Rattle.together.specs.Counted.{records-fit, faces-fit, edges_by}
use Rattle.together.specs.Making.{ground-held, centre-held}
use Rattle.together.specs.Tally.{tallied, on_ground, is_centre, beside_of, besides_at, hexagons_in, ground_in, pairs_in}

-- ---- slots and records
over-slot : (f : Record → ℕ) (s : Option Record) → slot_sum f s ≡ over f (listed s)
unfolding over
over-slot f None = refl
over-slot f (Some v) = omega arith

over_below : (f : Record → ℕ) (t : List ℕ) (n : ℕ) → sum_below (λ k. slot_sum f (slot_at t k)) n ≡ over f (records_below t n)
unfolding sum_below records_below over
over_below f t zero = refl
over_below f t (suc n) =
    let a = over_below f t n in
    let b = over-append f (records_below t n) (listed (slot_at t n)) in
    let c = over-slot f (slot_at t n) in
    omega (arith, a, b, c)

tallied-over : (f : Record → ℕ) (t : List ℕ) → tallied f t ≡ over f (records_of t)
tallied-over f t = over_below f t (slots_of t)

sum_same : (f g : ℕ → ℕ) (n : ℕ) → ((j : ℕ) → j < n → f j ≡ g j) → sum_below f n ≡ sum_below g n
unfolding sum_below
sum_same f g zero h = refl
sum_same f g (suc n) h = let a = sum_same f g n (λ j l. h j (omega arith)) in let b = h n (omega arith) in omega (arith, a, b)

-- ---- points of depth 0
abbrev ground : Point → Pt
ground p = record { at = pt p.a p.b 0; normal = tt }

ground-at : (p : Point) → p.m.0 ≡ 0 → (ground p).at ≡ p
ground-at p e = λ i. pt p.a p.b (sym e i)

abbrev same_pt : Pt → Pt → Bool
same_pt p q = same_point p.at q.at

same-pt : (p q : Pt) → same_pt p q ≡ true → p ≡ q
same-pt p q h = pt-eq p q (same_true p.at q.at h)

pts-alike : Alike same_pt
pts-alike =
    record {
      self = λ p. same_refl p.at;
      turn = λ p q. same_test (same_pt p q) (same_pt q p) (swap p q) (swap q p);
      both = λ p q h r. ap (λ (x : Pt). same_pt x r) (same-pt p q h);
    }
  where
    swap : (p q : Pt) → same_pt p q ≡ true → same_pt q p ≡ true
    swap p q h = ap (same_pt q) (same-pt p q h) ∙ same_refl q.at

abbrev points : (Point → Bool) → List Record → List Pt
points Q rs = each (λ r. ground r.at ∷ []) (kept (λ r. Q r.at) rs)

abbrev Stands : List ℕ → (Point → Bool) → Pt → Type 0
Stands t Q q = (holds t q.at ≡ true) × (Q q.at ≡ true)

module _ (t : List ℕ) (o : InOrder t) (Q : Point → Bool) (low : (p : Point) → Q p ≡ true → p.m.0 ≡ 0) where
  points-many : length (points Q (records_of t)) ≡ tallied (λ v. bit (Q v.at)) t
  points-many =
      let a = each-length (λ r. ground r.at ∷ []) 1 (λ r. refl) (kept (λ r. Q r.at) (records_of t)) in
      let b = kept-over (λ r. Q r.at) (records_of t) in
      let c = tallied-over (λ v. bit (Q v.at)) t in
      omega (arith, a, b, c)

  -- a record that passes, and its point
  passed : (r : Record) → Memᴰ r (kept (λ r. Q r.at) (records_of t)) → (look_up t r.at ≡ Some r) × (Q r.at ≡ true) × ((ground r.at).at ≡ r.at)
  passed r m =
      let (n, q) = kept_in (λ r. Q r.at) (records_of t) r m in
      (records-looked t o r n, q, ground-at r.at (low r.at q))

  points-inventory : Inventory (Stands t Q) (points Q (records_of t))
  points-inventory = record { distinct = distinct; sound = sound; full = λ q (h, k). full q k (look_up t q.at) refl h }
    where
      apart : (rs : List Record) → Apart rs → Distinct rs
      apart [] a = nothing
      apart (r ∷ rs) a = more (λ m. a.0 r m refl) (apart rs a.1)

      held : (r s : Record) → Some r ≡ Some s → r ≡ s
      held r s e = cc

      distinct : Distinct (points Q (records_of t))
      distinct =
          each-distinct (λ r. ground r.at ∷ []) (kept (λ r. Q r.at) (records_of t))
          (kept-distinct (λ r. Q r.at) (records_of t) (apart (records_of t) (records-apart t o))) (λ r m. more (λ n. Memᴰ.not-nil n) nothing)
          (λ r s z m n a b.
          (let (x, _, e) = passed r m in
          let (y, _, f) = passed s n in
          let same : r.at ≡ s.at = sym e ∙ ap (λ (q : Pt). q.at) (sym (Memᴰ.eq_of_singleton a) ∙ Memᴰ.eq_of_singleton b) ∙ f in
          held r s (sym x ∙ ap (look_up t) same ∙ y)))

      sound : (q : Pt) → Memᴰ q (points Q (records_of t)) → Stands t Q q
      sound q m =
          let (r, n, k) = each_in (λ r. ground r.at ∷ []) (kept (λ r. Q r.at) (records_of t)) q m in
          let (x, y, e) = passed r n in
          let is : q.at ≡ r.at = ap (λ (q : Pt). q.at) (Memᴰ.eq_of_singleton k) ∙ e in
          (ap (holds t) is ∙ ap is_held x, ap Q is ∙ y)

      full : (q : Pt) → Q q.at ≡ true → (l : Option Record) → look_up t q.at ≡ l → is_held (look_up t q.at) ≡ true → Memᴰ q (points Q (records_of t))
      full q k None e h = absurd (not-both h (ap is_held e))
      full q k (Some r) e h =
          let is = lookup-point t o q.at r e in
          let p = ap Q is ∙ k in
          in-each (λ r. ground r.at ∷ []) (kept (λ r. Q r.at) (records_of t)) r q
          (in_kept (λ r. Q r.at) (records_of t) r (looked-records t o q.at r e) p)
          (Memᴰ.head (pt-eq q (ground r.at) (sym is ∙ sym (ground-at r.at (low r.at p)))))

on-ground : (p : Point) → on_ground p ≡ true → p.m.0 ≡ 0
on-ground p h = eqb-true p.m.0 0 h

centre-ground : (p : Point) → is_centre p ≡ true → p.m.0 ≡ 0
centre-ground p h = on-ground p (both_left (on_ground p) (eqb (class_of p) 0) h)

centre-class : (p : Point) → is_centre p ≡ true → class_of p ≡ 0
centre-class p h = eqb-true (class_of p) 0 (both_right (on_ground p) (eqb (class_of p) 0) h)

is-centre : (p : Point) → p.m.0 ≡ 0 → class_of p ≡ 0 → is_centre p ≡ true
is-centre p m k = λ i. eq-eqb p.m.0 0 m i && eq-eqb (class_of p) 0 k i

centre-out : (q : Pt) → q.at.m.0 ≡ 0 → class_of q.at ≡ 0 → (rank q ≡ 1) × (birth q ≡ 0)
unfolding rank birth
centre-out q m k = let (r, b) = ground-out q.at q.normal m (λ w. omega (arith, w, k)) in (r, b ∙ k)

rank-ground : (q : Pt) → rank q ≡ 1 → q.at.m.0 ≡ 0
unfolding rank
rank-ground q f = (ground-base q.at q.normal f).0

-- ---- two unit steps lead from a centre to one beside it
module _ (p : Point) where
  two_steps : (e f : ℕ) (x y : ℤ) → wide 1 (vector e 0) +ℤ wide 1 (vector f 0) ≡ wide 1 (pt x y 0)
      → high 1 (vector e 0) +ℤ high 1 (vector f 0) ≡ high 1 (pt x y 0) → (move (move (ground p) e 0) f 0).at ≡ sum_of (ground p).at (pt x y 0)
  unfolding move
  two_steps e f x y a b = sum-sum (ground p).at (vector e 0) (vector f 0) (pt x y 0) 1 (vector-depth e 0) (vector-depth f 0) (omega arith) a b

  sum-ground : (x y : ℤ) → sum_of (ground p).at (pt x y 0) ≡ pt (p.a +ℤ x) (p.b +ℤ y) 0
  unfolding normal_of
  sum-ground x y = λ i. pt (times-one p.a 0 refl i +ℤ times-one x 0 refl i) (times-one p.b 0 refl i +ℤ times-one y 0 refl i) 0

  straight : birth (ground p) ≡ 0 → (t : ℕ) → beside_hex (ground p) t ≡ move (move (ground p) (0 + 4 * t) 0) (((0 + 4 * t + 4) % 12 + 10) % 12) 0
  straight h t =
      (λ i. move (par-move (ground p) t 0 i) (((birth (ground p) + 4 * t + 4) % 12 + 10) % 12) 0)
      ∙ ap (λ (b : ℕ). move (move (ground p) (b + 4 * t) 0) (((b + 4 * t + 4) % 12 + 10) % 12) 0) h

  beside_at : birth (ground p) ≡ 0 → (t : ℕ) → t < 3 → (beside_hex (ground p) t).at ≡ beside_of p t
  unfolding beside_of orient
  beside_at h zero l = ap (λ (q : Pt). q.at) (straight h 0) ∙ two_steps 0 2 (pos 1) (pos 1) refl refl ∙ sum-ground (pos 1) (pos 1)
  beside_at h (suc zero) l = ap (λ (q : Pt). q.at) (straight h 1) ∙ two_steps 4 6 (negsuc 1) (pos 1) refl refl ∙ sum-ground (negsuc 1) (pos 1)
  beside_at h (suc (suc zero)) l = ap (λ (q : Pt). q.at) (straight h 2) ∙ two_steps 8 10 (pos 1) (negsuc 1) refl refl ∙ sum-ground (pos 1) (negsuc 1)
  beside_at h (suc (suc (suc t))) l = absurd (omega arith)

-- ---- a table with its history
base-low : (b : List ℕ) (cs : List ℤ) (B : GrownFrom b cs 0) (r : Record) → Memᴰ r (records_of b) → on_ground r.at ≡ true
unfolding base_sheet
base-low b cs B r m =
    go (on_ground r.at) (given_by (is_listed cs) r.at) _
    (sym (sheet-from b cs 0 refl B r.at) ∙ ap as_option (records-looked b (from-grown b cs 0 B).order r m))
  where
    go : (x y : Bool) (v : Record) → ◌≡◌ {A = Option Record} (cond (x && y) (Some v) None) (Some r) → x ≡ true
    go true y v e = refl
    go false y v e = absurd (never (ap is_there e))

module _ (t : List ℕ) (cs : List ℤ) (S : ℕ) (K : GrownFrom t cs S) where
  abbrev own : GoodList cs
  own = list-from t cs S K

  abbrev order : InOrder t
  order = (from-grown t cs S K).order

  abbrev centres : List Pt
  centres = points is_centre (records_of t)

  -- no subdivision adds a vertex of depth 0
  ground-fit : (b : List ℕ) → GrownFrom b cs 0 → (counts_of b).vertices ≡ ground_in t
  unfolding counts_of ground_in
  ground-fit b B =
      let o = (from-grown b cs 0 B).order in
      let all = over_ones (records_of b) in
      let low = over-same (λ r. bit (on_ground r.at)) (λ _. 1) (records_of b) (λ r m. ap bit (base-low b cs B r m)) in
      let c = tallied-over (λ v. bit (on_ground v.at)) b in
      let x = points-many b o on_ground on-ground in
      let y = points-many t order on_ground on-ground in
      let z = inventory-length same_pt pts-alike same-pt (Stands t on_ground) (points on_ground (records_of b)) (points on_ground (records_of t))
      (inventory-as (Stands b on_ground) (Stands t on_ground) (λ q (h, k). (same q k ∙ h, k)) (λ q (h, k). (sym (same q k) ∙ h, k))
      (points on_ground (records_of b)) (points-inventory b o on_ground on-ground)) (points-inventory t order on_ground on-ground) in
      sym all ∙ sym low ∙ sym c ∙ sym x ∙ z ∙ y
    where
      same : (q : Pt) → on_ground q.at ≡ true → holds t q.at ≡ holds b q.at
      same q k = let m = on-ground q.at k in ground-held t cs S K q.at m ∙ sym (ground-held b cs 0 B q.at m)

  centres-many : length centres ≡ hexagons_in t
  unfolding hexagons_in
  centres-many = points-many t order is_centre centre-ground

  listed-all : Inventory (Stands t is_centre) (up_to (centre_pt cs) (centres_in cs))
  unfolding centre_pt
  listed-all =
      record {
        distinct = upto-distinct (centre_pt cs) (centres_in cs) (one_place cs own);
        sound = λ q m. sound q (upto-in (centre_pt cs) (centres_in cs) q m);
        full = λ q s. full q s;
      }
    where
      sound : (q : Pt) → (i : ℕ) × (i < centres_in cs) × (q ≡ centre_pt cs i) → Stands t is_centre q
      sound q (i, l, e) =
          let is : q.at ≡ centre_at cs i = ap (λ (q : Pt). q.at) e in
          let k = (good-is (centre_at cs i) (own.good i l)).class in (
            ap (holds t) is ∙ centre-held t cs S K (centre_at cs i) refl k ∙ listed_at cs (centres_in cs) i l,
            ap is_centre is ∙ is-centre (centre_at cs i) refl k,
          )

      full : (q : Pt) → Stands t is_centre q → Memᴰ q (up_to (centre_pt cs) (centres_in cs))
      full q (h, c) =
          let (i, l, e) = listed-is cs (centres_in cs) q.at
          (sym (centre-held t cs S K q.at (centre-ground q.at c) (centre-class q.at c)) ∙ h) in
          subst (λ (x : Pt). Memᴰ x (up_to (centre_pt cs) (centres_in cs))) (pt-eq (centre_pt cs i) q e) (in-upto (centre_pt cs) (centres_in cs) i l)

  hexagons-fit : centres_in cs ≡ hexagons_in t
  hexagons-fit =
      sym (upto-length (centre_pt cs) (centres_in cs))
      ∙ inventory-length same_pt pts-alike same-pt (Stands t is_centre) (up_to (centre_pt cs) (centres_in cs)) centres listed-all
      (points-inventory t order is_centre centre-ground)
      ∙ centres-many

  hexes : Inventory (Hex cs own) centres
  hexes = inventory-as (Stands t is_centre) (Hex cs own) to back centres (points-inventory t order is_centre centre-ground)
    where
      to : (q : Pt) → Stands t is_centre q → Hex cs own q
      to q (h, c) =
          let m = centre-ground q.at c in
          let k = centre-class q.at c in
          let (r, b) = centre-out q m k in
          record { level = r; turn = b; there = listed-there cs own q r b ∙ sym (centre-held t cs S K q.at m k) ∙ h }

      back : (q : Pt) → Hex cs own q → Stands t is_centre q
      back q X =
          let m = rank-ground q X.level in
          let k = sym (class-one q X.level) ∙ X.turn in
          (centre-held t cs S K q.at m k ∙ sym (listed-there cs own q X.level X.turn) ∙ X.there, is-centre q.at m k)

  abbrev listed_beside : Pt → ℕ
  listed_beside h = sum_below (λ j. bit (is_listed cs (beside_hex h j).at)) 3

  beside-fit : (p : Point) → is_centre p ≡ true → listed_beside (ground p) ≡ besides_at t p
  beside-fit p c =
      sum_same (λ j. bit (is_listed cs (beside_hex (ground p) j).at)) (λ j. bit (holds t (beside_of p j))) 3 (λ j l. ap bit (one j l))
    where
      one : (j : ℕ) → j < 3 → is_listed cs (beside_hex (ground p) j).at ≡ holds t (beside_of p j)
      one j l =
          let (r, b) = centre-out (ground p) refl (centre-class p c) in
          let q = beside_hex (ground p) j in
          let (s, z) = beside-centre cs own (ground p) r b j l in
          sym (centre-held t cs S K q.at (rank-ground q s) (sym (class-one q s) ∙ z)) ∙ ap (holds t) (beside_at p b j l)

  pairs-fit : over (λ h. sum_below (λ j. bit (is_listed cs (beside_hex h j).at)) 3) centres ≡ pairs_in t
  unfolding pairs_in
  pairs-fit =
      over-each listed_beside (λ r. ground r.at ∷ []) (kept (λ r. is_centre r.at) (records_of t))
      ∙ over-kept (λ r. is_centre r.at) (λ r. over listed_beside (ground r.at ∷ [])) (records_of t)
      ∙ over-same (λ r. cond (is_centre r.at) (over listed_beside (ground r.at ∷ [])) 0)
      (λ v. cond (is_centre v.at) (besides_at t v.at) 0) (records_of t) (λ r m. by r.at (is_centre r.at) refl)
      ∙ sym (tallied-over (λ v. cond (is_centre v.at) (besides_at t v.at) 0) t)
    where
      single : (h : Pt) → over listed_beside (h ∷ []) ≡ listed_beside h
      single h = unfold over in omega arith

      by : (p : Point) (b : Bool) → is_centre p ≡ b → cond b (over listed_beside (ground p ∷ [])) 0 ≡ cond b (besides_at t p) 0
      by p false e = refl
      by p true e = single (ground p) ∙ beside-fit p e

  sides-fit : (counts_of t).edges + pairs_in t ≡ 9 * hexagons_in t + 12 * S
  sides-fit =
      sum (counts_of t).edges (length (base_labels cs own centres hexes)) (pairs_in t) (length centres) (hexagons_in t) S
      (edges_by t cs S K (base_labels cs own centres hexes) (base-edges cs own centres hexes))
      (ap (λ (n : ℕ). length (base_labels cs own centres hexes) + n) (sym pairs-fit) ∙ labels-many cs own centres hexes) centres-many
    where
      sum : (e l p n h s : ℕ) → e ≡ l + 12 * s → l + p ≡ 9 * n → n ≡ h → e + p ≡ 9 * h + 12 * s
      sum e l p n h s a b c = omega arith

-- ---- every grown table, after S subdivisions
pub record Tally (t : List ℕ) (S : ℕ) : Type 0 where
  pub vertices : (counts_of t).vertices ≡ ground_in t + 6 * S
  pub faces : (counts_of t).faces ≡ 3 * hexagons_in t + 6 * S
  pub edges : (counts_of t).edges + pairs_in t ≡ 9 * hexagons_in t + 12 * S

pub tally : (t : List ℕ) → Grown t → (S : ℕ) × Tally t S
tally t g =
    let (cs, S, K) = grown-from t g in
    let (b, B) = base-from t cs S K in (
      S,
      record {
        vertices = records-fit t cs S K b B ∙ ap (λ (n : ℕ). n + 6 * S) (ground-fit t cs S K b B);
        faces = faces-fit t cs S K ∙ ap (λ (n : ℕ). 3 * n + 6 * S) (hexagons-fit t cs S K);
        edges = sides-fit t cs S K;
      },
    )

pub faces-tally : (t : List ℕ) → Grown t → (counts_of t).faces ≡ 3 * hexagons_in t + ((counts_of t).vertices - ground_in t)
faces-tally t g = let (S, T) = tally t g in go (counts_of t).vertices (counts_of t).faces (ground_in t) (hexagons_in t) S T.vertices T.faces
  where
    go : (v f m h s : ℕ) → v ≡ m + 6 * s → f ≡ 3 * h + 6 * s → f ≡ 3 * h + (v - m)
    go v f m h s a b = omega arith

pub edges-tally : (t : List ℕ) → Grown t → (counts_of t).edges ≡ 9 * hexagons_in t + 2 * ((counts_of t).vertices - ground_in t) - pairs_in t
edges-tally t g =
    let (S, T) = tally t g in
    go (counts_of t).vertices (counts_of t).edges (ground_in t) (hexagons_in t) (pairs_in t) S T.vertices T.edges
  where
    go : (v e m h p s : ℕ) → v ≡ m + 6 * s → e + p ≡ 9 * h + 12 * s → e ≡ 9 * h + 2 * (v - m) - p
    go v e m h p s a b = omega arith
