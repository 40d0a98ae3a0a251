-- A file that leaves out redundant records of a grown mesh, some or all: `Leaves`. What it leaves out is restored: `read_back` reading it ends with 0,
-- or with 12 where it keeps a redundant one, and with the mesh.
-- Why: each record that it leaves out is the adjacent of a degree 6 record, which is no redundant one and so in the file; and in a grown mesh a degree
-- 3 adjacent of a degree 6 vertex is the very record that restoring enters there (M4, docs/MODEL.md). And back: `read-leaves` what is read with 0 or 12
-- leaves out redundant records of a grown mesh.
-- Assumes nothing.
use Rattle.std.specs.Prelude.{◌≡◌, refl, ◌⊎◌, Bool, true, false, cond, ℕ, ◌*◌, ◌+◌, ◌%◌, ◌≤◌, ◌<◌, length, Some, None}
use Rattle.std.proofs.Common.{sym, ap, ◌∙◌, inl, inr, arith}
use Rattle.std.proofs.Math.Path.{fun_ext}
use mathlib.Core.List.{List, Memᴰ}
use Rattle.laws.specs.Each.{not-both}
use Rattle.laws.specs.Some.{some_of}
use Rattle.lattice.specs.Stars.{adjacent_at}
use Rattle.lattice.specs.declared.points.Point.{Point}
use Rattle.lattice.specs.declared.records.Record.{Record}
use Rattle.growth.specs.Sheets.{vertex}
use Rattle.growth.specs.Growth.{grown-adjacent}
use Rattle.table.specs.Slots.{lengths_fit, slots_of}
use Rattle.table.specs.SlotLaws.{lengths-table}
use Rattle.table.specs.Order.{InOrder}
use Rattle.table.specs.Entries.{look_up, records_of}
use Rattle.table.specs.RecordLaws.{apart-fewer}
use Rattle.table.specs.MapLaws.{lookup-point, lookup-valid, records-looked, looked-records}
use Rattle.text.specs.Line.{lines}
use Rattle.sorting.specs.SortLaws.{Rising}
use Rattle.writers.specs.Files.{redundant}
use Rattle.writers.specs.FileLaws.{Before, redundant-same}
use Rattle.writers.specs.RedundantLaws.{Redundant, redundant-is, is-redundant, six-kept}
use Rattle.mesh.specs.Grown.{Grown}
use Rattle.local.specs.Sheet.{as_option, sheet_of}
use Rattle.grown.specs.Steps.{sheet-held}
use Rattle.grown.specs.Tables.{grown-sheet}
use Rattle.grown.specs.Grown.{grown-is, grown-same}
use Rattle.lattice.specs.Subdivision.{born_of}
use Rattle.readers.specs.Readers.{With, restore_all, accepted, refused, read_reduced_of}
use Rattle.readers.specs.Additions.{Adds, adds_none, adds-slots, held-absent, held_same}
use Rattle.readers.specs.ReadLaws.{Valid, Lined, read-lines, lines-read}
use Rattle.readers.specs.RestoreLaws.{Restores, RestoredOf, restore-all, Within, In, Lacks, in_within, restores-into}
use Rattle.readers.specs.Outcomes.{ReducedRead, reduced-ends}
use Rattle.archive.specs.Returns.{both-within, rising-apart}

-- ---- records of table t that rise, all of them but redundant ones: of such a file the mesh comes back
pub record Leaves (t : List ℕ) (rs : List Record) : Type 0 where
  pub rises : Rising Before rs
  pub held : (r : Record) → Memᴰ r rs → look_up t r.at ≡ Some r
  pub rest : (r : Record) → look_up t r.at ≡ Some r → redundant t r ≡ false → Memᴰ r rs

-- M4's record is the one that restoring enters
entered : (v : Record) (j : ℕ) → vertex (adjacent_at v j) 3 ((6 + 2 * j + v.k) % 4) v.n.0 ≡ born_of v j
entered v j = refl

module _ (t : List ℕ) (g : Grown t) (rs : List Record) (x : Leaves t rs) where
  o : InOrder t
  o = g.order

  listed : (p : Point) (r : Record) → look_up t p ≡ Some r → Memᴰ r rs ⊎ Redundant t r
  listed p r h = go (redundant t r) refl
    where
      go : (b : Bool) → redundant t r ≡ b → Memᴰ r rs ⊎ Redundant t r
      go true e = inr (redundant-is t r e)
      go false e = inl (x.rest r (ap (look_up t) (lookup-point t o p r h) ∙ h) e)

  pub valid : Valid rs
  valid r m = lookup-valid t o r.at r (x.held r m)

  pub few : length rs ≤ length (records_of t)
  few = apart-fewer rs (records_of t) (rising-apart rs x.rises valid) (λ r m. looked-records t o r.at r (x.held r m))

  -- u holds exactly the records of the file
  module _ (f : List ℕ) (n : ℕ) (u : List ℕ) (l : Lined f n rs u) (room : length (records_of t) ≤ n) where
    within : Within u t
    within p r h = ap (look_up t) (sym (lookup-point u l.order p r h)) ∙ x.held r (l.only p r h)

    slots : length (records_of t) ≤ slots_of u
    slots = omega (arith, l.slots)

    lacks : (v : Record) → Memᴰ v rs → v.d ≡ 6 → (j : ℕ) → j < 6 → Lacks t u v j
    lacks v m d j i =
        let (a, y, three) = grown-adjacent (sheet_of t) (grown-sheet t g) v (ap as_option (x.held v m)) d j i in
        let h : look_up t (adjacent_at v j) ≡ Some a = sheet-held (look_up t (adjacent_at v j)) a y in
        (a, h, λ none. at a h three none (listed (adjacent_at v j) a h))
      where
        at : (a : Record) → look_up t (adjacent_at v j) ≡ Some a → (a.d ≡ 3 → a ≡ vertex (adjacent_at v j) 3 ((6 + 2 * j + v.k) % 4) v.n.0)
            → look_up u (adjacent_at v j) ≡ None → Memᴰ a rs ⊎ Redundant t a
            → a ≡ born_of v j
        at a h three none (inl k) = held-absent (ap (look_up u) (sym (lookup-point t o (adjacent_at v j) a h)) ∙ l.held a k) none
        at a h three none (inr k) = three k.three ∙ entered v j

    -- restoring ends, and with the records of t
    restored : (w : List ℕ) × (restore_all rs (With u) ≡ With w) × Adds (In t) u w
    restored = restores-into t o u l.order within slots rs lacks u (adds_none (In t) u l.order)

    pub whole : (w : List ℕ) × (restore_all rs (With u) ≡ With w) × InOrder w × ((p : Point) → look_up w p ≡ look_up t p)
    whole =
        let (w, e, a) = restored in
        let inside = in_within t o u l.order within slots w a in
        (w, e, a.order, both-within w t inside (λ p r h. back w e a inside p r h (listed p r h)))
      where
        back : (w : List ℕ) → restore_all rs (With u) ≡ With w → Adds (In t) u w → Within w t → (p : Point) (r : Record) → look_up t p ≡ Some r
            → Memᴰ r rs ⊎ Redundant t r → look_up w p ≡ Some r
        back w e a inside p r h (inl m) = a.keeps p r (ap (look_up u) (sym (lookup-point t o p r h)) ∙ l.held r m)
        back w e a inside p r h (inr k) =
            let v = k.centre in
            let here = records-looked t o v k.listed in
            let m = x.rest v here (six-kept t v k.six) in
            let (q, y) = (restore-all rs u w l.order e).has v m k.six k.place k.below in
            let there : adjacent_at v k.place ≡ p = k.adjacent ∙ lookup-point t o p r h in
            let z : look_up w p ≡ Some q = ap (look_up w) (sym there) ∙ y in
            z ∙ ap Some (held_same (inside p q z) h)

-- the mesh comes back, or 12
pub record Back (t : List ℕ) (rs : List Record) (table scratch : List ℕ) : Type 0 where
  pub result : List ℕ
  pub order : InOrder result
  pub same : (p : Point) → look_up result p ≡ look_up t p
  pub is : read_reduced_of table scratch (lines rs) ≡ cond (some_of (redundant t) rs) (refused 12 0 table scratch) (accepted result scratch)

pub read_back : (t : List ℕ) → Grown t → (rs : List Record) → Leaves t rs → (table scratch : List ℕ) → lengths_fit table scratch ≡ true
    → length (records_of t) ≤ slots_of table → Back t rs table scratch
read_back t g rs x table scratch fit room =
    let n = slots_of table in
    let fits = lengths-table table scratch fit in
    let (u, e) = lines-read table n fits rs x.rises (valid t g rs x) (let l = few t g rs x in omega arith) in
    let l = read-lines table n fits (lines rs) rs u e in
    let (w, k, v, same) = whole t g rs x (lines rs) n u l room in
    let grown = grown-is w (grown-same t w v same g) in
    let alike : redundant w ≡ redundant t = fun_ext (redundant-same w t v g.order same) in
    record {
      result = w;
      order = v;
      same = same;
      is =
          reduced-ends table scratch (lines rs) rs u w fit e k
          ∙ (λ i. cond (grown i) (cond (some_of (alike i) rs) (refused 12 0 table scratch) (accepted w scratch)) (refused 11 0 table scratch));
    }

-- ---- what was read with 0 or 12
module _ (table scratch f : List ℕ) (kept : Bool) (x : ReducedRead table scratch f kept) where
  pub lined : Lined f (slots_of table) x.records x.lined
  lined = read-lines table (slots_of table) (lengths-table table scratch x.fit) f x.records x.lined x.lines

  restores : Restores (RestoredOf x.records) x.records x.lined x.table
  restores = restore-all x.records x.lined x.table lined.order x.restored

  pub read-order : InOrder x.table
  read-order = restores.adds.order

  pub read-slots : slots_of x.table ≡ slots_of table
  read-slots = adds-slots (RestoredOf x.records) x.lined x.table restores.adds ∙ lined.slots

  pub read-leaves : Leaves x.table x.records
  read-leaves = record { rises = lined.rises; held = stands; rest = λ r h e. left r h e (restores.adds.only r.at r h) }
    where
      stands : (r : Record) → Memᴰ r x.records → look_up x.table r.at ≡ Some r
      stands r m = restores.adds.keeps r.at r (lined.held r m)

      -- a record restored is redundant
      left : (r : Record) → look_up x.table r.at ≡ Some r → redundant x.table r ≡ false
          → (look_up x.lined r.at ≡ Some r) ⊎ RestoredOf x.records r → Memᴰ r x.records
      left r h e (inl k) = lined.only r.at r k
      left r h e (inr (v, m, d, j, i, k)) =
          absurd (not-both (is-redundant x.table r (record {
            three = ap (λ (y : Record). y.d) k;
            centre = v;
            listed = looked-records x.table read-order v.at v (stands v m);
            six = d;
            place = j;
            below = i;
            adjacent = sym (ap (λ (y : Record). y.at) k);
          })) e)
