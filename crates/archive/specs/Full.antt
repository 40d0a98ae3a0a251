-- The full file of a grown mesh: `full-returns` it comes back · `full-accepted` nothing but grown meshes and their files is accepted · `full-one` two
-- tables of one file hold the same · `full-count` as many records as lines.
-- Assumes nothing.
use Rattle.std.specs.Prelude.{◌≡◌, Bool, true, cond, ℕ, ◌≤◌, length, Some}
use Rattle.std.proofs.Common.{sym, ap, ◌∙◌, subst, arith}
use mathlib.Core.List.{List, Memᴰ}
use Rattle.lattice.specs.declared.points.Point.{Point}
use Rattle.lattice.specs.declared.records.Record.{Record}
use Rattle.table.specs.Slots.{lengths_fit, slots_of}
use Rattle.table.specs.SlotLaws.{lengths-table}
use Rattle.table.specs.Order.{InOrder}
use Rattle.table.specs.Entries.{look_up, records_of}
use Rattle.table.specs.MapLaws.{lookup-point, lookup-valid, records-looked, looked-records}
use Rattle.text.specs.Line.{lines}
use Rattle.sorting.specs.SortLaws.{sort-length}
use Rattle.writers.specs.Files.{before, sorted, full_file}
use Rattle.writers.specs.FileLaws.{sorted_rises, sorted-holds, holds-sorted, sorted-one}
use Rattle.mesh.specs.Grown.{Grown}
use Rattle.grown.specs.Grown.{is-grown, grown-is, grown-same}
use Rattle.readers.specs.Readers.{TablesAfter, accepted, refused, read_full_of}
use Rattle.readers.specs.ReadLaws.{Valid, Lined, read-lines, lines-read, lines-one}
use Rattle.readers.specs.RestoreLaws.{Within}
use Rattle.readers.specs.Outcomes.{FullRead, full-ends, full-zero, full-grown}
use Rattle.archive.specs.Returns.{Returns, accepted-returns, both-within}
use Rattle.text.specs.LineCount.{lines_in, lines-in}

-- ---- what is written is read

module _ (t : List ℕ) (o : InOrder t) where
  -- the records of the full file
  abbrev written : List Record
  written = sorted (records_of t)

  written-looked : (r : Record) → Memᴰ r written → look_up t r.at ≡ Some r
  written-looked r m = records-looked t o r (sorted-holds t r m)

  written-valid : Valid written
  written-valid r m = lookup-valid t o r.at r (written-looked r m)

  looked-written : (p : Point) (r : Record) → look_up t p ≡ Some r → Memᴰ r written
  looked-written p r h = holds-sorted t r (looked-records t o p r h)

  -- a table with exactly those holds the same
  lined-same : (f : List ℕ) (n : ℕ) (u : List ℕ) → Lined f n written u → (p : Point) → look_up u p ≡ look_up t p
  lined-same f n u x =
      both-within u t
      (λ p r h. ap (look_up t) (sym (lookup-point u x.order p r h)) ∙ written-looked r (x.only p r h))
      (λ p r h. ap (look_up u) (sym (lookup-point t o p r h)) ∙ x.held r (looked-written p r h))

-- the full file of a grown mesh, read into a table with slots for its records, gives back the mesh
pub full-returns : (t table scratch : List ℕ) → Grown t → lengths_fit table scratch ≡ true → length (records_of t) ≤ slots_of table
    → Returns t (read_full_of table scratch (full_file t))
full-returns t table scratch g fit room =
    let o = g.order in
    let n = slots_of table in
    let w = lengths-table table scratch fit in
    let rs = sorted (records_of t) in
    let (u, e) = lines-read table n w rs (sorted_rises t o) (written-valid t o) (let l = sort-length before (records_of t) in omega arith) in
    let x = read-lines table n w (full_file t) rs u e in
    let same = lined-same t o (full_file t) n u x in
    let is = full-ends table scratch (full_file t) rs u fit e in
    let grown = grown-is u (grown-same t u x.order same g) in
    subst (Returns t) (sym (is ∙ ap (λ (b : Bool). cond b (accepted u scratch) (refused 11 0 table scratch)) grown))
    (accepted-returns t u scratch o x.order same)

-- ---- what is read was written

module _ (table scratch f : List ℕ) (z : (read_full_of table scratch f).number ≡ 0) where
  way : FullRead table scratch f
  way = full-zero table scratch f z

  lined : Lined f (slots_of table) way.records way.table
  lined = read-lines table (slots_of table) (lengths-table table scratch way.fit) f way.records way.table way.lines

  records : way.records ≡ sorted (records_of way.table)
  records =
      sorted-one way.table lined.order way.records lined.rises
      (λ r m. looked-records way.table lined.order r.at r (lined.held r m))
      (λ r m. lined.only r.at r (records-looked way.table lined.order r m))

  -- "11: not a grown mesh": what is accepted is grown, and the file is its full file, byte for byte
  pub full-accepted : Grown (read_full_of table scratch f).table × (f ≡ full_file (read_full_of table scratch f).table)
  full-accepted = (
    is-grown (read_full_of table scratch f).table (full-grown table scratch f z),
    lined.text ∙ ap lines records ∙ ap (λ (o : TablesAfter). full_file o.table) (sym way.is),
  )

  -- as many records as lines
  pub full-count : length (records_of (read_full_of table scratch f).table) ≡ lines_in f
  full-count = ap (λ (o : TablesAfter). length (records_of o.table)) way.is ∙ lined.count ∙ sym (ap lines_in lined.text ∙ lines-in way.records)

-- ---- two tables in order with one full file hold the same record at every point
pub full-one : (t u : List ℕ) → InOrder t → InOrder u → full_file t ≡ full_file u → (p : Point) → look_up t p ≡ look_up u p
full-one t u o v e = both-within t u (carried t u o v same) (carried u t v o (sym same))
  where
    same : sorted (records_of t) ≡ sorted (records_of u)
    same = lines-one (sorted (records_of t)) (sorted (records_of u)) (written-valid t o) (written-valid u v) e

    carried : (x y : List ℕ) → InOrder x → InOrder y → sorted (records_of x) ≡ sorted (records_of y) → Within x y
    carried x y a b k p r h =
        let m : Memᴰ r (sorted (records_of y)) = subst (Memᴰ r) k (looked-written x a p r h) in
        ap (look_up y) (sym (lookup-point x a p r h)) ∙ written-looked y b r m
