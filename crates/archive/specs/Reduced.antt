-- The reduced file of a grown mesh: `reduced-returns` it comes back · `reduced-accepted` nothing but grown meshes and their files is accepted ·
-- `reduced-one` two grown meshes of one file hold the same · `reduced-count` as many records as lines and redundant ones · `kept-twelve`, `twelve-kept`
-- "12: grown, but a redundant record was kept in a reduced file".
-- Assumes nothing.
use Rattle.std.specs.Prelude.{◌≡◌, refl, Bool, true, false, cond, not, ℕ, ◌+◌, ◌≤◌, ◌<◌, length}
use Rattle.std.proofs.Common.{sym, ap, ◌∙◌, subst, arith}
use mathlib.Core.List.{List, [], ◌∷◌, Memᴰ}
use Rattle.std.proofs.Math.Decide.{dec_lt}
use Rattle.laws.specs.Some.{some_of, some_at, at_some, none-at, at_none}
use Rattle.lattice.specs.declared.points.Point.{Point}
use Rattle.lattice.specs.declared.records.Record.{Record}
use Rattle.table.specs.Slots.{lengths_fit, slots_of}
use Rattle.table.specs.SlotLaws.{table-lengths}
use Rattle.table.specs.Order.{InOrder}
use Rattle.table.specs.Entries.{look_up, records_of}
use Rattle.table.specs.MapLaws.{records-looked, looked-records, records-count}
use Rattle.text.specs.Line.{lines}
use Rattle.sorting.specs.SortLaws.{sort-length}
use Rattle.writers.specs.Files.{before, sorted, redundant, leave_out, reduced_file}
use Rattle.writers.specs.FileLaws.{left-rises, left-holds, holds-left, left_one}
use Rattle.mesh.specs.Grown.{Grown}
use Rattle.grown.specs.Grown.{is-grown}
use Rattle.readers.specs.Readers.{TablesAfter, accepted, refused, read_reduced_of}
use Rattle.readers.specs.Outcomes.{ReducedRead, reduced-zero, reduced-twelve}
use Rattle.archive.specs.Returns.{Returns, accepted-returns}
use Rattle.text.specs.LineCount.{lines_in, lines-in}
use Rattle.archive.specs.Leaves.{Leaves, read_back, lined, read-order, read-slots, read-leaves}

-- the records of the reduced file
abbrev reduced : List ℕ → List Record
reduced t = sorted (leave_out (redundant t) (records_of t))

reduced-leaves : (t : List ℕ) → InOrder t → Leaves t (reduced t)
reduced-leaves t o =
    record {
      rises = left-rises t o (redundant t);
      held = λ r m. records-looked t o r (left-holds t o (redundant t) r m).0;
      rest = λ r h e. holds-left t o (redundant t) r (looked-records t o r.at r h) e;
    }

-- the reduced file of a grown mesh, read into a table with slots for its records, gives back the mesh
pub reduced-returns : (t table scratch : List ℕ) → Grown t → lengths_fit table scratch ≡ true → length (records_of t) ≤ slots_of table
    → Returns t (read_reduced_of table scratch (reduced_file t))
reduced-returns t table scratch g fit room =
    let o = g.order in
    let b = read_back t g (reduced t) (reduced-leaves t o) table scratch fit room in
    let none : some_of (redundant t) (reduced t) ≡ false = at_none (redundant t) (reduced t) (λ r m. (left-holds t o (redundant t) r m).1) in
    subst (Returns t) (sym (b.is ∙ ap (λ (k : Bool). cond k (refused 12 0 table scratch) (accepted b.result scratch)) none))
    (accepted-returns t b.result scratch o b.order b.same)

-- ---- what is read was written

-- the redundant records of a table
abbrev pub redundants : List ℕ → List Record
redundants t = leave_out (λ r. not (redundant t r)) (records_of t)

-- what a test leaves, and what it leaves out
left_out : (f : Record → Bool) (rs : List Record) → length rs ≡ length (leave_out f rs) + length (leave_out (λ r. not (f r)) rs)
unfolding leave_out
left_out f [] = refl
left_out f (r ∷ rs) = go (f r) (left_out f rs)
  where
    go : (b : Bool) → length rs ≡ length (leave_out f rs) + length (leave_out (λ r. not (f r)) rs)
        → length (r ∷ rs) ≡ length (cond b (leave_out f rs) (r ∷ leave_out f rs)) + length
        (cond (not b) (leave_out (λ r. not (f r)) rs) (r ∷ leave_out (λ r. not (f r)) rs))
    go true ih = omega arith
    go false ih = omega arith

module _ (table scratch f : List ℕ) (z : (read_reduced_of table scratch f).number ≡ 0) where
  way : ReducedRead table scratch f false
  way = reduced-zero table scratch f z

  leaves : Leaves way.table way.records
  leaves = read-leaves table scratch f false way

  order : InOrder way.table
  order = read-order table scratch f false way

  records : way.records ≡ reduced way.table
  records =
      left_one way.table order (redundant way.table) way.records leaves.rises
      (λ r m. (looked-records way.table order r.at r (leaves.held r m), none-at (redundant way.table) way.records r way.redundants m))
      (λ r m e. leaves.rest r (records-looked way.table order r m) e)

  text : f ≡ lines way.records
  text = (lined table scratch f false way).text

  -- what is accepted is grown, and the file is its reduced file, byte for byte
  pub reduced-accepted : Grown (read_reduced_of table scratch f).table × (f ≡ reduced_file (read_reduced_of table scratch f).table)
  reduced-accepted =
      subst (λ (o : TablesAfter). Grown o.table × (f ≡ reduced_file o.table)) (sym way.is) (is-grown way.table way.grown, text ∙ ap lines records)

  -- as many records as lines and redundant ones
  pub reduced-count : length (records_of (read_reduced_of table scratch f).table) ≡ lines_in f + length (redundants (read_reduced_of table scratch f).table)
  reduced-count = subst (λ (o : TablesAfter). length (records_of o.table) ≡ lines_in f + length (redundants o.table)) (sym way.is)
      (omega (
        arith,
        left_out (redundant way.table) (records_of way.table),
        ap lines_in text,
        lines-in way.records,
        ap length records,
        sort-length before (leave_out (redundant way.table) (records_of way.table)),
      ))

-- ---- two grown meshes with one reduced file have the same record at every point: the file is read into the larger table
pub reduced-one : (t u : List ℕ) → Grown t → Grown u → reduced_file t ≡ reduced_file u → (p : Point) → look_up t p ≡ look_up u p
reduced-one t u g h e p = go (dec_lt (slots_of t) (slots_of u))
  where
    both : (table : List ℕ) → InOrder table → length (records_of t) ≤ slots_of table → length (records_of u) ≤ slots_of table → look_up t p ≡ look_up u p
    both table o a b =
        let fit = table-lengths table table (slots_of table) o.fits refl in
        let x = reduced-returns t table table g fit a in
        let y = reduced-returns u table table h fit b in
        sym (x.same p) ∙ ap (λ (f : List ℕ). look_up (read_reduced_of table table f).table p) e ∙ y.same p

    go : Dec (slots_of t < slots_of u) → look_up t p ≡ look_up u p
    go (yes l) = both u h.order (omega (arith, records-count t)) (omega (arith, records-count u))
    go (no l) = both t g.order (omega (arith, records-count t)) (omega (arith, records-count u))

-- ---- "12: grown, but a redundant record was kept in a reduced file"

-- the file of such records is refused with 12
pub kept-twelve : (t table scratch : List ℕ) → Grown t → (rs : List Record) → Leaves t rs → (r : Record) → Memᴰ r rs → redundant t r ≡ true
    → lengths_fit table scratch ≡ true → length (records_of t) ≤ slots_of table
    → (read_reduced_of table scratch (lines rs)).number ≡ 12
kept-twelve t table scratch g rs x r m e fit room =
    let b = read_back t g rs x table scratch fit room in
    ap (λ (o : TablesAfter). o.number) (b.is ∙ ap (λ (k : Bool). cond k (refused 12 0 table scratch) (accepted b.result scratch))
    (at_some (redundant t) rs r m e))

-- and no other file
pub record KeptOne (table f : List ℕ) : Type 0 where
  pub mesh : List ℕ
  pub grown : Grown mesh
  pub room : length (records_of mesh) ≤ slots_of table
  pub records : List Record
  pub text : f ≡ lines records
  pub leaves : Leaves mesh records
  pub kept : (r : Record) × Memᴰ r records × (redundant mesh r ≡ true)

pub twelve-kept : (table scratch f : List ℕ) → (read_reduced_of table scratch f).number ≡ 12 → KeptOne table f
twelve-kept table scratch f z =
    let x = reduced-twelve table scratch f z in
    record {
      mesh = x.table;
      grown = is-grown x.table x.grown;
      room = omega (arith, records-count x.table, read-slots table scratch f true x);
      records = x.records;
      text = (lined table scratch f true x).text;
      leaves = read-leaves table scratch f true x;
      kept = some_at (redundant x.table) x.records x.redundants;
    }
