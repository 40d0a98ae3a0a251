-- Demand 3: "For grown meshes: equal reduced files mean equal meshes in all six fields; the reduced reader gives back exactly the mesh; it
-- accepts no file that is not the reduced file of a grown mesh." Said of the calls, end to end: the file is the bytes that `write_reduced` leaves.
-- `written_one` equal bytes left, equal meshes · `written-returns` what is left and read again · `read-written` what is read is what is left of a grown mesh.
-- Of the files: `reduced-one`, `reduced-returns`, `reduced-accepted`; `twelve-kept`, `kept-twelve` number 12, exactly; of full files `full-one`,
-- `full-returns`, `full-accepted`. "Count the vertices in, count the vertices out": `full-count` a table read has as many records as the file has
-- lines, `reduced-count` as many as the lines and those that were left out. A mesh is what `look_up` answers at every point: the whole record, six fields.
-- Assumes nothing.
use Rattle.std.specs.Prelude.{◌≡◌, refl, Bool, cond, List, ◌++◌, ℕ, ◌≤◌, ltb, length, take, drop}
use Rattle.std.proofs.Common.{sym, ◌∙◌, ap, subst, arith, le-ltb}
use Rattle.std.proofs.Math.Bool.{true, false}
use Rattle.std.proofs.Math.Seq.{take-append_seam}
use Rattle.lattice.specs.declared.points.Point.{Point}
use Rattle.table.specs.Slots.{lengths_fit, slots_of}
use Rattle.table.specs.Order.{InOrder, in_order_of}
use Rattle.table.specs.MapLaws.{order-test}
use Rattle.table.specs.Entries.{look_up, records_of}
use Rattle.mesh.specs.Grown.{Grown}
use Rattle.writers.specs.Files.{OutputAfter, output_after, write_of, put_of, write_reduced_of, reduced_file}
use Rattle.readers.specs.Readers.{read_reduced_of}
use Rattle.archive.specs.Returns.{Returns}
pub use Rattle.archive.specs.Reduced.{reduced-one, reduced-returns, reduced-accepted, reduced-count, kept-twelve, twelve-kept}
pub use Rattle.archive.specs.Full.{full-one, full-returns, full-accepted, full-count}

-- what a writer leaves: as many bytes of its output as it tells
abbrev pub written_by : OutputAfter → List ℕ
written_by o = take o.bytes o.out

-- it is the file, where the output was long enough
module _ (file t out : List ℕ) where
  abbrev ended : Bool → Bool → OutputAfter
  ended o s = cond o (cond s (output_after 13 0 out) (output_after 0 (length file) (file ++ drop (length file) out))) (output_after 1 0 out)

  written-file : (write_of file t out).number ≡ 0 → written_by (write_of file t out) ≡ file
  unfolding write_of put_of
  written-file = go (in_order_of t) (ltb (length out) (length file))
    where
      go : (o s : Bool) → (ended o s).number ≡ 0 → written_by (ended o s) ≡ file
      go false s z = absurd (omega arith)
      go true true z = absurd (omega arith)
      go true false z = take-append_seam file (drop (length file) out)

  long-enough : InOrder t → length file ≤ length out → (write_of file t out).number ≡ 0
  unfolding write_of put_of
  long-enough o l = λ i. (ended (order-test t o i) (le-ltb (length out) (length file) l i)).number

-- "equal reduced files mean equal meshes in all six fields"
pub written_one : (t u out out' : List ℕ) → Grown t → Grown u → (write_reduced_of t out).number ≡ 0 → (write_reduced_of u out').number ≡ 0
    → written_by (write_reduced_of t out) ≡ written_by (write_reduced_of u out') → (p : Point) → look_up t p ≡ look_up u p
written_one t u out out' g h a b e = reduced-one t u g h (sym (written-file (reduced_file t) t out a) ∙ e ∙ written-file (reduced_file u) u out' b)

-- no refusal but for the output's length
pub written-enough : (t out : List ℕ) → Grown t → length (reduced_file t) ≤ length out → (write_reduced_of t out).number ≡ 0
written-enough t out g l = long-enough (reduced_file t) t out g.order l

-- "the reduced reader gives back exactly the mesh"
pub written-returns : (t out table scratch : List ℕ) → Grown t → (write_reduced_of t out).number ≡ 0 → lengths_fit table scratch ≡ true
    → length (records_of t) ≤ slots_of table → Returns t (read_reduced_of table scratch (written_by (write_reduced_of t out)))
written-returns t out table scratch g a fit room =
    subst (λ (f : List ℕ). Returns t (read_reduced_of table scratch f)) (sym (written-file (reduced_file t) t out a)) (reduced-returns t table scratch g fit room)

-- "it accepts no file that is not the reduced file of a grown mesh": the mesh that was read is one, and of it the writer leaves that file
pub record WrittenAs (f out mesh : List ℕ) : Type 0 where
  pub grown : Grown mesh
  pub number : (write_reduced_of mesh out).number ≡ 0
  pub left : written_by (write_reduced_of mesh out) ≡ f

pub read-written : (table scratch f out : List ℕ) → (read_reduced_of table scratch f).number ≡ 0 → length f ≤ length out
    → WrittenAs f out (read_reduced_of table scratch f).table
read-written table scratch f out z l =
    let (g, e) = reduced-accepted table scratch f z in
    let u = (read_reduced_of table scratch f).table in
    let k : length f ≡ length (reduced_file u) = ap length e in
    let n = written-enough u out g (omega arith) in
    record { grown = g; number = n; left = written-file (reduced_file u) u out n ∙ sym e }
