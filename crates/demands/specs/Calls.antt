-- Every call that may be made with anything: what it is lent, what is known of it afterwards, and the definition that its promise cites. A promise is
-- `outcome ≡ does call lent`, for all that can be lent. They are document 01's calls; document 02's `join`, `bring`, `refine`, `write_off`, `write_obj`,
-- `salvage` and `vertex`; ours, `subdivide_all`, the queries of many points, `vertices` and `count`; and what floors above stand on, `in_order`, `parse_line`,
-- `prepare`. All else that crates make public is a part of these that a floor above needs, and no call of the library.
-- `one-outcome` two outcomes that a promise allows are equal · `prepare-one` the same of `prepare`, whose promise is by cases · `one_told` whatever is
-- told of an outcome is one: so the C names, whose promises are these equations with the points in a row (`point_numbers`, `answer_numbers`).
-- Assumes nothing.
use Rattle.std.specs.Prelude.{◌≡◌, Bool, List, ℕ, ℤ}
use Rattle.std.proofs.Common.{sym, ◌∙◌, arith}
use Rattle.lattice.specs.Points.{normal_of}
use Rattle.lattice.specs.Stars.{star_of}
use Rattle.lattice.specs.declared.points.Point.{Point}
use Rattle.lattice.specs.declared.records.Record.{Record}
use Rattle.lattice.specs.declared.stars.Answer.{Answer}
use Rattle.laws.specs.Each.{not-both}
use Rattle.table.specs.Order.{in_order_of}
use Rattle.text.specs.Line.{line_at}
use Rattle.text.specs.declared.line.Line.{Line}
use Rattle.base.specs.Base as laid
use Rattle.mesh.specs.Subdivide as divided
use Rattle.queries.specs.Queries.{neighbours_of, faces_of}
use Rattle.queries.specs.Many.{AnswersAfter, neighbours_all_of, faces_all_of}
use Rattle.writers.specs.Files as written
use Rattle.findings.specs.Findings.{JoinAfter, join_of}
use Rattle.bring.specs.Bring.{BringAfter, bring_to_six}
use Rattle.outlines.specs.Outlines.{RefineAfter, refine_of}
use Rattle.outlines.specs.declared.values.Outline.{Outline}
use Rattle.viewer.specs.Viewer.{write_off_of, write_obj_of}
use Rattle.engine.specs.Engine.{VertexAfter, vertex_of}
use Rattle.engine.specs.Many.{RowsAfter, vertices_of}
use Rattle.readers.specs.Readers as read
use Rattle.readers.specs.BeginLaws.{Prepared, unfit, fit}
use Rattle.salvage.specs.Salvage.{SalvageAfter, salvage_of}
use Rattle.tally.specs.Count.{CountsAfter, count_of}
use Rattle.census_text.specs.Census as counted

pub data Call : Type 0 where
  normalise star base subdivide subdivideAll neighbours faces neighboursAll facesAll : Call
  writeFull writeReduced readFull readReduced census counts join bring refine writeOff writeObj salvage vertex vertices inOrder parseLine : Call

-- lent bytes are lists of ℕ, lent whole numbers lists of ℤ
abbrev pub Lent : Call → Type 0
Lent normalise = ℤ × ℤ × ℕ
Lent star = Record
Lent base = List ℕ × List ℤ
Lent subdivide = List ℕ × ℤ × ℤ × ℕ
Lent subdivideAll = List ℕ × List ℤ
Lent neighbours = List ℕ × ℤ × ℤ × ℕ
Lent faces = List ℕ × ℤ × ℤ × ℕ
Lent neighboursAll = List ℕ × List ℤ × List ℤ
Lent facesAll = List ℕ × List ℤ × List ℤ
Lent writeFull = List ℕ × List ℕ
Lent writeReduced = List ℕ × List ℕ
Lent readFull = List ℕ × List ℕ × List ℕ
Lent readReduced = List ℕ × List ℕ × List ℕ
Lent census = List ℕ × List ℕ × List ℕ × List ℕ
Lent counts = List ℕ
Lent join = List ℕ × List ℕ × List ℕ
Lent bring = List ℕ × List ℕ × ℤ × ℤ × ℕ
Lent refine = List ℕ × List ℕ × Outline × ℕ × ℕ
Lent writeOff = List ℕ × List ℕ
Lent writeObj = List ℕ × List ℕ
Lent salvage = List ℕ × List ℕ × List ℕ × List ℕ × List ℕ
Lent vertex = List ℤ × List ℤ × ℤ × ℤ × ℕ
Lent vertices = List ℤ × List ℤ × List ℤ × List ℤ
Lent inOrder = List ℕ
Lent parseLine = List ℕ × ℕ

-- the answer, and the bytes after of all that was lent to be written
abbrev pub Outcome : Call → Type 0
Outcome normalise = Point
Outcome star = Answer
Outcome base = laid.BaseAfter
Outcome subdivide = divided.MeshAfter
Outcome subdivideAll = divided.Many
Outcome neighbours = Answer
Outcome faces = Answer
Outcome neighboursAll = AnswersAfter
Outcome facesAll = AnswersAfter
Outcome writeFull = written.OutputAfter
Outcome writeReduced = written.OutputAfter
Outcome readFull = read.TablesAfter
Outcome readReduced = read.TablesAfter
Outcome census = counted.Result
Outcome counts = CountsAfter
Outcome join = JoinAfter
Outcome bring = BringAfter
Outcome refine = RefineAfter
Outcome writeOff = written.OutputAfter
Outcome writeObj = written.OutputAfter
Outcome salvage = SalvageAfter
Outcome vertex = VertexAfter
Outcome vertices = RowsAfter
Outcome inOrder = Bool
Outcome parseLine = Line

abbrev pub does : (c : Call) → Lent c → Outcome c
does normalise (a, b, m) = normal_of a b m
does star r = star_of r
does base (t, cs) = laid.base_of t cs
does subdivide (t, a, b, m) = divided.subdivide_of t a b m
does subdivideAll (t, ps) = divided.subdivide_all_of t ps
does neighbours (t, a, b, m) = neighbours_of t a b m
does faces (t, a, b, m) = faces_of t a b m
does neighboursAll (t, ps, out) = neighbours_all_of t ps out
does facesAll (t, ps, out) = faces_all_of t ps out
does writeFull (t, out) = written.write_full_of t out
does writeReduced (t, out) = written.write_reduced_of t out
does readFull (t, s, f) = read.read_full_of t s f
does readReduced (t, s, f) = read.read_reduced_of t s f
does census (i, t, s, out) = counted.census_of i t s out
does counts t = count_of t
does join (t, l, out) = join_of t l out
does bring (t, s, a, b, m) = bring_to_six t s a b m
does refine (t, s, o, passes, level) = refine_of t s o passes level
does writeOff (t, out) = write_off_of t out
does writeObj (t, out) = write_obj_of t out
does salvage (t, s, f, out, list) = salvage_of t s f out list
does vertex (cs, ps, a, b, m) = vertex_of cs ps a b m
does vertices (cs, ps, qs, out) = vertices_of cs ps qs out
does inOrder t = in_order_of t
does parseLine (f, p) = line_at f p

-- "show that two outcomes allowed by it are equal"
pub one-outcome : (c : Call) (x : Lent c) (o o' : Outcome c) → o ≡ does c x → o' ≡ does c x → o ≡ o'
one-outcome c x o o' p q = p ∙ sym q

pub one_told : {A : Type 0} (c : Call) (x : Lent c) (told : Outcome c → A) (a a' : A) → a ≡ told (does c x) → a' ≡ told (does c x) → a ≡ a'
one_told c x told a a' p q = p ∙ sym q

-- `prepare` leaves both tables and gives the number of slots, or 0
pub prepare-one : (t s t' s' u v : List ℕ) (n k : ℕ) → Prepared t s t' s' n → Prepared t s u v k → (n ≡ k) × (t' ≡ u) × (s' ≡ v)
prepare-one t s t' s' u v n k (unfit e f a b) (unfit e' f' a' b') = (e ∙ sym e', a ∙ sym a', b ∙ sym b')
prepare-one t s t' s' u v n k (unfit e f a b) (fit e' f' a' b' w') = absurd (not-both f' f)
prepare-one t s t' s' u v n k (fit e f a b w) (unfit e' f' a' b') = absurd (not-both f f')
prepare-one t s t' s' u v n k (fit e f a b w) (fit e' f' a' b' w') = (omega (arith, w.long, w'.long), a ∙ sym a', b ∙ sym b')
