-- Document 02, ticket 13, "A plain second engine": each sentence, over the definitions that the promises of `vertex`, `vertices` and the calls on tables cite.
-- `Left cs l t` "the list left by any sequence of accepted subdivisions" from a base of the list cs: the pairs l, the last first, and a table t that has what
-- they leave, in whatever tables they were made · `Spelled ps l` the numbers ps are these pairs in the order made, points spelled in any way.
-- `same-vertex` "it gives the same record as the table" · `absent-vertex`, `vertex-absent` "says absent exactly where the table has none" ·
-- `only-21`, `every-21`, `tables-21` "21 for a list that no sequence of accepted subdivisions from that base leaves, room aside" · `pair-stands`,
-- `stands-pair` the same of one pair: what it stands on is before it · `two-base`, `base-two` "2" · `vertex-number`, `vertex-zeros` "Refusals" ·
-- `vertex-some` all zeros is no vertex's record · `vertex-ends` how it ends, for all lists · `grown-list` every grown table has such a list, `list-numbers`
-- and every such list its numbers · `many-run`, `brought-run`, `refined-run` the calls that make several leave such lists: `sequence-left` ·
-- `rows-number`, `rows-each`, `rows-lent` many vertices at once, which are ours.
-- Assumes nothing.
pub use Rattle.engine.specs.Traced.{Division, Traced, start, grow, Spells}
pub use Rattle.engine.specs.Ends.{Spelled, Ends, bad, unmade, absent, given}
pub use Rattle.engine.specs.Words.{Stands}
pub use Rattle.agreed.specs.Tables.{Left, laid, divided, copied, slots_for}
pub use Rattle.everywhere.specs.Runs.{Run}
pub use Rattle.agreed.specs.Made.{asked_of, Done}
use Rattle.std.specs.Prelude.{◌≡◌, ◌≢◌, Bool, cond, List, [], ◌∷◌, ◌++◌, ℕ, ◌*◌, ◌≤◌, ◌<◌, ℤ, pos, length, drop, Option, Some, None}
use Rattle.std.proofs.Math.Path.{refl, ap}
use Rattle.std.proofs.Common.{◌∙◌, arith, leb-true}
use Rattle.std.proofs.Math.Bool.{true, false, not}
use Rattle.std.proofs.Math.Dec.{leb}
use Rattle.std.proofs.Math.ListN.{take}
use Rattle.laws.specs.Choices.{unless}
use Rattle.laws.specs.Triples.{triples_in, is_byte}
use Rattle.lattice.specs.Points.{normal_of}
use Rattle.lattice.specs.Records.{nobody}
use Rattle.lattice.specs.declared.points.Point.{Point}
use Rattle.lattice.specs.declared.records.Record.{Record}
use Rattle.growth.specs.Sheets.{Sheet}
use Rattle.centres.specs.Centres.{is_listed, GoodList}
use Rattle.table.specs.Entries.{look_up}
use Rattle.table.specs.Slots.{fits_length}
use Rattle.base.specs.Base.{base_of}
use Rattle.mesh.specs.Grown.{Grown}
use Rattle.mesh.specs.Subdivide.{subdivide_all_of}
use Rattle.bring.specs.Bring.{bring_to_six}
use Rattle.outlines.specs.declared.values.Outline.{Outline}
use Rattle.outlines.specs.Outlines.{refine_of}
use Rattle.local.specs.Sheet.{as_option}
use Rattle.engine.specs.Engine.{pairs_in, pair_depth, pair_point, pair_level, record_by, fits_at, judged_to, left_by, refusal, tell_at, bad_base}
use Rattle.engine.specs.Engine.{VertexAfter, vertex_after, vertex_of}
use Rattle.engine.specs.Many.{record_row, row_width, triple_record, rows_in, RowsAfter, rows_after, vertices_of}
use Rattle.engine.specs.ManyLaws.{rows_at}
use Rattle.engine.specs.MadeLaws.{fits-turn, turn-fits}
use Rattle.engine.specs.Traced.{judged-traced}
use Rattle.engine.specs.Words.{turn-stands, stands-turn}
use Rattle.engine.specs.Ends.{how-it-ends, refused-21, untraced-21, somebody}
use Rattle.agreed.specs.Tables.{same-record, absent-exactly, left-made, untabled-21, base-2}
use Rattle.agreed.specs.Lists.{numbers, left-spelled, grown-left}
use Rattle.agreed.specs.Made.{run-left, all-run, bring-run}
use Rattle.agreed.specs.Refined.{refine-run}
use Rattle.demands.specs.Numbers.{Rule, ◌⇒◌, first_of}

-- ---- one vertex
abbrev pub is_absent : Option Record → Bool
is_absent None = true
is_absent (Some r) = false

module _ (cs ps : List ℤ) (a b : ℤ) (m : ℕ) where
  abbrev answer : VertexAfter
  answer = vertex_of cs ps a b m

  abbrev at : Point
  at = normal_of a b m

  -- "for the list left by any sequence of accepted subdivisions"
  module _ (l : List Division) (t : List ℕ) (k : Left cs l t) (s : Spelled ps l) where
    -- "it gives the same record as the table"
    pub same-vertex : (v : Record) → look_up t at ≡ Some v → answer ≡ vertex_after 0 v
    same-vertex v e = same-record cs ps a b m l t k s ∙ ap (λ (x : Option Record). tell_at (as_option x)) e

    -- "and says absent exactly where the table has none"; "the record is then all zeros"
    pub absent-vertex : look_up t at ≡ None → answer ≡ refusal 3
    absent-vertex = (absent-exactly cs ps a b m l t k s).0

    pub vertex-absent : answer.number ≡ 3 → look_up t at ≡ None
    vertex-absent = (absent-exactly cs ps a b m l t k s).1

  -- "21 for a list that no sequence of accepted subdivisions from that base leaves, room aside": only of such lists. No table is left with it, whatever its
  -- room, and no sheet, which needs none (a list may be longer than any table could hold)
  pub only-21 : answer.number ≡ 21 → (l : List Division) → Spelled ps l → ((t : List ℕ) → Left cs l t → ⊥) × ((R : Sheet) → Traced (is_listed cs) l R → ⊥)
  only-21 h l s = ((λ t k. left-made cs ps a b m l t k s h), (λ R k. refused-21 cs ps a b m h l R s k))

  -- and of all such
  pub every-21 : GoodList cs → ((l : List Division) (R : Sheet) → Spelled ps l → Traced (is_listed cs) l R → ⊥) → answer ≡ refusal 21
  every-21 = untraced-21 cs ps a b m

  -- by the calls on tables alone, where one of n slots has room for the base and six records a pair
  pub tables-21 : (n : ℕ) → 16 ≤ n → n ≤ 65536 → slots_for cs (pairs_in ps) ≤ n → GoodList cs → ((l : List Division) (t : List ℕ) → Spelled ps l → Left cs l t → ⊥)
      → answer ≡ refusal 21
  tables-21 = untabled-21 cs ps a b m

  -- "2": exactly where `base` says 2, in every table whose length fits
  module _ (t : List ℕ) (fit : fits_length (length t) ≡ true) where
    pub two-base : (base_of t cs).number ≡ 2 → answer ≡ refusal 2
    two-base = (base-2 cs ps a b m t fit).0

    pub base-two : answer.number ≡ 2 → (base_of t cs).number ≡ 2
    base-two = (base-2 cs ps a b m t fit).1

  -- "Refusals: 2; 21 ..; 3 for an absent vertex": in this order
  abbrev pub vertex_rules : List Rule
  vertex_rules = bad_base cs ⇒ 2 ∷ not (left_by (is_listed cs) ps) ⇒ 21 ∷ is_absent (record_by (is_listed cs) ps (pairs_in ps) at) ⇒ 3 ∷ []

  abbrev ending : Bool → Bool → Option Record → VertexAfter
  ending x y o = cond x (refusal 2) (unless y (refusal 21) (tell_at o))

  pub vertex-number : answer.number ≡ first_of vertex_rules
  unfolding vertex_of
  vertex-number = go (bad_base cs) (left_by (is_listed cs) ps) (record_by (is_listed cs) ps (pairs_in ps) at)
    where
      go : (x y : Bool) (o : Option Record) → (ending x y o).number ≡ first_of (x ⇒ 2 ∷ not y ⇒ 21 ∷ is_absent o ⇒ 3 ∷ [])
      go true y o = refl
      go false false o = refl
      go false true None = refl
      go false true (Some r) = refl

  -- "the record is then all zeros"
  pub vertex-zeros : answer.number ≢ 0 → answer.vertex ≡ nobody
  unfolding vertex_of
  vertex-zeros = go (bad_base cs) (left_by (is_listed cs) ps) (record_by (is_listed cs) ps (pairs_in ps) at)
    where
      go : (x y : Bool) (o : Option Record) → (ending x y o).number ≢ 0 → (ending x y o).vertex ≡ nobody
      go true y o n = refl
      go false false o n = refl
      go false true None n = refl
      go false true (Some r) n = absurd (n refl)

  -- which no vertex's record is
  pub vertex-some : answer.number ≡ 0 → answer.vertex ≢ nobody
  unfolding vertex_of
  vertex-some = go (bad_base cs) (left_by (is_listed cs) ps) (record_by (is_listed cs) ps (pairs_in ps) at) refl
    where
      go : (x y : Bool) (o : Option Record) → record_by (is_listed cs) ps (pairs_in ps) at ≡ o → (ending x y o).number ≡ 0 → (ending x y o).vertex ≢ nobody
      go true y o e n = absurd (omega (arith, n))
      go false false o e n = absurd (omega (arith, n))
      go false true None e n = absurd (omega (arith, n))
      go false true (Some r) e n = λ z. somebody (is_listed cs) ps (pairs_in ps) at (e ∙ ap Some z)

  -- for all lists: a base list that is none, and 2; a list that no sequence leaves, and 21; else a sequence that leaves it, and 3 or the record
  pub vertex-ends : Ends cs ps a b m
  vertex-ends = how-it-ends cs ps a b m

-- ---- one pair, when its turn comes after n good ones: its level is 0 to 11 and not below the rank of its point, it was not made before, and what it stands
-- on was (`Stands`)
module _ (H : Point → Bool) (ps : List ℤ) (n : ℕ) (g : judged_to H ps n ≡ true) where
  pub pair-stands : fits_at H ps n ≡ true → (i : ℕ) × (pair_level ps n ≡ pos i) × Stands H ps n (pair_point ps n) i
  pair-stands h =
      let t = fits-turn H ps n h in
      (t.vertex.n.0, t.level, turn-stands H ps n (judged-traced H ps n g).trail t)

  pub stands-pair : (i : ℕ) → is_byte (pair_depth ps n) ≡ true → pair_level ps n ≡ pos i → Stands H ps n (pair_point ps n) i → fits_at H ps n ≡ true
  stands-pair i byte level s = turn-fits H ps n (stands-turn H ps n (judged-traced H ps n g).trail i s byte level)

-- ---- which tables have such lists
-- every grown one
pub grown-list : (t : List ℕ) → Grown t → (cs : List ℤ) × (l : List Division) × Left cs l t × Spelled (numbers l) l
grown-list t g = let (cs, l, k) = grown-left t g in (cs, l, k, left-spelled cs l t k)

-- and every such list can be written
pub list-numbers : (cs : List ℤ) (l : List Division) (t : List ℕ) → Left cs l t → Spelled (numbers l) l
list-numbers cs l t k = left-spelled cs l t k

-- a list that was left, and a sequence of accepted subdivisions from there
pub sequence-left : (cs : List ℤ) (l : List Division) (t : List ℕ) → Left cs l t → (u : List ℕ) (x : List Division) → Run t x u → Left cs (x ++ l) u
sequence-left cs l t k u x r = run-left cs l t u x k r

-- the calls that make several make such a sequence, of every table and whatever they answer. `subdivide_all`: a pair for each triple that is done, of its point
pub many-run : (t : List ℕ) (qs : List ℤ) → Done qs t (subdivide_all_of t qs).done (subdivide_all_of t qs).bytes
many-run t qs = all-run qs t

-- bringing a vertex to degree 6
pub brought-run : (t s : List ℕ) (a b : ℤ) (m : ℕ) → (x : List Division) × Run t x (bring_to_six t s a b m).table
brought-run = bring-run

-- refining round an outline: the passes that stand
pub refined-run : (t s : List ℕ) (o : Outline) (passes level : ℕ) → (x : List Division) × Run t x (refine_of t s o passes level).table
refined-run = refine-run

-- ---- many vertices, ours
module _ (cs ps qs out : List ℤ) where
  abbrev pub rows_rules : List Rule
  rows_rules = bad_base cs ⇒ 2 ∷ not (left_by (is_listed cs) ps) ⇒ 21 ∷ not (leb (row_width * triples_in qs) (length out)) ⇒ 13 ∷ []

  abbrev rows : RowsAfter
  rows = rows_after 0 (rows_in (triple_record cs ps qs) out (triples_in qs))

  abbrev ended : Bool → Bool → Bool → RowsAfter
  ended x y z = cond x (rows_after 2 out) (unless y (rows_after 21 out) (unless z (rows_after 13 out) rows))

  pub rows-number : (vertices_of cs ps qs out).number ≡ first_of rows_rules
  unfolding vertices_of
  rows-number = go (bad_base cs) (left_by (is_listed cs) ps) (leb (row_width * triples_in qs) (length out))
    where
      go : (x y z : Bool) → (ended x y z).number ≡ first_of (x ⇒ 2 ∷ not y ⇒ 21 ∷ not z ⇒ 13 ∷ [])
      go true y z = refl
      go false false z = refl
      go false true false = refl
      go false true true = refl

  -- where it is done, the six numbers at place i are those of the record that the single call gives for triple i
  pub rows-each : (vertices_of cs ps qs out).number ≡ 0 → (i : ℕ) → i < triples_in qs
      → take row_width (drop (row_width * i) (vertices_of cs ps qs out).rows) ≡ record_row (triple_record cs ps qs i)
  unfolding vertices_of
  rows-each e i h = go (bad_base cs) (left_by (is_listed cs) ps) (leb (row_width * triples_in qs) (length out)) refl e
    where
      go : (x y z : Bool) → leb (row_width * triples_in qs) (length out) ≡ z → (ended x y z).number ≡ 0
          → take row_width (drop (row_width * i) (ended x y z).rows) ≡ record_row (triple_record cs ps qs i)
      go true y z w n = absurd (omega (arith, n))
      go false false z w n = absurd (omega (arith, n))
      go false true false w n = absurd (omega (arith, n))
      go false true true w n = rows_at (triple_record cs ps qs) out (triples_in qs) i (leb-true (row_width * triples_in qs) (length out) w) h

  -- where it is not, the numbers are as they were lent
  pub rows-lent : (vertices_of cs ps qs out).number ≢ 0 → (vertices_of cs ps qs out).rows ≡ out
  unfolding vertices_of
  rows-lent = go (bad_base cs) (left_by (is_listed cs) ps) (leb (row_width * triples_in qs) (length out))
    where
      go : (x y z : Bool) → (ended x y z).number ≢ 0 → (ended x y z).rows ≡ out
      go true y z n = refl
      go false false z n = refl
      go false true false n = refl
      go false true true n = absurd (n refl)
