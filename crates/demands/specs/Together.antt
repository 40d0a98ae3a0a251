-- Document 02, ticket 8: "The plan holds together. .. For every grown mesh: .. " Each sentence, over the definitions that the calls' promises cite, for
-- every grown table, whatever its slots: one that a base and subdivisions made, or one read from a file.
-- `named_back` "whenever an internal vertex names an internal neighbour, that neighbour names it back" · `face-everywhere` "every face found from an
-- internal vertex is found, with the same four points in the same turning order, from each of its internal vertices": `Makes t v f`, a corner of v has
-- the face f; `SameRound f h`, h is f read from another of its vertices on · `corner-faced` and none of its corners is without a face ·
-- `neighbours-untorn`, `faces-untorn` "no query answers 7", nor does a subdivision, `never-torn` · `GrownFrom t cs S` "After S subdivisions of H
-- hexagons": `records-fit`, `faces-fit`, `edges_fit` what the census counts; `divided-fits` what one subdivision adds · `Fits`, `grown-fits`, `file-fits`,
-- `reduced-fits` of every grown table and of every file that a reader accepts there are such a base and such an S, and `hexagons-same`, `hexagons-one`,
-- `subdivisions-one` only one; `census-grown` what a census counts is grown · `CentresOf`, `centres-from`, `centres-accepted`, `base-told`,
-- `hexagons-told`, `subdivisions-told`, `read_fits` H and S read off the records, as `bladeplan check` does. Which calls go on with a history: Histories.
-- Assumes nothing.
pub use Rattle.together.specs.Together.{named_back, face-everywhere, corner-faced, faces-given, faces-untorn}
pub use Rattle.grown.specs.Untorn.{neighbours-untorn, never-torn}
pub use Rattle.firsts.specs.FaceLaws.{Makes, SameRound, straight, once, twice, thrice}
pub use Rattle.together.specs.GrownFrom.{GrownFrom, laid, divided, copied, grown-from, from-grown, base-from}
pub use Rattle.together.specs.Counted.{records-fit, faces-fit, edges_fit}
pub use Rattle.together.specs.Making.{centre-held, hexagons-same, hexagons-one, subdivisions-one, CentresOf, centres-from, centres-accepted}
pub use Rattle.together.specs.Making.{base-told, hexagons-told, subdivisions-told}
use Rattle.std.specs.Prelude.{◌≡◌, List, ℕ, ◌+◌, ◌*◌, ◌-◌, ◌/◌, ℤ}
use Rattle.std.proofs.Common.{arith}
use Rattle.base.specs.Base.{base_of, centres_in}
use Rattle.base.specs.BaseLaws.{base-list}
use Rattle.mesh.specs.Grown.{Grown}
use Rattle.mesh.specs.Subdivide.{subdivide_of}
use Rattle.counts.specs.Counts.{counts_of}
use Rattle.counts.specs.declared.Counts.{Counts}
use Rattle.readers.specs.Readers.{read_full_of, read_reduced_of}
use Rattle.census_text.specs.Census.{read_input_of}
use Rattle.census_text.specs.InputLaws.{counted-grown}
use Rattle.grown.specs.Grown.{is-grown}
use Rattle.archive.specs.Full.{full-accepted}
use Rattle.archive.specs.Reduced.{reduced-accepted}

-- ---- there are a base and a number of subdivisions
pub record Fits (t : List ℕ) : Type 0 where
  pub hexagons : List ℤ
  pub subdivisions : ℕ
  pub from : GrownFrom t hexagons subdivisions
  -- a table that holds the base
  pub base : List ℕ
  pub base-is : GrownFrom base hexagons 0
  -- "records are the base's records plus 6S"
  pub records : (counts_of t).vertices ≡ (counts_of base).vertices + 6 * subdivisions
  -- "edges, in Ticket 2's sense, are the base's edges plus 12S"
  pub edges : (counts_of t).edges ≡ (counts_of base).edges + 12 * subdivisions
  -- "faces are 3H + 6S"
  pub faces : (counts_of t).faces ≡ 3 * centres_in hexagons + 6 * subdivisions

pub grown-fits : (t : List ℕ) → Grown t → Fits t
grown-fits t g =
    let (cs, S, K) = grown-from t g in
    let (b, B) = base-from t cs S K in
    record {
      hexagons = cs;
      subdivisions = S;
      from = K;
      base = b;
      base-is = B;
      records = records-fit t cs S K b B;
      edges = edges_fit t cs S K b B;
      faces = faces-fit t cs S K;
    }

-- one subdivision more, of any grown table
module _ (t : List ℕ) (g : Grown t) (a b : ℤ) (m : ℕ) (z : (subdivide_of t a b m).number ≡ 0) where
  abbrev after : Counts
  after = counts_of (subdivide_of t a b m).bytes

  pub divided-fits : (after.vertices ≡ (counts_of t).vertices + 6) × (after.edges ≡ (counts_of t).edges + 12) × (after.faces ≡ (counts_of t).faces + 6)
  divided-fits =
      let f = grown-fits t g in
      let cs = f.hexagons in
      let S = f.subdivisions in
      let u = (subdivide_of t a b m).bytes in
      let K = divided t cs S f.from a b m z in
      let v = f.records in
      let e = f.edges in
      let h = f.faces in
      let x = records-fit u cs (S + 1) K f.base f.base-is in
      let y = edges_fit u cs (S + 1) K f.base f.base-is in
      let w = faces-fit u cs (S + 1) K in
      (omega (arith, v, x), omega (arith, e, y), omega (arith, h, w))

-- of every file that a reader accepts
pub file-fits : (table scratch f : List ℕ) → (read_full_of table scratch f).number ≡ 0 → Fits (read_full_of table scratch f).table
file-fits table scratch f z = grown-fits (read_full_of table scratch f).table (full-accepted table scratch f z).0

pub reduced-fits : (table scratch f : List ℕ) → (read_reduced_of table scratch f).number ≡ 0 → Fits (read_reduced_of table scratch f).table
reduced-fits table scratch f z = grown-fits (read_reduced_of table scratch f).table (reduced-accepted table scratch f z).0

-- what a census counts is grown: no corner is left out of its F and E (`corner-faced`), and they fit
pub census-grown : (table scratch input : List ℕ) → (read_input_of table scratch input).number ≡ 0 → Grown (read_input_of table scratch input).table
census-grown table scratch input z = is-grown (read_input_of table scratch input).table (counted-grown table scratch input z)

-- ---- a base laid of the centres that the plan has; that it is accepted where there is room for the plan: `centres-accepted`
module _ (t : List ℕ) (g : Grown t) (cs : List ℤ) (C : CentresOf t cs) (x : List ℕ) (z : (base_of x cs).number ≡ 0) where
  abbrev base : Counts
  base = counts_of (base_of x cs).bytes

  -- a sixth of the vertices beyond the base's
  abbrev many : ℕ
  many = ((counts_of t).vertices - base.vertices) / 6

  pub read_fits : ((counts_of t).vertices ≡ base.vertices + 6 * many) × ((counts_of t).edges ≡ base.edges + 12 * many)
      × ((counts_of t).faces ≡ 3 * centres_in cs + 6 * many)
  read_fits =
      let (ds, S, K) = grown-from t g in
      let l = base-list x cs z in
      let b = (base_of x cs).bytes in
      let B = base-told t ds S K cs l C.has b (laid x cs z) in
      let s = subdivisions-told t ds S K cs l C.has b (laid x cs z) in
      let h = hexagons-told t ds S K cs l C.has b (laid x cs z) in
      let v = records-fit t ds S K b B in
      let e = edges_fit t ds S K b B in
      let f = faces-fit t ds S K in
      (omega (arith, s, v), omega (arith, s, e), omega (arith, s, f, h))
