-- "After S subdivisions of H hexagons": a table with its history, and what it comes to in the model.
-- `GrownFrom t cs S` the records of t result from a base of the list cs and S accepted subdivisions · `grown-from`, `from-grown` t is grown exactly where
-- there are such ones · `base-from`, `list-from` the base and its list, `sheet-from`, `bases-same` it holds the same whatever the list's order ·
-- `records-from` six records for each subdivision · `history` t is the mesh of S subdivisions of the list's hexagons.
-- Assumes nothing.
use Rattle.std.specs.Prelude.{◌≡◌, refl, Bool, List, [], ◌∷◌, ℕ, ◌+◌, ◌*◌, ◌<◌, ℤ, length, Option, Some, None}
use Rattle.std.proofs.Common.{sym, ◌∙◌, ap, subst, arith}
use Rattle.std.proofs.Math.Path.{fun_ext}
use Rattle.lattice.specs.declared.points.Point.{Point}
use Rattle.lattice.specs.declared.records.Record.{Record}
use Rattle.growth.specs.Sheets.{Sheet, Step, base_sheet}
use Rattle.growth.specs.Model.{Counts, mesh_of, more}
use Rattle.growth.specs.Normal.{Pt, rank}
use Rattle.growth.specs.Closed.{full_at, bump}
use Rattle.growth.specs.OneStep.{six}
use Rattle.growth.specs.Order.{cnt, Seq, nil, next}
use Rattle.growth.specs.Subdivide.{record-normal}
use Rattle.growth.specs.Link.{at, record_is, more-is}
use Rattle.growth.specs.GrownLaws.{base-is}
use Rattle.growth.specs.Growth.{grow-step, step-unique}
use Rattle.table.specs.Slots.{slots_in, slots_of}
use Rattle.table.specs.Order.{InOrder}
use Rattle.table.specs.Entries.{look_up, records_of}
use Rattle.table.specs.MapLaws.{records-count, records-same}
use Rattle.base.specs.Base.{base_of, is_listed}
use Rattle.base.specs.BaseLaws.{base-list, base-order}
use Rattle.centres.specs.Centres.{GoodList}
use Rattle.mesh.specs.Subdivide.{MeshAfter, subdivide_of}
use Rattle.mesh.specs.WriteLaws.{subdivided-length}
use Rattle.mesh.specs.CaseLaws.{Subdivision, subdivision, refused}
use Rattle.local.specs.Sheet.{as_option, sheet_of}
use Rattle.grown.specs.Bases.{base-sheet}
use Rattle.grown.specs.Steps.{sheet-held, sheet-absent, accepted}
use Rattle.grown.specs.Grown.{grown-same}
use Rattle.grown.specs.Untorn.{base-grown, divided-grown}
use Rattle.mesh.specs.Grown as G
use Rattle.mesh.specs.CaseLaws as cases
use Rattle.growth.specs.Model as M

-- "its records result from a base and a sequence of subdivisions accepted", S of them, in whatever tables the records stood on the way
pub data GrownFrom : List ℕ → List ℤ → ℕ → Type 0 where
  laid : (t : List ℕ) (cs : List ℤ) → (base_of t cs).number ≡ 0 → GrownFrom (base_of t cs).bytes cs 0
  divided : (t : List ℕ) (cs : List ℤ) (S : ℕ) → GrownFrom t cs S → (a b : ℤ) (m : ℕ) → (subdivide_of t a b m).number ≡ 0
      → GrownFrom (subdivide_of t a b m).bytes cs (S + 1)
  -- the same records in another table in order: one that a file was read into
  copied : (t u : List ℕ) (cs : List ℤ) (S : ℕ) → GrownFrom u cs S → InOrder t → ((p : Point) → look_up t p ≡ look_up u p) → GrownFrom t cs S

reached-from : (t : List ℕ) → G.Reached t → (cs : List ℤ) × (S : ℕ) × GrownFrom t cs S
reached-from _ (G.laid t cs z) = (cs, 0, laid t cs z)
reached-from _ (G.divided t r a b m z) = let (cs, S, K) = reached-from t r in (cs, S + 1, divided t cs S K a b m z)

-- every grown table is, and no other
pub grown-from : (t : List ℕ) → G.Grown t → (cs : List ℤ) × (S : ℕ) × GrownFrom t cs S
grown-from t g = let (cs, S, K) = reached-from g.table g.reached in (cs, S, copied t g.table cs S K g.order g.same)

pub from-grown : (t : List ℕ) (cs : List ℤ) (S : ℕ) → GrownFrom t cs S → G.Grown t
from-grown _ _ _ (laid t cs z) = base-grown t cs z
from-grown _ _ _ (divided t cs S K a b m z) = divided-grown t (from-grown t cs S K) a b m z
from-grown _ _ _ (copied t u cs S K o same) = grown-same u t o same (from-grown u cs S K)

-- the base it came from
pub base-from : (t : List ℕ) (cs : List ℤ) (S : ℕ) → GrownFrom t cs S → (b : List ℕ) × GrownFrom b cs 0
base-from _ _ _ (laid t cs z) = ((base_of t cs).bytes, laid t cs z)
base-from _ _ _ (divided t cs S K a b m z) = base-from t cs S K
base-from _ _ _ (copied t u cs S K o same) = base-from u cs S K

pub list-from : (t : List ℕ) (cs : List ℤ) (S : ℕ) → GrownFrom t cs S → GoodList cs
list-from _ _ _ (laid t cs z) = base-list t cs z
list-from _ _ _ (divided t cs S K a b m z) = list-from t cs S K
list-from _ _ _ (copied t u cs S K o same) = list-from u cs S K

-- ---- a base: no subdivision was made
pub sheet-from : (b : List ℕ) (cs : List ℤ) (S : ℕ) → S ≡ 0 → GrownFrom b cs S → (p : Point) → sheet_of b p ≡ base_sheet (is_listed cs) p
sheet-from _ _ _ e (laid t cs z) p = base-sheet t cs z p
sheet-from _ _ _ e (divided t cs S K a b m z) p = absurd (omega arith)
sheet-from _ _ _ e (copied t u cs S K o same) p = ap as_option (same p) ∙ sheet-from u cs S e K p

looked-one : (l m : Option Record) → as_option l ≡ as_option m → l ≡ m
looked-one l None e = sheet-absent l e
looked-one l (Some r) e = sheet-held l r e

-- two bases with the same hexagons, listed in whatever order, hold the same records
pub bases-same : (a b : List ℕ) (cs ds : List ℤ) → ((p : Point) → is_listed ds p ≡ is_listed cs p) → GrownFrom a cs 0 → GrownFrom b ds 0
    → (p : Point) → look_up b p ≡ look_up a p
bases-same a b cs ds e A B p =
    looked-one (look_up b p) (look_up a p)
    (sheet-from b ds 0 refl B p ∙ ap (λ (H : Point → Bool). base_sheet H p) (fun_ext e) ∙ sym (sheet-from a cs 0 refl A p))

-- ---- records: a subdivision keeps the number of slots, and has six free ones less
call_length : (t : List ℕ) (a b : ℤ) (m : ℕ) → (subdivide_of t a b m).number ≡ 0 → length (subdivide_of t a b m).bytes ≡ length t
call_length t a b m z = go (subdivision t a b m)
  where
    go : Subdivision t a b m → length (subdivide_of t a b m).bytes ≡ length t
    go (refused x n e) = absurd (n (ap (λ (o : MeshAfter). o.number) e ∙ z))
    go (cases.made v o l w e) = ap (λ (o : MeshAfter). length o.bytes) (sym e) ∙ subdivided-length t v

-- "records are the base's records plus 6S"
pub records-from : (t : List ℕ) (cs : List ℤ) (S : ℕ) → GrownFrom t cs S → (b : List ℕ) → GrownFrom b cs 0
    → length (records_of t) ≡ length (records_of b) + 6 * S
records-from _ _ _ (laid t cs z) b B =
    let u = (base_of t cs).bytes in
    let e = records-same u b (base-order t cs z) (from-grown b cs 0 B).order (bases-same b u cs cs (λ p. refl) B (laid t cs z)) in
    omega (arith, e)
records-from _ _ _ (divided t cs S K a b m z) c C =
    let u = (subdivide_of t a b m).bytes in
    let x = records-count t in
    let y = records-count u in
    let l : slots_of u ≡ slots_of t = ap (λ (n : ℕ). slots_in n) (call_length t a b m z) in
    let f = (accepted t a b m z).free in
    let h = records-from t cs S K c C in
    omega (arith, x, y, l, f, h)
records-from _ _ _ (copied t u cs S K o same) b B = records-same t u o (from-grown u cs S K).order same ∙ records-from u cs S K b B

-- ---- the model's side of it
pub record History (R : Sheet) (H : Point → Bool) (S : ℕ) : Type 0 where
  pub steps : List Pt
  pub many : length steps ≡ S
  pub seq : Seq H steps
  pub c : Counts
  pub counts : at c ≡ cnt steps
  pub good : M.Good H c
  pub is : (p : Point) → R p ≡ mesh_of H c p

none_below : 0 < 0 → ⊥
none_below h = omega arith

pub history : (t : List ℕ) (cs : List ℤ) (S : ℕ) → GrownFrom t cs S → History (sheet_of t) (is_listed cs) S
unfolding cnt
history _ _ _ (laid t cs z) =
    record {
      steps = [];
      many = refl;
      seq = nil;
      c = λ _. 0;
      counts = refl;
      good = λ q h. absurd (none_below h);
      is = λ p. base-sheet t cs z p ∙ sym (base-is (is_listed cs) p);
    }
history _ _ _ (copied t u cs S K o same) =
    let h = history u cs S K in
    record { steps = h.steps; many = h.many; seq = h.seq; c = h.c; counts = h.counts; good = h.good; is = λ p. ap as_option (same p) ∙ h.is p }
history _ _ _ (divided t cs S K a b m z) = go (history t cs S K)
  where
    go : History (sheet_of t) (is_listed cs) S → History (sheet_of (subdivide_of t a b m).bytes) (is_listed cs) (S + 1)
    go h =
        let H = is_listed cs in
        let s = accepted t a b m z in
        let v = s.vertex in
        let x : mesh_of H h.c v.at ≡ Some v = sym (h.is v.at) ∙ ap as_option s.held in
        let q : Pt = record { at = v.at; normal = record-normal H h.c v.at v x } in
        let (_, full, e) = six H (at h.c) q v (sym (record_is h.c H q) ∙ x) s.six in
        let level : v.n.0 ≡ rank q + h.c v.at = ap (λ (r : Record). r.n.0) e in
        let (whole, step, better) = grow-step H h.c v h.good x s.six in
        let count : h.c v.at ≡ cnt h.steps q = ap (λ (c : Pt → ℕ). c q) h.counts in
        let below : rank q + cnt h.steps q < 12 = (let w = s.below in omega (arith, level, count, w)) in
        let after = sheet_of (subdivide_of t a b m).bytes in
        record {
          steps = q ∷ h.steps;
          many = (let n = h.many in omega (arith, n));
          seq = next q h.seq (ap (λ (c : Pt → ℕ). full_at H c q (rank q)) (sym h.counts) ∙ full) below;
          c = more v.at h.c;
          counts = more-is q h.c ∙ ap (bump q) h.counts;
          good = better;
          is = step-unique (mesh_of H h.c) v after (mesh_of H (more v.at h.c)) whole
              (subst (λ (R : Sheet). Step R v after) (fun_ext h.is) s.step) step;
        }
