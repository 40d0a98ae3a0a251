-- What a census counts of a table grown from a base of the list cs by S subdivisions: `records-fit`, `faces-fit`, `edges_fit`;
-- `edges_by` the same by any list of the base's labels.
-- Faces are as many as starts, edges as labels; each subdivision adds six and twelve (Added).
-- Assumes nothing.
use Rattle.std.specs.Prelude.{◌≡◌, refl, ℕ, ◌+◌, ◌*◌, ℤ, length}
use Rattle.std.proofs.Common.{sym, ◌∙◌, ap, arith}
use mathlib.Core.List.{List, []}
use Rattle.growth.specs.Normal.{Pt}
use Rattle.growth.specs.Closed.{rec}
use Rattle.growth.specs.Order.{cnt, nil}
use Rattle.growth.specs.Link.{record_is}
use Rattle.growth.specs.GrownLaws.{base-is}
use Rattle.base.specs.Base.{centres_in, is_listed}
use Rattle.local.specs.Sheet.{sheet_of}
use Rattle.counts.specs.Counts.{counts_of}
use Rattle.together.specs.Corners.{Mesh}
use Rattle.together.specs.Faces.{Drawn}
use Rattle.together.specs.Inventory.{Inventory, up_to, upto-length}
use Rattle.together.specs.Added.{seq_mesh, seq-low, inventory-grown}
use Rattle.together.specs.Starts.{StartIn, faces-starts, new_starts, starts-size, starts-add}
use Rattle.together.specs.Edges.{Label, Edge, edges-labels, edge-inventory, new_labels, labels-size, edges-add}
use Rattle.together.specs.GrownFrom.{GrownFrom, from-grown, list-from, sheet-from, records-from, History, history}
use Rattle.together.specs.BaseStarts.{base_cell, base-starts}

-- a table that holds the base is drawn of it
base-drawn : (b : List ℕ) (cs : List ℤ) → GrownFrom b cs 0 → Drawn b (seq_mesh (is_listed cs) [] nil)
unfolding cnt
base-drawn b cs B =
    record {
      order = (from-grown b cs 0 B).order;
      is = λ q. sheet-from b cs 0 refl B q.at ∙ sym (base-is (is_listed cs) q.at) ∙ record_is (λ _. 0) (is_listed cs) q;
    }

-- ---- what a census counts of a table grown from a base of the list cs by S subdivisions
module _ (t : List ℕ) (cs : List ℤ) (S : ℕ) (K : GrownFrom t cs S) where
  h : History (sheet_of t) (is_listed cs) S
  h = history t cs S K

  abbrev N : Mesh
  N = seq_mesh (is_listed cs) h.steps h.seq

  drawn : Drawn t N
  drawn =
      record {
        order = (from-grown t cs S K).order;
        is = λ q. h.is q.at ∙ record_is h.c (is_listed cs) q ∙ ap (λ (c : Pt → ℕ). rec (is_listed cs) c q) h.counts;
      }

  -- "records are the base's records plus 6S"
  pub records-fit : (b : List ℕ) → GrownFrom b cs 0 → (counts_of t).vertices ≡ (counts_of b).vertices + 6 * S
  unfolding counts_of
  records-fit b B = records-from t cs S K b B

  -- "faces are 3H + 6S"
  pub faces-fit : (counts_of t).faces ≡ 3 * centres_in cs + 6 * S
  unfolding counts_of
  faces-fit =
      let g = list-from t cs S K in
      let b = upto-length (base_cell cs g) (3 * centres_in cs) in
      let (ss, L, e) = inventory-grown StartIn new_starts 6 starts-size starts-add (is_listed cs) (up_to (base_cell cs g) (3 * centres_in cs)) (base-starts cs g)
      h.steps h.seq in
      let z = faces-starts t N drawn (seq-low (is_listed cs) h.steps h.seq) ss L in
      let n = h.many in
      omega (arith, b, e, z, n)

  -- where the base's labels are listed, twelve more for each subdivision
  pub edges_by : (ls : List Label) → Inventory (Edge (seq_mesh (is_listed cs) [] nil)) ls → (counts_of t).edges ≡ length ls + 12 * S
  unfolding counts_of
  edges_by ls L =
      let (ms, I, e) = inventory-grown Edge new_labels 12 labels-size edges-add (is_listed cs) ls L h.steps h.seq in
      let z = edges-labels t N drawn ms I in
      let n = h.many in
      omega (arith, e, z, n)

  -- "and edges .. are the base's edges plus 12S"
  pub edges_fit : (b : List ℕ) → GrownFrom b cs 0 → (counts_of t).edges ≡ (counts_of b).edges + 12 * S
  unfolding counts_of
  edges_fit b B =
      let D = base-drawn b cs B in
      let (ls, L) = edge-inventory b (seq_mesh (is_listed cs) [] nil) D in
      let x = edges-labels b (seq_mesh (is_listed cs) [] nil) D ls L in
      let z = edges_by ls L in
      omega (arith, x, z)
