-- Demand 2: "One point has one written form", however a request spells it.
-- `one_form`, `form-one` two spellings normalise alike exactly where they are one point · `form-normal` the form is normalised ·
-- `subdivide-spelling`, `neighbours-spelling`, `faces-spelling` so no call tells them apart. Requests in a row, tables, files: Forms.
-- Assumes nothing.
use Rattle.std.specs.Prelude.{◌≡◌, List, ℕ, ◌-◌, ℤ}
use Rattle.std.proofs.Math.Path.{ap}
use Rattle.std.proofs.Math.Bool.{cond}
use Rattle.lattice.specs.Points.{normal_of}
use Rattle.lattice.specs.declared.points.Point.{Point}
use Rattle.table.specs.Entries.{look_up}
use Rattle.mesh.specs.Subdivide.{subdivide_of, subdivide_looked}
use Rattle.mesh.specs.Subdivide as divided
use Rattle.bring.specs.Bring.{bring_looked, request_of, bring_after, cleared, bring_to_six}
use Rattle.table.specs.Slots.{lengths_fit}
use Rattle.table.specs.Order.{in_order_of}
pub use Rattle.geometry.specs.Forms.{OnePoint, one_form, form-one, form-normal}
pub use Rattle.queries.specs.QueryLaws.{neighbours-spelling, faces-spelling}

module _ (a b : ℤ) (m : ℕ) (a' b' : ℤ) (m' : ℕ) where
  pub subdivide-spelling : (t : List ℕ) → normal_of a b m ≡ normal_of a' b' m' → subdivide_of t a b m ≡ subdivide_of t a' b' m'
  unfolding subdivide_of
  subdivide-spelling t e = ap (λ (p : Point). cond (in_order_of t) (subdivide_looked t (look_up t p)) (divided.mesh_after 1 t)) e

  pub bring-spelling : (t s : List ℕ) → normal_of a b m ≡ normal_of a' b' m' → bring_to_six t s a b m ≡ bring_to_six t s a' b' m'
  unfolding bring_to_six request_of
  bring-spelling t s e =
      ap (λ (p : Point). cond (lengths_fit t s) (cleared (cond (in_order_of t) (bring_looked t (look_up t p)) (divided.mesh_after 1 t)) s) (bring_after 1 t s)) e
