-- `lattice::records::orientations` meets its promise: degree by degree. Assumes nothing.
use Rattle.std.proofs.Common.{◌≡◌, arith, refl, ℕ, ◌*◌, ◌/◌, ◌%◌, ◌^◌, ◌<◌}
use Rattle.laws.specs.Each.{upto-each}
use Rattle.std.proofs.Common.{eqb-true}
use Rattle.lattice.specs.Records.{orientations_of}
use Rattle.std.specs.Prelude.{eqb}
use Rattle.lattice.proofs.records.orientations.Goals as goal

packed : (d : ℕ) → d < 7 → 46940160 / 2 ^ (4 * d) % 16 ≡ orientations_of d
packed d h = eqb-true _ _ (upto-each (λ d. eqb (46940160 / 2 ^ (4 * d) % 16) (orientations_of d)) 7 d refl h)

pub returns : goal.returns
returns c = packed c.args.d (omega arith)
