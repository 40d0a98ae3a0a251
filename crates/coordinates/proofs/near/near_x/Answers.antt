-- `coordinates::near::near_x` meets its promise. Assumes nothing.
use Rattle.std.proofs.Common.{ap, ℕ, ◌+◌, ◌*◌, ◌/◌}
use Rattle.coordinates.specs.Coordinates.{near_x}
use Rattle.coordinates.proofs.near.near_x.Goals as goal

pub returns : goal.returns
unfolding near_x
returns c = ap (λ (p : ℕ). (10000 * c.args.s + p) / (2 * p)) c.power-p.ensures.0
