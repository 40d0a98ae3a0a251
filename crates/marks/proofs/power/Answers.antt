-- `marks::power` meets its promise: one test of the eight. Assumes nothing.
use Rattle.std.proofs.Common.{◌*◌, ◌/◌, ◌%◌, ◌^◌}
use Rattle.laws.specs.Rules.{◌≡?◌, rule}
use Rattle.marks.proofs.power.Goals as goal

pub returns : goal.returns
returns c = rule 8 (λ k. 9241421688590303745 / 2 ^ (8 * k) % 256 ≡? 2 ^ k) tt c.args.k c.requires
