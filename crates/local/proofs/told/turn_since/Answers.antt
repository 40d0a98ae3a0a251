-- `local::turn_since` meets its promise: number by number. Assumes nothing.
use Rattle.std.proofs.Common.{◌≡◌, ◌≤◌, ◌<◌, ℕ, ◌*◌, ◌/◌, ◌%◌, ◌^◌, get_or, arith}
use Rattle.laws.specs.Rules.{◌≤?◌, ◌≡?◌, ◌&◌, rule}
use Rattle.local.specs.Parents.{turns}
use Rattle.local.proofs.told.turn_since.Goals as goal

packed : (i : ℕ) → i ≤ 7 → (4229184 / 2 ^ (4 * i) % 16 ≡ get_or turns i 0) × (4229184 / 2 ^ (4 * i) % 16 ≤ 8)
packed i h =
    let l : i < 8 = omega arith in
    rule 8 (λ i. 4229184 / 2 ^ (4 * i) % 16 ≡? get_or turns i 0 & 4229184 / 2 ^ (4 * i) % 16 ≤? 8) tt i l

pub returns : goal.returns
returns c = packed c.args.i c.requires
