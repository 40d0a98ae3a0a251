-- `coordinates::near::near_y` meets its promise. Assumes nothing.
use Rattle.std.proofs.Common.{◌≡◌, ap, subst, ℕ, ◌+◌, ◌*◌, ◌/◌, ◌^◌, ◌≤◌}
use Rattle.text.specs.Near.{widest}
use Rattle.coordinates.specs.Coordinates.{near_y, root_of}
use Rattle.coordinates.specs.RootLaws.{Root, root_is, root-one}
use Rattle.coordinates.specs.NearLaws.{quotient-small}
use Rattle.coordinates.proofs.near.near_y.Goals as goal

is : (b m p w : ℕ) → b ≤ widest → p ≡ 3 ^ m → Root (300000000 * (b * b) / (p * p)) w → (w + 1) / 2 ≡ near_y b m
unfolding near_y
is b m p w h e r =
    let q = 300000000 * (b * b) / (3 ^ m * 3 ^ m) in
    ap (λ (x : ℕ). (x + 1) / 2)
    (root-one q w (root_of q) (subst (λ (x : ℕ). Root (300000000 * (b * b) / (x * x)) w) e r) (root_is q (quotient-small b m h)))

pub returns : goal.returns
returns c =
    let e = c.root_near-w.ensures in
    is c.args.b c.args.m c.power-p.result c.root_near-w.result c.requires.0 c.power-p.ensures.0 (e.0, e.1.0)
