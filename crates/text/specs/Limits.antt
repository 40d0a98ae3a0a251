-- Document 02, ticket 1: "a and b within 1,000,000 either way, m 0 to 12"; ticket 12: "any |a|, |b| up to 1,000,000 and m up to 12 may be normalised".
-- `in_limits` a point as it is written, before it is normalised.
-- Assumes nothing.
use Rattle.std.specs.Prelude.{Bool, ◌&&◌, ℕ, leb, nat_abs}
use Rattle.lattice.specs.declared.points.Point.{Point}

abbrev pub farthest : ℕ
farthest = 1000000

abbrev pub deepest : ℕ
deepest = 12

abbrev pub in_limits : Point → Bool
in_limits p = leb (nat_abs p.a) farthest && (leb (nat_abs p.b) farthest && leb p.m.0 deepest)
