-- Where records may be: `in_ranges` is true of the points of valid records (`valid-inside`), and such points fit their bytes (`inside-fits`).
-- Assumes nothing.
use Rattle.std.specs.Prelude.{◌≡◌, Bool, true, ◌&&◌, ◌*◌, ◌^◌, ◌≤◌, leb, nat_abs}
use Rattle.std.proofs.Common.{leb-true, SFits}
use Rattle.std.specs.Int.{w32}
use Rattle.laws.specs.Each.{both_left, both_right}
use Rattle.lattice.specs.Points.{normal_at}
use Rattle.lattice.specs.Records.{within, suits_of, valid_of}
use Rattle.lattice.specs.Bounds.{Small, small-range, small-a, small_b}
use Rattle.lattice.specs.declared.points.Point.{Point}
use Rattle.lattice.specs.declared.records.Record.{Record}

-- "one outside a record's ranges": normalised, "m is 0..6, |a| and |b| are at most 251 × 3^m"
abbrev pub in_ranges : Point → Bool
in_ranges p = normal_at p.a p.b p.m.0 && (leb p.m.0 6 && (within p.a p.m.0 && within p.b p.m.0))

four : (s t u v w : Bool) → s && (t && (u && (v && w))) ≡ true → s && (t && (u && v)) ≡ true
four s t u v w h =
    let h1 = both_right s (t && (u && (v && w))) h in
    let h2 = both_right t (u && (v && w)) h1 in
    let h3 = both_right u (v && w) h2 in
    rw (both_left s (t && (u && (v && w))) h, both_left t (u && (v && w)) h1, both_left u (v && w) h2, both_left v w h3)

pub valid-inside : (r : Record) → valid_of r ≡ true → in_ranges r.at ≡ true
valid-inside r h =
    four (normal_at r.at.a r.at.b r.at.m.0) (leb r.at.m.0 6)
    (within r.at.a r.at.m.0) (within r.at.b r.at.m.0) (suits_of r.d r.k r.n.0) h

-- a point whose numbers fit their bytes, and whose depth is not 255
pub record Writes (p : Point) : Type 0 where
  pub depth : p.m.0 ≤ 6
  pub a-fits : SFits w32 p.a
  pub b-fits : SFits w32 p.b

pub inside-fits : (p : Point) → in_ranges p ≡ true → Writes p
inside-fits p h = record { depth = deep; a-fits = small-a p small; b-fits = small_b p small }
  where
    h1 : leb p.m.0 6 && (within p.a p.m.0 && within p.b p.m.0) ≡ true
    h1 = both_right (normal_at p.a p.b p.m.0) (leb p.m.0 6 && (within p.a p.m.0 && within p.b p.m.0)) h

    h2 : within p.a p.m.0 && within p.b p.m.0 ≡ true
    h2 = both_right (leb p.m.0 6) (within p.a p.m.0 && within p.b p.m.0) h1

    deep : p.m.0 ≤ 6
    deep = leb-true p.m.0 6 (both_left (leb p.m.0 6) (within p.a p.m.0 && within p.b p.m.0) h1)

    small : Small p
    small =
        small-range p deep
        (leb-true (nat_abs p.a) (251 * 3 ^ p.m.0) (both_left (within p.a p.m.0) (within p.b p.m.0) h2))
        (leb-true (nat_abs p.b) (251 * 3 ^ p.m.0) (both_right (within p.a p.m.0) (within p.b p.m.0) h2))
