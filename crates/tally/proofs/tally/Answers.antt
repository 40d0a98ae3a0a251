-- `tally::tally` meets its promise: the records by degree, and the rest by the laws of a grown table's tally. Assumes nothing.
use Rattle.std.proofs.Common.{◌≡◌, ◌≤◌, List, ℕ, ◌+◌, ◌*◌, ◌-◌, sym, ◌∙◌, arith}
use Rattle.mesh.specs.Grown.{Grown}
use Rattle.counts.specs.Counts.{numbers, counts_of}
use Rattle.counts.specs.Counted.{degrees_of}
use Rattle.counts.specs.declared.degrees.Degrees.{Degrees}
use Rattle.counts.specs.DegreeLaws.{of_any_degree, degrees-vertices, degrees-few, degrees-counts}
use Rattle.together.specs.Tally.{hexagons_in, ground_in, pairs_in}
use Rattle.together.specs.Tallied.{tally, faces-tally, edges-tally}
use Rattle.tally.specs.declared.Sums.{Sums}
use Rattle.tally.proofs.tally.Goals as goal

-- the slots added up, and the degrees counted
module _ (t : List ℕ) (g : Grown t) (s : Sums) (d : Degrees) (e : d ≡ degrees_of t) where
  module _ (hexagons : s.hexagons ≡ hexagons_in t) (ground : s.ground ≡ ground_in t) (pairs : s.pairs ≡ pairs_in t) where
    vertices : of_any_degree d ≡ (counts_of t).vertices
    vertices = degrees-vertices t g.order d e

    -- the vertices of depth 0 are among all, and the sides shared among all sides
    enough : (s.ground ≤ of_any_degree d) × (s.pairs ≤ 9 * s.hexagons + 2 * (of_any_degree d - s.ground))
    enough =
        let (S, T) = tally t g in
        let v = vertices ∙ T.vertices in
        let e = T.edges in
        (omega (arith, v, ground), omega (arith, v, e, ground, pairs, hexagons))

    told : numbers (of_any_degree d) (9 * s.hexagons + 2 * (of_any_degree d - s.ground) - s.pairs) (3 * s.hexagons + (of_any_degree d - s.ground)) d.d0 d.d3 d.d4
        d.d5 d.d6 ≡ counts_of t
    told =
        degrees-counts t g.order d e _ _ ((λ i. 9 * hexagons i + 2 * (vertices i - ground i) - pairs i) ∙ sym (edges-tally t g))
        ((λ i. 3 * hexagons i + (vertices i - ground i)) ∙ sym (faces-tally t g))

pub overflow_add-vertices : goal.overflow_add-vertices
overflow_add-vertices c =
    record { fits = omega (arith, degrees-few c.args.t.now c.requires.0.order c.count_degrees-degrees.result c.count_degrees-degrees.ensures) }

pub overflow_add-vertices-2 : goal.overflow_add-vertices-2
overflow_add-vertices-2 c =
    record { fits = omega (arith, degrees-few c.args.t.now c.requires.0.order c.count_degrees-degrees.result c.count_degrees-degrees.ensures) }

pub overflow_add-vertices-3 : goal.overflow_add-vertices-3
overflow_add-vertices-3 c =
    record { fits = omega (arith, degrees-few c.args.t.now c.requires.0.order c.count_degrees-degrees.result c.count_degrees-degrees.ensures) }

pub overflow_add-vertices-4 : goal.overflow_add-vertices-4
overflow_add-vertices-4 c =
    record { fits = omega (arith, degrees-few c.args.t.now c.requires.0.order c.count_degrees-degrees.result c.count_degrees-degrees.ensures) }

pub overflow_sub-added : goal.overflow_sub-added
overflow_sub-added c =
    (enough c.args.t.now c.requires.0 c.summed-s.result c.count_degrees-degrees.result c.count_degrees-degrees.ensures
    c.summed-s.ensures.hexagons_value.0 c.summed-s.ensures.ground_value c.summed-s.ensures.pairs_value).0

pub overflow_mul-result-2 : goal.overflow_mul-result-2
overflow_mul-result-2 c =
    record { fits = omega (arith, degrees-few c.args.t.now c.requires.0.order c.count_degrees-degrees.result c.count_degrees-degrees.ensures) }

pub overflow_add-result : goal.overflow_add-result
overflow_add-result c =
    record { fits = omega (arith, degrees-few c.args.t.now c.requires.0.order c.count_degrees-degrees.result c.count_degrees-degrees.ensures, c.requires.0.order.fits.most) }

pub overflow_sub-result : goal.overflow_sub-result
overflow_sub-result c =
    (enough c.args.t.now c.requires.0 c.summed-s.result c.count_degrees-degrees.result c.count_degrees-degrees.ensures
    c.summed-s.ensures.hexagons_value.0 c.summed-s.ensures.ground_value c.summed-s.ensures.pairs_value).1

pub overflow_add-result-2 : goal.overflow_add-result-2
overflow_add-result-2 c =
    record { fits = omega (arith, degrees-few c.args.t.now c.requires.0.order c.count_degrees-degrees.result c.count_degrees-degrees.ensures, c.requires.0.order.fits.most) }

pub returns : goal.returns
returns c =
    told c.args.t.now c.requires.0 c.summed-s.result c.count_degrees-degrees.result c.count_degrees-degrees.ensures
    c.summed-s.ensures.hexagons_value.0 c.summed-s.ensures.ground_value c.summed-s.ensures.pairs_value
