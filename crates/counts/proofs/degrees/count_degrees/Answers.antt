-- `counts::count_degrees` meets its promise: slot by slot. Assumes nothing.
use Rattle.std.proofs.Common.{◌≡◌, ℕ, ◌+◌, ◌<◌, eqb, ap, sym, ◌∙◌, arith, lit<}
use Rattle.std.specs.Int.{from_bool}
use Rattle.table.specs.MapLaws.{table-slots}
use Rattle.firsts.specs.Earlier.{sum_below}
use Rattle.counts.specs.Counts.{degree_in}
use Rattle.counts.specs.Counted.{no_degree, slot_degree, degrees}
use Rattle.counts.specs.DegreeLaws.{degree-counted}
use Rattle.counts.specs.CaseLaws.{Summed, summed-start, summed-more, degree-counts, bit-from, from-most}
use Rattle.counts.proofs.degrees.count_degrees.Goals as goal

pub loop-k-init : goal.loop-k-init
loop-k-init c =
    let start : (d : ℕ) → Summed (slot_degree c.args.t.now d) 1 0 0 = λ d. summed-start (slot_degree c.args.t.now d) 1 in
    record { none = start 0; three = start 3; four = start 4; five = start 5; six = start 6 }

pub overflow_add-d0 : goal.overflow_add-d0
overflow_add-d0 c = record { fits = omega (arith, c.from-d0.ensures, from-most) }

pub overflow_add-d3 : goal.overflow_add-d3
overflow_add-d3 c = record { fits = omega (arith, c.from-d3.ensures, from-most) }

pub overflow_add-d4 : goal.overflow_add-d4
overflow_add-d4 c = record { fits = omega (arith, c.from-d4.ensures, from-most) }

pub overflow_add-d5 : goal.overflow_add-d5
overflow_add-d5 c = record { fits = omega (arith, c.from-d5.ensures, from-most) }

pub overflow_add-d6 : goal.overflow_add-d6
overflow_add-d6 c = record { fits = omega (arith, c.from-d6.ensures, from-most) }

pub loop-k-preserved : goal.loop-k-preserved
loop-k-preserved c =
    let t = c.args.t.now in
    let k = c.loop-k.k in
    let d = c.degree_in-d.result in
    let v = c.loop-k.invariant in
    let more : (e sum r : ℕ) → Summed (slot_degree t e) 1 k sum → r ≡ from_bool (eqb d e) → Summed (slot_degree t e) 1 (k + 1) (sum + r) =
    λ e sum r x h. summed-more (slot_degree t e) 1 k sum r x
    (degree-counts t k d e r c.degree_in-d.ensures (h ∙ bit-from (eqb d e))) (omega (arith, h, from-most)) in
    record {
      none = more 0 c.loop-k.d0 _ v.none c.from-d0.ensures;
      three = more 3 c.loop-k.d3 _ v.three c.from-d3.ensures;
      four = more 4 c.loop-k.d4 _ v.four c.from-d4.ensures;
      five = more 5 c.loop-k.d5 _ v.five c.from-d5.ensures;
      six = more 6 c.loop-k.d6 _ v.six c.from-d6.ensures;
    }

pub returns : goal.returns
returns c =
    let t = c.args.t.now in
    let v = c.loop-k.invariant in
    let e : c.loop-k.k ≡ c.args.n = omega arith in
    let whole : (d sum : ℕ) → d < no_degree → Summed (slot_degree t d) 1 c.loop-k.k sum → sum ≡ degree_in d t =
    λ d sum h x. x.is ∙ ap (sum_below (slot_degree t d)) (e ∙ sym (table-slots t c.args.n c.requires)) ∙ degree-counted t d h in
    λ i.
    degrees (whole 0 c.loop-k.d0 (lit< tt) v.none i) (whole 3 c.loop-k.d3 (lit< tt) v.three i) (whole 4 c.loop-k.d4 (lit< tt) v.four i)
    (whole 5 c.loop-k.d5 (lit< tt) v.five i) (whole 6 c.loop-k.d6 (lit< tt) v.six i)
