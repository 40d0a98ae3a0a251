-- `engine::pairs::scan` meets its promise: pair by pair. Assumes nothing.
use Rattle.std.proofs.Common.{◌≡◌, ap, ◌∙◌, arith, w32, SFits, to_z-of_z}
use Rattle.engine.specs.Scan.{see_of, seen_of}
use Rattle.engine.specs.ScanLaws.{unseen-none, see-more, times-most}
use Rattle.engine.specs.Engine.{pair_level}
use Rattle.engine.specs.declared.pairs.Seen.{Seen}
use Rattle.engine.proofs.pairs.scan.Goals as goal

pub loop-j-init : goal.loop-j-init
loop-j-init c = c.nothing-s.ensures ∙ unseen-none c.args.pairs.now c.args.w

pub see-s-requires : goal.see-s-requires
see-s-requires c =
    let a = c.args in
    let e : c.loop-j.s.times ≡ (seen_of a.pairs.now c.loop-j.j a.w).times = ap (λ (x : Seen). x.times) c.loop-j.invariant in
    omega (arith, times-most a.pairs.now c.loop-j.j a.w, e)

pub loop-j-preserved : goal.loop-j-preserved
loop-j-preserved c =
    let a = c.args in
    let f : SFits w32 (pair_level a.pairs.now c.loop-j.j) = record { sfits = omega arith } in
    c.see-s.ensures
    ∙ (λ k. see_of (c.loop-j.invariant k) a.w (c.pair_point-p.ensures k) (to_z-of_z f k))
    ∙ see-more a.pairs.now c.loop-j.j a.w
