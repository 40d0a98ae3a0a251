-- `centres::is_good` meets its promise. Assumes nothing.
use Rattle.std.proofs.Common.{◌≡◌, arith, nat_abs, w32, SFits, to_z-of_z, ◌&&◌}
use Rattle.std.specs.Prelude.{eqb, leb}
use Rattle.centres.proofs.is_good.Goals as goal

pub returns : goal.returns
returns c =
    let p = c.args.p in
    let fa : SFits w32 p.a = record { sfits = omega arith } in
    let fb : SFits w32 p.b = record { sfits = omega arith } in
    let a : c.in_reach.result ≡ leb (nat_abs p.a) 250 = simp (to_z-of_z fa) at c.in_reach.ensures in
    let b : c.in_reach-2.result ≡ leb (nat_abs p.b) 250 = simp (to_z-of_z fb) at c.in_reach-2.ensures in
    λ i. a i && (b i && eqb (c.class.ensures i) 0)
