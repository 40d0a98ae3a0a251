-- `table::home` meets its promise: the remainder of the weight, either way. Assumes nothing.
use Rattle.std.proofs.Common.{◌≡◌, ℕ, ◌<◌, ap, sym, subst, ◌∙◌, ℤ, SFits, to_z, of_z}
use Rattle.std.specs.Int.{w32, w64}
use Rattle.std.proofs.lemmas.Int.{to_z-of_z}
use borrow.Author.Rules.{rules}
use Rattle.lattice.specs.declared.points.Point.{Point}
use Rattle.laws.specs.Machine.{asked₂}
use Rattle.laws.specs.Residue.{mod_z}
use Rattle.table.specs.Search.{weight_of, home_of}
use Rattle.table.proofs.home.home.Goals as goal

-- the weight as the machine hands it on
weighed : (p : Point) (s : ℤ) → SFits w32 p.a → SFits w32 p.b → SFits w64 s → s ≡ weight_of (to_z w32 (of_z w32 p.a)) (to_z w32 (of_z w32 p.b)) p.m.0
    → to_z w64 (of_z w64 s) ≡ weight_of p.a p.b p.m.0
weighed p s fa fb fs e = to_z-of_z w64 s fs ∙ sym (asked₂ (λ x y. weight_of x y p.m.0) fa fb e)

pub returns-then-n-eq-MOST : goal.returns-then-n-eq-MOST
unfolding home_of
returns-then-n-eq-MOST c =
    let p = c.args.p in
    let n = sym c.if-n-eq-MOST.true in
    let w = weighed p c.weight-s.result (search rules) (search rules) (record { sfits = c.weight-s.type_inv }) c.weight-s.ensures in
    (c.low.ensures.0 ∙ ap (λ (z : ℤ). mod_z z 65536) w ∙ ap (mod_z (weight_of p.a p.b p.m.0)) n, subst (λ (k : ℕ). c.low.result < k) n c.low.ensures.1)

pub returns : goal.returns
unfolding home_of
returns c =
    let w = weighed c.args.p c.weight-s.result (search rules) (search rules) (record { sfits = c.weight-s.type_inv }) c.weight-s.ensures in
    (c.remainder.ensures.0 ∙ ap (λ (z : ℤ). mod_z z c.args.n) w, c.remainder.ensures.1)
