-- `lattice::patterns::second_opposite` meets its promise: by whether what the table has is the vertex itself. Assumes nothing.
use Rattle.std.proofs.Common.{◌≡◌, sym, subst, arith, pos, w32}
use Rattle.lattice.specs.Patterns.{pattern_of}
use Rattle.lattice.specs.PatternLaws.{Zero, second-close}
use Rattle.lattice.specs.RowLaws.{second_none}
use Rattle.laws.specs.Flags.{bits-eq}
use Rattle.lattice.proofs.patterns.second_opposite.Goals as goal

pub returns-then-p-eq0-2 : goal.returns-then-p-eq0-2
returns-then-p-eq0-2 c =
    let r = c.requires in
    let p = c.farther-p.result in
    let a : p.a ≡ pos 0 = bits-eq w32 (record { sfits = omega arith }) (record { sfits = omega arith }) c.if-p-eq0.true in
    let b : p.b ≡ pos 0 = bits-eq w32 (record { sfits = omega arith }) (record { sfits = omega arith }) c.if-p-eq0-2.true in
    sym (second_none c.args.k (pattern_of c.args.d c.args.j).second (second-close c.args.d c.args.j r.0 r.1.0 r.1.1)
    (subst Zero c.farther-p.ensures (a, b)))
