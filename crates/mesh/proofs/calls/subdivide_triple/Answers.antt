-- `mesh::calls::subdivide_triple` meets its promise. Assumes nothing.
use Rattle.std.proofs.Common.{◌≡◌, ◌∙◌, refl, true, false, ◌+◌, ◌*◌, get_or, arith, lt-ltb, le-ltb, rules}
use Rattle.std.specs.Prelude.{ℤ, pos, negsuc}
use Rattle.std.specs.Int.{FitsUnsignedBits}
use Rattle.std.proofs.lemmas.Int.{to_z-of_z}
use mir.Syntax.{w32}
use mir.Val.{SFits}
use Rattle.laws.specs.Triples.{is_byte}
use Rattle.mesh.specs.CaseLaws.{triple-3, triple-one}
use Rattle.mesh.specs.CallLaws.{after-parts}
use Rattle.mesh.proofs.calls.subdivide_triple.Goals as goal

-- the test of a triple's m is the conversion's
byte : (z : ℤ) → FitsUnsignedBits 8 z → is_byte z ≡ true
byte (pos n) h = lt-ltb n 256 h
byte (negsuc n) h = absurd h

no_byte : (z : ℤ) → (FitsUnsignedBits 8 z → ⊥) → is_byte z ≡ false
no_byte (pos n) h = le-ltb n 256 (omega (arith, h))
no_byte (negsuc n) h = refl

pub returns-in_default : goal.returns-in_default
returns-in_default c =
    let s = c.args in
    let m = get_or s.points.now (3 * s.i + 2) (pos 0) in
    let r : SFits w32 m = search rules in
    let p = after-parts (triple-3 s.t.now s.points.now s.i (no_byte m (rw to_z-of_z at c.in_default.ensures))) in
    record { value = p.0; t_after = p.1 }

pub returns : goal.returns
returns c =
    let s = c.args in
    let a = get_or s.points.now (3 * s.i) (pos 0) in
    let b = get_or s.points.now (3 * s.i + 1) (pos 0) in
    let m = get_or s.points.now (3 * s.i + 2) (pos 0) in
    let fa : SFits w32 a = search rules in
    let fb : SFits w32 b = search rules in
    let fm : SFits w32 m = search rules in
    let p = after-parts (triple-one s.t.now s.points.now s.i (byte m (rw to_z-of_z at c.in-Ok.ensures.0))) in
    record {
      value = simp (c.in-Ok.ensures.1, to_z-of_z) at c.subdivide_ordered.ensures.value ∙ p.0;
      t_after = simp (c.in-Ok.ensures.1, to_z-of_z) at c.subdivide_ordered.ensures.t_after ∙ p.1;
    }
