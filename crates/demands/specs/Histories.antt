-- Document 02, ticket 8: "After S subdivisions of H hexagons". A table goes on with its history (`GrownFrom`) through each call that subdivides: `divided` is
-- one subdivision, `all_from` a list of them, `run-from` any sequence, as the one that brings a vertex to degree 6 (`Finish` in Bring).
-- `neighbours-all-untorn`, `faces-all-untorn` "no query answers 7", of many points.
-- Assumes nothing.
use Rattle.std.specs.Prelude.{◌≡◌, ◌≢◌, true, false, List, [], ◌∷◌, eqb, pos, nat_abs, length}
use Rattle.std.proofs.Math.Path.{refl}
use Rattle.std.proofs.Common.{sym, ◌∙◌, ap, subst, arith, eqb-true}
use Rattle.std.proofs.Math.Bool.{Bool}
use Prim.Native.Nat.{ℕ, zero, suc, ◌+◌, ◌*◌}
use Rattle.std.proofs.Math.IntN.{ℤ}
use Rattle.std.proofs.Math.ListN.{get_or}
use Rattle.laws.specs.Choices.{unless}
use Rattle.laws.specs.Triples.{triples_in, is_byte}
use Rattle.lattice.specs.Stars.{refused}
use Rattle.lattice.specs.declared.stars.Answer.{Answer}
use Rattle.table.specs.Order.{in_order_of}
use Rattle.mesh.specs.Grown.{Grown}
use Rattle.mesh.specs.Subdivide.{MeshAfter, mesh_after, Many, subdivide_of, subdivide_triple, subdivide_from, subdivide_all_of}
use Rattle.queries.specs.Queries.{neighbours_of, faces_of}
use Rattle.queries.specs.Many.{triple_of}
use Rattle.grown.specs.Untorn.{neighbours-untorn}
use Rattle.everywhere.specs.Runs.{Division, Run, here, next}
use Rattle.together.specs.Together.{faces-untorn}
use Rattle.together.specs.GrownFrom.{GrownFrom, divided}

-- a history that goes on from S by so many as were made from triple i on
record Goes (cs : List ℤ) (S i : ℕ) (o : Many) : Type 0 where
  pub sum : ℕ
  pub from : GrownFrom o.bytes cs sum
  pub counted : sum + i ≡ S + o.done

module _ (cs ps : List ℤ) where
  triple-from : (t : List ℕ) (S i : ℕ) → GrownFrom t cs S → (subdivide_triple t ps i).number ≡ 0 → GrownFrom (subdivide_triple t ps i).bytes cs (S + 1)
  unfolding subdivide_triple
  triple-from t S i K = go (is_byte (get_or ps (3 * i + 2) (pos 0)))
    where
      a : ℤ
      a = get_or ps (3 * i) (pos 0)

      b : ℤ
      b = get_or ps (3 * i + 1) (pos 0)

      m : ℕ
      m = nat_abs (get_or ps (3 * i + 2) (pos 0))

      go : (c : Bool) → (unless c (mesh_after 3 t) (subdivide_of t a b m)).number ≡ 0
          → GrownFrom (unless c (mesh_after 3 t) (subdivide_of t a b m)).bytes cs (S + 1)
      go true z = divided t cs S K a b m z
      go false z = absurd (omega arith)

  goes : (left : ℕ) (t : List ℕ) (S i : ℕ) → GrownFrom t cs S → Goes cs S i (subdivide_from t ps i left)
  unfolding subdivide_from
  goes zero t S i K = record { sum = S; from = K; counted = refl }
  goes (suc left) t S i K = go (eqb o.number 0) refl (λ z. goes left o.bytes (S + 1) (i + 1) (triple-from t S i K z))
    where
      o : MeshAfter
      o = subdivide_triple t ps i

      stopped : Many
      stopped = record { number = o.number; done = i; bytes = t }

      go : (c : Bool) → eqb o.number 0 ≡ c → (o.number ≡ 0 → Goes cs (S + 1) (i + 1) (subdivide_from o.bytes ps (i + 1) left))
          → Goes cs S i (unless c stopped (subdivide_from o.bytes ps (i + 1) left))
      go true e r = let h = r (eqb-true o.number 0 e) in let c = h.counted in record { sum = h.sum; from = h.from; counted = omega (arith, c) }
      go false e r = record { sum = S; from = K; counted = refl }

  pub all_from : (t : List ℕ) (S : ℕ) → GrownFrom t cs S → GrownFrom (subdivide_all_of t ps).bytes cs (S + (subdivide_all_of t ps).done)
  unfolding subdivide_all_of
  all_from t S K = go (in_order_of t)
    where
      after : Bool → Many
      after c = unless c (record { number = 1; done = 0; bytes = t }) (subdivide_from t ps 0 (triples_in ps))

      go : (c : Bool) → GrownFrom (after c).bytes cs (S + (after c).done)
      go true =
          let h = goes (triples_in ps) t S 0 K in
          let c = h.counted in
          let e : h.sum ≡ S + (subdivide_from t ps 0 (triples_in ps)).done = omega (arith, c) in
          subst (GrownFrom (subdivide_from t ps 0 (triples_in ps)).bytes cs) e h.from
      go false = let e : S ≡ S + 0 = omega arith in subst (GrownFrom t cs) e K

  pub run-from : (t u : List ℕ) (S : ℕ) (l : List Division) → GrownFrom t cs S → Run t l u → GrownFrom u cs (S + length l)
  run-from t _ S _ K here = let e : S ≡ S + 0 = omega arith in subst (GrownFrom t cs) e K
  run-from t _ S _ K (next l s r v h z) =
      let e : S + length l + 1 ≡ S + suc (length l) = omega arith in
      subst (GrownFrom (subdivide_of s v.at.a v.at.b v.at.m.0).bytes cs) e
      (divided s cs (S + length l) (run-from t s S l K r) v.at.a v.at.b v.at.m.0 z)

-- ---- many points
seven-not : (c : Bool) (x : Answer) → x.number ≢ 7 → (unless c (refused 3) x).number ≢ 7
seven-not true x h = h
seven-not false x h = λ e. omega arith

module _ (t : List ℕ) (g : Grown t) (ps : List ℤ) (i : ℕ) where
  pub neighbours-all-untorn : (triple_of (neighbours_of t) ps i).number ≢ 7
  unfolding triple_of
  neighbours-all-untorn = seven-not (is_byte (get_or ps (3 * i + 2) (pos 0))) _ (neighbours-untorn t g _ _ _)

  pub faces-all-untorn : (triple_of (faces_of t) ps i).number ≢ 7
  unfolding triple_of
  faces-all-untorn = seven-not (is_byte (get_or ps (3 * i + 2) (pos 0))) _ (faces-untorn t g _ _ _)
