-- On a grown table every corner is plain: `plain-grown`. Its points are in the table, and every vertex with a star in its face names the face.
-- Assumes nothing.
use Rattle.std.specs.Prelude.{◌≡◌, refl, ◌≢◌, Bool, true, false, not, ◌&&◌, ◌||◌, List, ℕ, ◌<◌, Option, Some, None}
use Rattle.std.proofs.Common.{sym, ◌∙◌, arith}
use Rattle.std.proofs.Math.Path.{ap}
use Rattle.std.proofs.Math.Bool.{or-true}
use borrow.Author.Tests.{ltb-true}
use Rattle.std.proofs.Math.Dec.{ltb}
use Rattle.laws.specs.Each.{each-upto}
use Rattle.lattice.specs.Stars.{adjacent_at}
use Rattle.lattice.specs.declared.points.Point.{Point}
use Rattle.lattice.specs.declared.records.Record.{Record}
use Rattle.growth.specs.Growth.{grown-neighbours}
use Rattle.table.specs.Slots.{slots_of, slot_at}
use Rattle.table.specs.Entries.{look_up, is_held, holds}
use Rattle.table.specs.MapLaws.{slot-looked}
use Rattle.mesh.specs.Grown.{Grown}
use Rattle.queries.specs.Queries.{chosen_at}
use Rattle.local.specs.Sheet.{as_option, sheet_of}
use Rattle.grown.specs.Steps.{sheet-held}
use Rattle.grown.specs.Tables.{grown-sheet}
use Rattle.firsts.specs.Faces.{turned}
use Rattle.firsts.specs.Earlier.{slot_in, inner_in, inners_before, names_face, face_in, face_seen, face_before, face_on}
use Rattle.firsts.specs.Earlier.{plain_with, plain_at, plain_in, plain_slot, plain_of}
use Rattle.firsts.specs.EarlierLaws.{passes-too, earlier-yes, yes-earlier}
use Rattle.firsts.specs.CaseLaws.{before-second, before-third}
use Rattle.firsts.specs.FaceLaws.{Makes, makes-names, SameRound, once, twice, thrice}
use Rattle.firsts.specs.declared.faces.Face.{Face}
use Rattle.together.specs.Together.{face-everywhere, corner-faced}

module _ (t : List ℕ) (g : Grown t) (k : ℕ) (l : k < slots_of t) where
  -- a vertex with a star that stands earlier in a face of v names it
  names-too : (v : Record) → look_up t v.at ≡ Some v → v.d ≢ 0 → (f : Face) → Makes t v f → (h : Face) → SameRound f h
      → inner_in t k (slot_in t h.at) ≡ true → face_seen t k h ≡ true
  unfolding inner_in face_in
  names-too v e n f m h r i =
      let (x, p) = yes-earlier t g.order k (omega arith) (λ u. ltb 0 u.d) h.at i in
      let u = x.rec in
      let held : look_up t h.at ≡ Some u = ap (look_up t) (sym p) ∙ slot-looked t g.order x.slot u (omega (arith, x.below)) x.holds in
      let star = ltb-true 0 u.d x.passes in
      let w = face-everywhere t g v e n f m h r u held (λ z. omega (arith, star, z)) in
      earlier-yes t g.order k (omega arith) (names_face t h) h.at (passes-too x (names_face t h) (makes-names t u h w)) p

  corner-plain : (v : Record) → slot_at t k ≡ Some v → (j : ℕ) → j < v.d → plain_at t k v j ≡ true
  unfolding plain_at
  corner-plain v here j h =
      let (_, m, c) = corner-faced t g v own inner j h in
      let chosen = ap (chosen_at t v) (sym c) ∙ m.chosen in
      ap (plain_with t k v j) chosen ∙ (λ i. there i && named m.opposite chosen i)
    where
      own : look_up t v.at ≡ Some v
      own = slot-looked t g.order k v l here

      inner : v.d ≢ 0
      inner z = omega arith

      there : holds t (adjacent_at v j) ≡ true
      there =
          let (u, x) = grown-neighbours (sheet_of t) (grown-sheet t g) v (ap as_option own) inner j h in
          ap is_held (sheet-held (look_up t (adjacent_at v j)) u x)

      named : (o : Point) → chosen_at t v j ≡ Some o → not (inners_before t k (face_on v j o)) || face_before t k (face_on v j o) ≡ true
      named o e =
          go (inner_in t k (slot_in t f.adjacent)) (inner_in t k (slot_in t f.opposite)) (inner_in t k (slot_in t f.next)) refl refl refl
        where
          f : Face
          f = face_on v j o

          m : Makes t v f
          m = record { corner = j; below = h; opposite = o; chosen = e; is = refl }

          seen : (h : Face) → SameRound f h → inner_in t k (slot_in t h.at) ≡ true → face_seen t k h ≡ true
          seen = names-too v own inner f m

          last : face_seen t k (turned (turned (turned f))) ≡ true → face_before t k f ≡ true
          last e =
              unfold face_before in
              let a = face_seen t k (turned f) in
              let b = face_seen t k (turned (turned f)) in
              ap (λ (c : Bool). a || (b || c)) e ∙ ap (λ (c : Bool). a || c) (or-true b) ∙ or-true a

          go : (a b c : Bool) → inner_in t k (slot_in t f.adjacent) ≡ a → inner_in t k (slot_in t f.opposite) ≡ b → inner_in t k (slot_in t f.next) ≡ c
              → not (a || (b || c)) || face_before t k f ≡ true
          go true b c p q r = sym (before-second t k f (seen (turned f) (once refl) p))
          go false true c p q r = sym (before-third t k f (seen (turned (turned f)) (twice refl) q))
          go false false true p q r = last (seen (turned (turned (turned f))) (thrice refl) r)
          go false false false p q r = refl

pub plain-grown : (t : List ℕ) → Grown t → plain_of t ≡ true
unfolding plain_of plain_slot
plain-grown t g = each-upto (plain_slot t) (slots_of t) (λ k l. slot k l (slot_at t k) refl)
  where
    slot : (k : ℕ) → k < slots_of t → (s : Option Record) → slot_at t k ≡ s → plain_in t k s ≡ true
    slot k l None e = refl
    slot k l (Some v) e = each-upto (plain_at t k v) v.d (corner-plain t g k l v e)
