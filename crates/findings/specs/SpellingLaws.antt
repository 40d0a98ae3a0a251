-- "however its point is spelled": two lists whose lines have, one after the other, the same numbers, points and notes are joined to the same bytes.
-- `Same`, `Alike` such findings, and such lists of them · `joined-alike`, `join-alike`.
-- Assumes nothing.
use Rattle.std.specs.Prelude.{◌≡◌, Bool, cond, ℕ}
use Rattle.std.proofs.Math.Path.{refl, sym, ap}
use Rattle.std.proofs.Common.{◌∙◌}
use Rattle.std.proofs.Math.Bool.{true, false, not}
use mathlib.Core.List.{List, [], ◌∷◌, ◌++◌}
use Rattle.laws.specs.Choices.{unless}
use Rattle.laws.specs.Each.{not-both}
use Rattle.lattice.specs.declared.points.Point.{Point}
use Rattle.lattice.specs.declared.records.Record.{Record}
use Rattle.table.specs.Search.{same_point}
use Rattle.table.specs.Order.{in_order_of}
use Rattle.table.specs.Entries.{holds, records_of}
use Rattle.text.specs.Decimal.{digits, ended, tab, feed}
use Rattle.text.specs.Line.{point_text}
use Rattle.writers.specs.Files.{sorted}
use Rattle.findings.specs.Findings.{note_at, point_of, keep, findings_of, question, tail_text, stands_text, lost_text, texts, joined}
use Rattle.findings.specs.Findings.{Listing, Sound, join_after, read_list, unless_faulty, put_joined, join_of}
use Rattle.findings.specs.declared.line.Finding.{Finding}

module _ (l l' : List ℕ) where
  -- the same number, point and note
  pub record Same (f g : Finding) : Type 0 where
    pub number : f.number ≡ g.number
    pub point : point_of f ≡ point_of g
    pub note : note_at l f.note ≡ note_at l' g.note

  pub data Alike : List Finding → List Finding → Type 0 where
    none : Alike [] []
    more : {f g : Finding} {fs gs : List Finding} → Same f g → Alike fs gs → Alike (f ∷ fs) (g ∷ gs)

  alike-join : {fs gs xs ys : List Finding} → Alike fs gs → Alike xs ys → Alike (fs ++ xs) (gs ++ ys)
  alike-join none b = b
  alike-join (more s a) b = more s (alike-join a b)

  -- what a test of the point leaves
  alike-keep : (test : Point → Bool) {fs gs : List Finding} → Alike fs gs → Alike (keep (λ f. test (point_of f)) fs) (keep (λ f. test (point_of f)) gs)
  unfolding keep
  alike-keep test none = none
  alike-keep test (more {f} {g} {fs} {gs} s a) = go (test (point_of f)) (test (point_of g)) (ap test s.point) (alike-keep test a)
    where
      go : (b c : Bool) → b ≡ c → Alike (keep (λ f. test (point_of f)) fs) (keep (λ f. test (point_of f)) gs)
          → Alike (cond b (f ∷ keep (λ f. test (point_of f)) fs) (keep (λ f. test (point_of f)) fs))
          (cond c (g ∷ keep (λ f. test (point_of f)) gs) (keep (λ f. test (point_of f)) gs))
      go true true e k = more s k
      go false false e k = k
      go true false e k = absurd (not-both refl e)
      go false true e k = absurd (not-both e refl)

  alike_of : (rs : List Record) {fs gs : List Finding} → Alike fs gs → Alike (findings_of rs fs) (findings_of rs gs)
  unfolding findings_of
  alike_of [] a = none
  alike_of (r ∷ rs) a = alike-join (alike-keep (λ p. same_point p r.at) a) (alike_of rs a)

  -- their lines out

  tail-same : (f g : Finding) → Same f g → tail_text l f ≡ tail_text l' g
  unfolding tail_text
  tail-same f g s = λ i. ended (digits (s.number i)) tab ++ ended (s.note i) feed

  stands_same : (f g : Finding) → Same f g → stands_text l f ≡ stands_text l' g
  unfolding stands_text
  stands_same f g s = λ i. point_text (s.point i) ++ tail-same f g s i

  lost-same : (f g : Finding) → Same f g → lost_text l f ≡ lost_text l' g
  unfolding lost_text
  lost-same f g s = λ i. ended (question ∷ []) tab ++ tail-same f g s i

  texts-alike : (x y : Finding → List ℕ) → ((f g : Finding) → Same f g → x f ≡ y g) → (fs gs : List Finding) → Alike fs gs → texts x fs ≡ texts y gs
  unfolding texts
  texts-alike x y h _ _ none = refl
  texts-alike x y h _ _ (more {f} {g} {fs} {gs} s a) = λ i. h f g s i ++ texts-alike x y h fs gs a i

  joined-alike : (t : List ℕ) {fs gs : List Finding} → Alike fs gs → joined t l fs ≡ joined t l' gs
  unfolding joined
  joined-alike t a =
      λ i. texts-alike (stands_text l) (stands_text l') stands_same _ _ (alike_of (sorted (records_of t)) a) i
      ++ texts-alike (lost_text l) (lost_text l') lost-same _ _ (alike-keep (λ p. not (holds t p)) a) i

  pub join-alike : (t out : List ℕ) {fs gs : List Finding} → read_list l ≡ Sound fs → read_list l' ≡ Sound gs → Alike fs gs → join_of t l out ≡ join_of t l' out
  unfolding join_of
  join-alike t out e e' a =
      ap (unless (in_order_of t) (join_after 1 0 0 out))
      (read l e ∙ ap (λ (x : List ℕ). put_joined x out) (joined-alike t a) ∙ sym (read l' e'))
    where
      read : (k : List ℕ) {hs : List Finding} → read_list k ≡ Sound hs
          → unless_faulty (read_list k) (λ line. join_after 15 line 0 out) (λ fs. put_joined (joined t k fs) out) ≡ put_joined (joined t k hs) out
      read k h = ap (λ (x : Listing). unless_faulty x (λ line. join_after 15 line 0 out) (λ fs. put_joined (joined t k fs) out)) h
