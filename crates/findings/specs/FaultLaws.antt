-- "15 for a malformed findings line (with its number)". `Finds` a finding's line stands at a position · `entry-bad`, `bad-entry` a line is malformed exactly
-- where none does, within the list · `FaultFrom` the lines before are good and this one is malformed: `fault-line`, `line-fault` it is what reading
-- answers · `list_read` a list without one is the lines of its findings.
-- Assumes nothing.
use Rattle.std.specs.Prelude.{◌≡◌, Bool, true, false, cond, ◌&&◌, ltb, Option, Some, None}
use Rattle.std.proofs.Math.Path.{refl, ap}
use Rattle.std.proofs.Common.{sym, ◌∙◌, subst, arith}
use mathlib.Core.List.{List, [], ◌∷◌, ◌++◌}
use Prim.Native.Nat.{ℕ, zero, suc, ◌+◌, ◌<◌}
use Rattle.std.proofs.Math.Decide.{dec_lt}
use Rattle.std.proofs.lemmas.Bool.{lt-leb}
use Rattle.std.proofs.Math.ListN.{length, drop, drop_of_length-le}
use Rattle.laws.specs.Each.{never}
use Rattle.lattice.specs.declared.points.Point.{Point}
use Rattle.text.specs.Decimal.{tab}
use Rattle.text.specs.Reading.{number_at}
use Rattle.text.specs.ReadingLaws.{Stands}
use Rattle.text.specs.Limits.{in_limits}
use Rattle.text.specs.Line.{on_read, place_at}
use Rattle.findings.specs.Findings.{most_number, note_at, ends_line, finding, noted_at, numbered_at, entry_at}
use Rattle.findings.specs.Findings.{Listing, Sound, Faulty, ahead, entry_read, list_from, read_list, texts}
use Rattle.findings.specs.EntryCases.{entry-end}
use Rattle.findings.specs.EntryLaws.{finding_text, Writable, entry-write, entry_read_lem}
use Rattle.findings.specs.ListLaws.{list_on, read-on, on-bad, on-good, Lines, sound-lines}
use Rattle.findings.specs.declared.line.Finding.{Finding}
use Rattle.findings.specs.declared.line.Entry.{Entry}
use Rattle.findings.specs.declared.line.Entry.TheVariants.{Good, Bad, End}

-- ---- where a line is malformed

-- some finding's line stands at p
pub record Finds (l : List ℕ) (p : ℕ) : Type 0 where
  pub number : ℕ
  pub point : Point
  pub note : List ℕ
  pub next : ℕ
  pub good : Writable number point note
  pub line : Stands l p (finding_text number point note) next

over : Entry → Bool
over End = true
over Bad = false
over (Good f) = false

-- a position within the list is not its end
entry-over : (l : List ℕ) (p : ℕ) → p < length l → over (entry_at l p) ≡ false
unfolding entry_at over
entry-over l p h = rw (lt-leb (length l) p h) (number (number_at l p most_number tab))
  where
    ends : (b : Bool) (f : Finding) → over (cond b (Good f) Bad) ≡ false
    ends true f = refl
    ends false f = refl

    place : (n : ℕ) (x : Option (Point × ℕ)) → over (on_read x Bad (noted_at l p n)) ≡ false
    place n None = refl
    place n (Some (q, note)) = ends (ltb 0 n && (in_limits q && ends_line l note)) (finding n q p note (note + length (note_at l note) + 1))

    number : (n : Option (ℕ × ℕ)) → over (on_read n Bad (numbered_at l p)) ≡ false
    number None = refl
    number (Some (n, past)) = place n (place_at l past)

module _ (l : List ℕ) (p : ℕ) where
  pub entry-bad : p < length l → (Finds l p → ⊥) → entry_at l p ≡ Bad
  unfolding over
  entry-bad h none = go (entry_at l p) refl
    where
      go : (e : Entry) → entry_at l p ≡ e → entry_at l p ≡ Bad
      go Bad e = e
      go End e = absurd (never (sym (sym (ap over e) ∙ entry-over l p h)))
      go (Good f) e =
          let r = entry_read_lem l p f e in
          absurd (none (record { number = f.number; point = f.at; note = note_at l f.note; next = f.next; good = r.good; line = r.line }))

  pub bad-entry : entry_at l p ≡ Bad → (p < length l) × (Finds l p → ⊥)
  bad-entry e = (within (dec_lt p (length l)), λ s. other (sym e ∙ entry-write l p s.next s.number s.point s.note s.good s.line))
    where
      other : {f : Finding} → Bad ≡ Good f → ⊥
      other k = let z : ◌≡◌ {A = ℕ} 0 1 = cc in omega arith

      ended : End ≡ Bad → ⊥
      ended k = let z : ◌≡◌ {A = ℕ} 0 1 = cc in omega arith

      within : Dec (p < length l) → p < length l
      within (yes h) = h
      within (no h) = absurd (ended (entry-end l p (omega arith) ∙ e))

-- ---- the first malformed line

-- from position p, where line i begins, the lines are good up to line n, which is malformed
pub data FaultFrom (l : List ℕ) : ℕ → ℕ → ℕ → Type 0 where
  here : {p i : ℕ} → entry_at l p ≡ Bad → FaultFrom l p i i
  later : {p i n : ℕ} (f : Finding) → entry_at l p ≡ Good f → FaultFrom l f.next (i + 1) n → FaultFrom l p i n

faulty-is : {i n : ℕ} → Faulty i ≡ Faulty n → i ≡ n
faulty-is e = cc

sound : {X : Type 0} {fs : List Finding} {n : ℕ} → Sound fs ≡ Faulty n → X
sound e = absurd (let z : ◌≡◌ {A = ℕ} 0 1 = cc in omega arith)

module _ (l : List ℕ) (n : ℕ) where
  from-fault : (left p i : ℕ) → list_from l left p i ≡ Faulty n → FaultFrom l p i n
  unfolding list_from
  from-fault zero p i e = sound e
  from-fault (suc left) p i e = go (entry_at l p) refl e (λ f k. from-fault left f.next (i + 1) k)
    where
      rest : (f : Finding) → entry_at l p ≡ Good f → (x : Listing) → ahead f x ≡ Faulty n → (x ≡ Faulty n → FaultFrom l f.next (i + 1) n) → FaultFrom l p i n
      rest f a (Sound fs) e ih = sound e
      rest f a (Faulty k) e ih = later f a (ih e)

      go : (x : Entry) → entry_at l p ≡ x → entry_read i (λ f. list_from l left f.next (i + 1)) x ≡ Faulty n
          → ((f : Finding) → list_from l left f.next (i + 1) ≡ Faulty n → FaultFrom l f.next (i + 1) n) → FaultFrom l p i n
      go End a e ih = sound e
      go Bad a e ih = subst (FaultFrom l p i) (faulty-is e) (here a)
      go (Good f) a e ih = rest f a (list_from l left f.next (i + 1)) e (ih f)

  fault-on : (p i : ℕ) → FaultFrom l p i n → list_on l p i ≡ Faulty n
  fault-on p i (here a) = on-bad l p i a
  fault-on p i (later f a w) = on-good l p i f a ∙ ap (ahead f) (fault-on f.next (i + 1) w)

  pub fault-line : read_list l ≡ Faulty n → FaultFrom l 0 1 n
  fault-line e = from-fault (length l) 0 1 e

  pub line-fault : FaultFrom l 0 1 n → read_list l ≡ Faulty n
  line-fault w = read-on l ∙ fault-on 0 1 w

-- ---- a list without one

-- the line of a finding as the list has it
abbrev pub entry_text : List ℕ → Finding → List ℕ
entry_text l f = finding_text f.number f.at (note_at l f.note)

module _ (l : List ℕ) where
  lines-text : (p : ℕ) (fs : List Finding) → Lines l p fs → drop p l ≡ texts (entry_text l) fs
  unfolding texts over
  lines-text p [] h = go (dec_lt p (length l))
    where
      go : Dec (p < length l) → drop p l ≡ []
      go (yes k) = absurd (never (sym (sym (ap over h) ∙ entry-over l p k)))
      go (no k) = drop_of_length-le l {i = p} (omega arith)
  lines-text p (f ∷ fs) h =
      (entry_read_lem l p f h.0).line.here ∙ ap (λ (rest : List ℕ). entry_text l f ++ rest) (lines-text f.next fs h.1)

  -- it is the lines of its findings and nothing else
  pub list_read : (fs : List Finding) → read_list l ≡ Sound fs → l ≡ texts (entry_text l) fs
  list_read fs e = lines-text 0 fs (sound-lines l fs e)
