-- A list judged line by line. `line-stands`, `line-lost` one line more, by where its point is · `Judging` the lines up to a position are passed:
-- `judging-start`, `judging-room`, `judging-good`, `judging-end`, `judging-bad` · `judged-sound`, `judged-faulty` what the answer says.
-- Assumes nothing.
use Rattle.std.specs.Prelude.{◌≡◌, Bool, true, false, not, Result, Ok, Err}
use Rattle.std.proofs.Math.Path.{refl, sym}
use Rattle.std.proofs.Common.{ap, ◌∙◌, arith, length-append}
use mathlib.Core.List.{List, [], ◌∷◌, ◌++◌, append_assoc, append-nil}
use Prim.Native.Nat.{ℕ, ◌+◌, ◌≤◌, ◌<◌}
use Rattle.std.proofs.Math.ListN.{length}
use Rattle.table.specs.Entries.{holds}
use Rattle.findings.specs.Findings.{entry_at, Listing, Sound, Faulty, ahead, read_list, point_of, keep, lost, stands_text, lost_text, texts}
use Rattle.findings.specs.EntryLaws.{entry-from, entry_in, entry_next}
use Rattle.findings.specs.TextLengths.{stands-most, lost-most}
use Rattle.findings.specs.KeepLaws.{keep_one, keep-none, texts-one}
use Rattle.findings.specs.StandingLaws.{on_plan}
use Rattle.findings.specs.ListLaws.{list_on, read-on, on-end, on-bad, on-good}
use Rattle.findings.specs.Judged.{sound_in, found, AllSound, parts, parts_of, with_line, judged_listing, judged_of}
use Rattle.findings.specs.declared.line.Finding.{Finding}
use Rattle.findings.specs.declared.line.Entry.TheVariants.{Good, Bad, End}
use Rattle.findings.specs.declared.lists.Parts.{Parts}

module _ (t l : List ℕ) (p : Parts) (f : Finding) where
  pub line-stands : holds t (point_of f) ≡ true → parts (p.stands + length (stands_text l f)) p.lost ≡ with_line t l p f
  unfolding with_line
  line-stands h = sym (rw h)

  pub line-lost : holds t (point_of f) ≡ false → parts p.stands (p.lost + length (lost_text l f)) ≡ with_line t l p f
  unfolding with_line
  line-lost h = sym (rw h)

-- the findings passed and one more
module _ (t l : List ℕ) (ds : List Finding) (f : Finding) where
  pub plan-one : holds t (point_of f) ≡ true → on_plan t (ds ++ f ∷ []) ≡ on_plan t ds ++ f ∷ []
  plan-one h = keep_one (λ g. holds t (point_of g)) ds f h

  pub plan-stays : holds t (point_of f) ≡ false → on_plan t (ds ++ f ∷ []) ≡ on_plan t ds
  plan-stays h = keep-none (λ g. holds t (point_of g)) ds f h

  pub lost-one : holds t (point_of f) ≡ false → lost t (ds ++ f ∷ []) ≡ lost t ds ++ f ∷ []
  lost-one h = keep_one (λ g. not (holds t (point_of g))) ds f (ap not h)

  pub lost-stays : holds t (point_of f) ≡ true → lost t (ds ++ f ∷ []) ≡ lost t ds
  lost-stays h = keep-none (λ g. not (holds t (point_of g))) ds f (ap not h)

  texts-more : (text : Finding → List ℕ) (xs : List Finding) → length (texts text (xs ++ f ∷ [])) ≡ length (texts text xs) + length (text f)
  texts-more text xs = ap length (texts-one text xs f) ∙ length-append (texts text xs) (text f)

  parts_more : with_line t l (parts_of t l ds) f ≡ parts_of t l (ds ++ f ∷ [])
  unfolding parts_of
  parts_more = go (holds t (point_of f)) refl
    where
      stands : List Finding → ℕ
      stands xs = length (texts (stands_text l) xs)

      gone : List Finding → ℕ
      gone xs = length (texts (lost_text l) xs)

      go : (b : Bool) → holds t (point_of f) ≡ b
          → with_line t l (parts (stands (on_plan t ds)) (gone (lost t ds))) f ≡ parts (stands (on_plan t (ds ++ f ∷ []))) (gone (lost t (ds ++ f ∷ [])))
      go true h =
          sym (line-stands t l (parts (stands (on_plan t ds)) (gone (lost t ds))) f h)
          ∙ sym (λ i. parts ((ap stands (plan-one h) ∙ texts-more (stands_text l) (on_plan t ds)) i) (gone (lost-stays h i)))
      go false h =
          sym (line-lost t l (parts (stands (on_plan t ds)) (gone (lost t ds))) f h)
          ∙ sym (λ i. parts (stands (plan-stays h i)) ((ap gone (lost-one h) ∙ texts-more (lost_text l) (lost t ds)) i))

-- the findings passed, and the lines that follow
abbrev behind : List Finding → Listing → Listing
behind ds (Sound fs) = Sound (ds ++ fs)
behind ds (Faulty line) = Faulty line

behind-one : (ds : List Finding) (f : Finding) (g : Listing) → behind ds (ahead f g) ≡ behind (ds ++ f ∷ []) g
behind-one ds f (Sound fs) = ap Sound (sym (append_assoc ds (f ∷ []) fs))
behind-one ds f (Faulty line) = refl

behind-none : (g : Listing) → behind [] g ≡ g
behind-none (Sound fs) = refl
behind-none (Faulty line) = refl

-- the lines before position `at`, where line `line` begins, are passed: so long are the parts of their findings
pub record Judging (t l : List ℕ) (at line : ℕ) (p : Parts) : Type 0 where
  pub passed : List Finding
  pub rest : behind passed (list_on l at line) ≡ read_list l
  pub sums : p ≡ parts_of t l passed
  pub room : p.stands + p.lost ≤ at
  pub inside : at ≤ length l
  pub few : line ≤ at + 1

pub judging-start : (t l : List ℕ) → Judging t l 0 1 (parts 0 0)
unfolding parts_of keep texts
judging-start t l = record {
  passed = [];
  rest = behind-none (list_on l 0 1) ∙ sym (read-on l);
  sums = refl;
  room = omega arith;
  inside = omega arith;
  few = omega arith;
}

module _ (t l : List ℕ) (at line : ℕ) (p : Parts) (w : Judging t l at line p) where
  module _ (f : Finding) (e : entry_at l at ≡ Good f) where
    -- what is counted stays within the list
    pub judging-room : (p.stands + length (stands_text l f) ≤ f.next) × (p.lost + length (lost_text l f) ≤ f.next)
    judging-room =
        let i = entry_in l at f e in
        let h = entry-from l at f e in
        let r = w.room in
        (omega (arith, stands-most l f i), omega (arith, lost-most l f i))

    room-more : (q : Parts) → q ≡ with_line t l p f → q.stands + q.lost ≤ f.next
    room-more q eq =
        let i = entry_in l at f e in
        go (holds t (point_of f)) refl (entry-from l at f e) w.room (stands-most l f i) (lost-most l f i)
      where
        go : (b : Bool) → holds t (point_of f) ≡ b → f.from ≡ at → p.stands + p.lost ≤ at → f.from + length (stands_text l f) ≤ f.next
            → f.from + length (lost_text l f) < f.next → q.stands + q.lost ≤ f.next
        go true k h r u v =
            let z = eq ∙ sym (line-stands t l p f k) in
            let x : q.stands ≡ p.stands + length (stands_text l f) = ap (λ (a : Parts). a.stands) z in
            let y : q.lost ≡ p.lost = ap (λ (a : Parts). a.lost) z in
            omega arith
        go false k h r u v =
            let z = eq ∙ sym (line-lost t l p f k) in
            let x : q.stands ≡ p.stands = ap (λ (a : Parts). a.stands) z in
            let y : q.lost ≡ p.lost + length (lost_text l f) = ap (λ (a : Parts). a.lost) z in
            omega arith

    pub judging-good : (q : Parts) → q ≡ with_line t l p f → Judging t l f.next (line + 1) q
    judging-good q eq =
        let n = entry_next l at f e in
        let r = w.few in
        record {
          passed = w.passed ++ f ∷ [];
          rest = sym (behind-one w.passed f (list_on l f.next (line + 1))) ∙ ap (behind w.passed) (sym (on-good l at line f e)) ∙ w.rest;
          sums = eq ∙ ap (λ (x : Parts). with_line t l x f) w.sums ∙ parts_more t l w.passed f;
          room = room-more q eq;
          inside = n.1;
          few = omega (arith, n.0);
        }

  pub judging-end : entry_at l at ≡ End → Ok p ≡ judged_of t l
  judging-end e =
      ap (λ (x : Parts). Ok x) (w.sums ∙ ap (parts_of t l) (sym (append-nil w.passed)))
      ∙ ap (judged_listing t l) (ap (behind w.passed) (sym (on-end l at line e)) ∙ w.rest)

  pub judging-bad : entry_at l at ≡ Bad → Err line ≡ judged_of t l
  judging-bad e = ap (judged_listing t l) (ap (behind w.passed) (sym (on-bad l at line e)) ∙ w.rest)

-- what the answer says
pub judged-sound : (t l : List ℕ) (p : Parts) → Ok p ≡ judged_of t l → AllSound l × (p ≡ parts_of t l (found l))
judged-sound t l p = go (read_list l)
  where
    go : (g : Listing) → Ok p ≡ judged_listing t l g → (g ≡ Sound (sound_in g)) × (p ≡ parts_of t l (sound_in g))
    go (Sound fs) e = (refl, same (parts_of t l fs) e)
      where
        same : (q : Parts) → ◌≡◌ {A = Result Parts ℕ} (Ok p) (Ok q) → p ≡ q
        same q k = cc
    go (Faulty line) e = absurd (let z : ◌≡◌ {A = ℕ} 0 1 = cc in omega arith)

pub judged-faulty : (t l : List ℕ) (line : ℕ) → Err line ≡ judged_of t l → read_list l ≡ Faulty line
judged-faulty t l line = go (read_list l)
  where
    go : (g : Listing) → Err line ≡ judged_listing t l g → g ≡ Faulty line
    go (Sound fs) e = absurd (let z : ◌≡◌ {A = ℕ} 0 1 = cc in omega arith)
    go (Faulty i) e = ap Faulty (let z : i ≡ line = cc in z)
