-- Document 02, ticket 1: what the joined findings list is, over the definition that the promise of `join` cites.
-- `join-number`, `join-line`, `join-untouched` "Refusals: 1, then 15 for a malformed findings line (with its number), then 13; output unchanged" ·
-- `join-suffices` an output as long as the list is never too short · `EachOnce` "Each line comes out exactly once", `Done`, `join-done` accepted ·
-- `lost-none`, `none-lost` the lost ones are exactly those whose point has no record, `standing-held`, `held-standing` the others those whose point has one ·
-- `Respelled`, `join-spelling` ".. however its point is spelled" · `entry-write`, `entry_read_lem`, `entry-bad`, `bad-entry` what a line of the list is,
-- `fault-line`, `line-fault` which malformed one is given, `list_read` a list without one is the lines of its findings.
-- Assumes nothing.
use Rattle.std.specs.Prelude.{◌≡◌, ◌≢◌, Bool, cond, not, ℕ, ◌≤◌, ltb}
use Rattle.std.proofs.Math.Path.{refl}
use Rattle.std.proofs.Common.{sym, le-ltb}
use Rattle.std.proofs.Math.Bool.{true, false}
use mathlib.Core.List.{List, [], ◌∷◌, ◌++◌}
use native.Mathlib.Omega.{arith}
use Rattle.std.proofs.Math.ListN.{length, drop}
use Rattle.laws.specs.Each.{never}
use Rattle.table.specs.Order.{InOrder, in_order_of}
use Rattle.table.specs.MapLaws.{test-order}
use Rattle.writers.specs.Files.{output_after}
use Rattle.findings.specs.Findings.{note_at, Listing, Sound, Faulty, read_list, standing, lost, texts, joined}
use Rattle.findings.specs.Findings.{JoinAfter, join_after, unless_faulty, put_joined, join_of}
use Rattle.findings.specs.OnceLaws.{counted, line_out, each-once, joined-lines}
use Rattle.findings.specs.FaultLaws.{entry_text}
use Rattle.findings.specs.ReadyLaws.{joined-inside}
use Rattle.findings.specs.SpellingLaws.{Alike, none, more, join-alike}
use Rattle.findings.specs.declared.line.Finding.{Finding}
use Rattle.demands.specs.Numbers.{Rule, ◌⇒◌, first_of}
use Rattle.demands.specs.Points.{OnePoint, one_form}
pub use Rattle.findings.specs.OnceLaws.{standing-held, held-standing, lost-none, none-lost}
pub use Rattle.findings.specs.EntryLaws.{entry-write, entry_read_lem}
pub use Rattle.findings.specs.FaultLaws.{entry-bad, bad-entry, fault-line, line-fault, list_read}

-- ---- each line once

-- "Each line comes out exactly once": the list is the lines of findings, the text the lines out of the same ones, each as often
pub record EachOnce (t l : List ℕ) (fs : List Finding) (text : List ℕ) : Type 0 where
  pub lines : l ≡ texts (entry_text l) fs
  pub order : List Finding
  pub once : (test : Finding → Bool) → counted test order ≡ counted test fs
  pub lines-out : text ≡ texts (line_out t l) order

each-line-once : (t l : List ℕ) (fs : List Finding) → InOrder t → read_list l ≡ Sound fs → EachOnce t l fs (joined t l fs)
each-line-once t l fs o e = record {
  lines = list_read l fs e;
  order = standing t fs ++ lost t fs;
  once = λ test. each-once t o test fs;
  lines-out = joined-lines t l o fs;
}

-- ---- the numbers

-- the malformed line that is given: none is 0
abbrev pub fault_in : Listing → ℕ
fault_in (Sound fs) = 0
fault_in (Faulty line) = line

abbrev pub is_faulty : Listing → Bool
is_faulty (Sound fs) = false
is_faulty (Faulty line) = true

-- the joined list, where no line is malformed
abbrev pub text_of : List ℕ → List ℕ → Listing → List ℕ
text_of t l (Sound fs) = joined t l fs
text_of t l (Faulty line) = []

module _ (t l out : List ℕ) where
  -- a text put by the test of its length
  abbrev put : List ℕ → Bool → JoinAfter
  put text b =
      let w = cond b (output_after 13 0 out) (output_after 0 (length text) (text ++ drop (length text) out)) in
      join_after w.number 0 w.bytes w.out

  -- the call by its three tests
  abbrev by_tests : Bool → Listing → JoinAfter
  by_tests o x = cond o (unless_faulty x (λ line. join_after 15 line 0 out) (λ fs. put_joined (joined t l fs) out)) (join_after 1 0 0 out)

  -- "Refusals: 1, then 15 .., then 13"
  abbrev pub join_rules : List Rule
  join_rules = not (in_order_of t) ⇒ 1 ∷ is_faulty (read_list l) ⇒ 15 ∷ ltb (length out) (length (text_of t l (read_list l))) ⇒ 13 ∷ []

  pub join-number : (join_of t l out).number ≡ first_of join_rules
  unfolding join_of put_joined
  join-number = go (in_order_of t) (read_list l)
    where
      room : (text : List ℕ) (b : Bool)
          → (put text b).number ≡ first_of (b ⇒ 13 ∷ [])
      room text true = refl
      room text false = refl

      go : (o : Bool) (x : Listing)
          → (by_tests o x).number ≡ first_of (not o ⇒ 1 ∷ is_faulty x ⇒ 15 ∷ ltb (length out) (length (text_of t l x)) ⇒ 13 ∷ [])
      go false x = refl
      go true (Faulty line) = refl
      go true (Sound fs) = room (joined t l fs) (ltb (length out) (length (joined t l fs)))

  -- "(with its number)": else 0
  pub join-line : (join_of t l out).line ≡ cond (in_order_of t) (fault_in (read_list l)) 0
  unfolding join_of put_joined
  join-line = go (in_order_of t) (read_list l)
    where
      room : (text : List ℕ) (b : Bool) → (put text b).line ≡ 0
      room text true = refl
      room text false = refl

      go : (o : Bool) (x : Listing) → (by_tests o x).line ≡ cond o (fault_in x) 0
      go false x = refl
      go true (Faulty line) = refl
      go true (Sound fs) = room (joined t l fs) (ltb (length out) (length (joined t l fs)))

  -- "output unchanged"
  pub join-untouched : (join_of t l out).number ≢ 0 → ((join_of t l out).out ≡ out) × ((join_of t l out).bytes ≡ 0)
  unfolding join_of put_joined
  join-untouched = go (in_order_of t) (read_list l)
    where
      room : (text : List ℕ) (b : Bool)
          → (let j = put text b in
          j.number ≢ 0 → (j.out ≡ out) × (j.bytes ≡ 0))
      room text true n = (refl, refl)
      room text false n = absurd (n refl)

      go : (o : Bool) (x : Listing) → (by_tests o x).number ≢ 0 → ((by_tests o x).out ≡ out) × ((by_tests o x).bytes ≡ 0)
      go false x n = (refl, refl)
      go true (Faulty line) n = (refl, refl)
      go true (Sound fs) n = room (joined t l fs) (ltb (length out) (length (joined t l fs))) n

  -- an output as long as the list is never refused with 13
  pub join-suffices : length l ≤ length out → (join_of t l out).number ≢ 13
  unfolding join_of put_joined
  join-suffices h = go (in_order_of t) refl (read_list l) refl
    where
      room : (text : List ℕ) (b : Bool) → b ≡ false → (put text b).number ≢ 13
      room text true e n = never (sym e)
      room text false e n = omega arith

      go : (o : Bool) → in_order_of t ≡ o → (x : Listing) → read_list l ≡ x → (by_tests o x).number ≢ 13
      go false d x e n = omega arith
      go true d (Faulty line) e n = omega arith
      go true d (Sound fs) e n =
          let fits = le-ltb (length out) (length (joined t l fs)) (omega (arith, joined-inside t l (test-order t d) fs e)) in
          room (joined t l fs) (ltb (length out) (length (joined t l fs))) fits n

  -- accepted: the table is in order, no line is malformed, and the joined list is written, in which each line comes out once
  pub record Done : Type 0 where
    pub findings : List Finding
    pub order : InOrder t
    pub read : read_list l ≡ Sound findings
    pub bytes : (join_of t l out).bytes ≡ length (joined t l findings)
    pub written : (join_of t l out).out ≡ joined t l findings ++ drop (length (joined t l findings)) out
    pub each-once : EachOnce t l findings (joined t l findings)

  pub join-done : (join_of t l out).number ≡ 0 → Done
  unfolding join_of put_joined
  join-done n =
      let (fs, h, e, b, w) = go (in_order_of t) (read_list l) n in
      let o = test-order t h in
      record { findings = fs; order = o; read = e; bytes = b; written = w; each-once = each-line-once t l fs o e }
    where
      room : (text : List ℕ) (b : Bool)
          → (let j = put text b in
          j.number ≡ 0 → (j.bytes ≡ length text) × (j.out ≡ text ++ drop (length text) out))
      room text true n = absurd (omega arith)
      room text false n = (refl, refl)

      go : (o : Bool) (x : Listing) → (by_tests o x).number ≡ 0
          → (fs : List Finding) × (o ≡ true) × (x ≡ Sound fs) × ((by_tests o x).bytes ≡ length (joined t l fs))
          × ((by_tests o x).out ≡ joined t l fs ++ drop (length (joined t l fs)) out)
      go false x n = absurd (omega arith)
      go true (Faulty line) n = absurd (omega arith)
      go true (Sound fs) n = let (b, w) = room (joined t l fs) (ltb (length out) (length (joined t l fs))) n in (fs, refl, refl, b, w)

-- ---- however spelled

module _ (l l' : List ℕ) where
  -- two lines, one of each list: the same number and note, and one point
  pub record OneFinding (f g : Finding) : Type 0 where
    pub number : f.number ≡ g.number
    pub point : OnePoint f.at.a f.at.b f.at.m.0 g.at.a g.at.b g.at.m.0
    pub note : note_at l f.note ≡ note_at l' g.note

  -- and so line by line
  pub data Respelled : List Finding → List Finding → Type 0 where
    no_line : Respelled [] []
    next-line : {f g : Finding} {fs gs : List Finding} → OneFinding f g → Respelled fs gs → Respelled (f ∷ fs) (g ∷ gs)

  alike : {fs gs : List Finding} → Respelled fs gs → Alike l l' fs gs
  alike no_line = none
  alike (next-line {f} {g} s r) =
      more (record { number = s.number; point = one_form f.at.a f.at.b f.at.m.0 g.at.a g.at.b g.at.m.0 s.point; note = s.note })
      (alike r)

  pub join-spelling : (t out : List ℕ) {fs gs : List Finding} → read_list l ≡ Sound fs → read_list l' ≡ Sound gs → Respelled fs gs
      → join_of t l out ≡ join_of t l' out
  join-spelling t out e e' r = join-alike l l' t out e e' (alike r)
