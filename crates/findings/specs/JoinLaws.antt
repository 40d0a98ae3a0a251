-- The call's cases: `join-disorder`, `join-faulty`, `join-sound` refused with 1 or 15, or not · `put-short`, `put-done` refused with 13, or written ·
-- `joined-long`, `joined-done` the output when all lines are written.
-- Assumes nothing.
use Rattle.std.specs.Prelude.{◌≡◌, Bool, true, false, ℕ, ◌+◌, ◌≤◌, ◌<◌, length}
use Rattle.std.proofs.Math.Path.{sym, ap}
use Rattle.std.proofs.Common.{◌∙◌, arith, lt-ltb, le-ltb}
use Rattle.std.proofs.Math.Bool.{cond}
use mathlib.Core.List.{List, ◌++◌, append_assoc}
use Rattle.std.proofs.Math.ListN.{drop, length-append}
use Rattle.table.specs.Order.{InOrder, in_order_of}
use Rattle.findings.specs.Findings.{Listing, Faulty, read_list, standing, lost, stands_text, lost_text, texts, joined}
use Rattle.findings.specs.Findings.{JoinAfter, join_after, put_joined, join_of}
use Rattle.writers.specs.Files.{output_after}
use Rattle.findings.specs.Findings.{unless_faulty}
use Rattle.findings.specs.Judged.{found, AllSound, parts_of}
use Rattle.findings.specs.StandingLaws.{lengths}
use Rattle.findings.specs.Laying.{lost_end}
use Rattle.findings.specs.ReadyLaws.{stands-as-long}

module _ (t l o : List ℕ) where
  abbrev rest : Listing → JoinAfter
  rest g = unless_faulty g (λ line. join_after 15 line 0 o) (λ fs. put_joined (joined t l fs) o)

  pub join-disorder : in_order_of t ≡ false → join_after 1 0 0 o ≡ join_of t l o
  unfolding join_of
  join-disorder e = ap (λ (b : Bool). cond b (rest (read_list l)) (join_after 1 0 0 o)) (sym e)

  pub join-faulty : in_order_of t ≡ true → (line : ℕ) → read_list l ≡ Faulty line → join_after 15 line 0 o ≡ join_of t l o
  unfolding join_of
  join-faulty e line h = ap rest (sym h) ∙ ap (λ (b : Bool). cond b (rest (read_list l)) (join_after 1 0 0 o)) (sym e)

  pub join-sound : in_order_of t ≡ true → AllSound l → put_joined (joined t l (found l)) o ≡ join_of t l o
  unfolding join_of
  join-sound e h = ap rest (sym h) ∙ ap (λ (b : Bool). cond b (rest (read_list l)) (join_after 1 0 0 o)) (sym e)

module _ (text o : List ℕ) (total : ℕ) (long : total ≡ length text) where
  -- by the test
  abbrev put : Bool → JoinAfter
  put b = let w = cond b (output_after 13 0 o) (output_after 0 (length text) (text ++ drop (length text) o)) in join_after w.number 0 w.bytes w.out

  pub put-short : length o < total → join_after 13 0 0 o ≡ put_joined text o
  unfolding put_joined
  put-short h = ap put (sym (lt-ltb (length o) (length text) (omega arith)))

  pub put-done : (o' : List ℕ) → total ≤ length o → o' ≡ text ++ drop total o → join_after 0 0 total o' ≡ put_joined text o
  unfolding put_joined
  put-done o' h e =
      (λ z. join_after 0 0 (long z) ((e ∙ ap (λ (n : ℕ). text ++ drop n o) long) z))
      ∙ ap put (sym (le-ltb (length o) (length text) (omega arith)))

module _ (t l : List ℕ) (in_order : InOrder t) (sound : AllSound l) (small : length l < lengths) (start total : ℕ)
    (begin : start ≡ (parts_of t l (found l)).stands) (end : total ≡ start + (parts_of t l (found l)).lost) where
  long : start ≡ length (texts (stands_text l) (standing t (found l)))
  long = begin ∙ stands-as-long t l in_order sound

  lost-end : total ≡ lost_end t l start (found l)
  unfolding parts_of
  lost-end = end

  pub joined-long : total ≡ length (joined t l (found l))
  unfolding joined
  joined-long = omega (arith, long, lost-end, length-append (texts (stands_text l) (standing t (found l))) (texts (lost_text l) (lost t (found l))))

  -- the lines of the vertices before those of the lost ones
  pub joined-done : (o o₂ o₃ : List ℕ) → o₃ ≡ texts (stands_text l) (standing t (found l)) ++ drop start o₂
      → drop start o₂ ≡ texts (lost_text l) (lost t (found l)) ++ drop (lost_end t l start (found l)) o → o₃ ≡ joined t l (found l) ++ drop total o
  unfolding joined
  joined-done o o₂ o₃ a b =
      let xs = texts (stands_text l) (standing t (found l)) in
      let ys = texts (lost_text l) (lost t (found l)) in
      a ∙ ap (λ (x : List ℕ). xs ++ x) (b ∙ ap (λ (n : ℕ). ys ++ drop n o) (sym lost-end)) ∙ sym (append_assoc xs ys (drop total o))
