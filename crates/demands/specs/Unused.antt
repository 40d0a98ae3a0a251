-- Document 02, ticket 7: "Show that in a table that is in order, a vertex of degree 6 below level 12 never yields a new point deeper than 6, then take
-- the test and its number out. .. and 6 stays unused."
-- `never-deeper` · `taken_out` is 6, `Answers`, `unused` no call answers it · `neighbours-unused`, `faces-unused` nor does one of many queries,
-- `input-unused` nor is it the number in the census's `refused`.
-- Assumes nothing.
use Rattle.std.specs.Prelude.{◌≡◌, ◌≢◌, ◌⊎◌, Bool, true, false, cond, ◌&&◌, not, List, [], ◌∷◌, ℕ, zero, suc, ◌+◌, ◌*◌, ◌≤◌, ◌<◌, T, eqb, ltb, leb, ℤ, pos, length, get_or, Some}
use Rattle.std.proofs.Common.{sym, ◌∙◌, ap, subst, inl, inr, arith}
use Rattle.laws.specs.Bools.{and_left, and_right}
use Rattle.laws.specs.Choices.{of-true}
use Rattle.laws.specs.Triples.{triples_in, is_byte}
use Rattle.lattice.specs.Points.{normal_of}
use Rattle.lattice.specs.Subdivision.{new_of}
use Rattle.lattice.specs.declared.points.Point.{Point}
use Rattle.lattice.specs.declared.records.Record.{Record}
use Rattle.lattice.specs.declared.stars.Answer.{Answer}
use Rattle.geometry.specs.SubdivisionLaws.{new-depth}
use Rattle.table.specs.Slots.{lengths_fit}
use Rattle.table.specs.Order.{InOrder, in_order_of}
use Rattle.table.specs.Entries.{look_up}
use Rattle.table.specs.MapLaws.{lookup-valid}
use Rattle.mesh.specs.Subdivide.{MeshAfter, Many, subdivide_of, subdivide_triple, subdivide_from, subdivide_all_of}
use Rattle.queries.specs.Queries.{neighbours_of, faces_of, adjacents_there, corners_there}
use Rattle.queries.specs.Many.{triple_of, answer_width, AnswersAfter, all_of}
use Rattle.writers.specs.Files.{full_file, reduced_file}
use Rattle.viewer.specs.Viewer.{off_style, obj_style}
use Rattle.readers.specs.Readers.{TablesAfter}
use Rattle.salvage.specs.Salvage.{salvage_of}
use Rattle.tally.specs.Count.{CountsAfter, count_of}
use Rattle.census_text.specs.Census.{read_input_of, most_input, text_of, Put, put_text, census_of}
use Rattle.demands.specs.Calls.{Call, Lent, Outcome, does, normalise, star, base, subdivide, subdivideAll, neighbours, faces, neighboursAll, facesAll}
use Rattle.demands.specs.Calls.{writeFull, writeReduced, readFull, readReduced, census, counts, join, bring, refine, writeOff, writeObj, salvage}
use Rattle.demands.specs.Calls.{vertex, vertices, inOrder, parseLine}
use Rattle.demands.specs.Numbers.{Rule, first_of, star_rules, base_rules, subdivide_rules, query_rules, write_rules}
use Rattle.demands.specs.Numbers.{star-number, base-number, subdivide-number, neighbours-number, faces-number, write-number}
use Rattle.demands.specs.Refused.{Ending, unfit, on_line, after-lines, done, full-ending, reduced-ending}
use Rattle.demands.specs.Findings.{join_rules, join-number}
use Rattle.bring.specs.Bring.{BringAfter, bring_to_six}
use Rattle.everywhere.specs.Everywhere as bringing
use Rattle.demands.specs.Bring.{bring-answers, met-number}
use Rattle.demands.specs.Refine.{refine_rules, refine-number}
use Rattle.demands.specs.Viewer.{view_rules, view-number}
use Rattle.demands.specs.Salvage.{salvage-least}
use Rattle.demands.specs.Engine.{vertex_rules, vertex-number, rows_rules, rows-number}

pub never-deeper : (t : List ℕ) → InOrder t → (p : Point) (v : Record) → look_up t p ≡ Some v → v.d ≡ 6 → v.n.0 < 12
    → (j : ℕ) → j < 6 → (new_of v j).at.m.0 ≤ 6
never-deeper t o p v e six low j h = omega (arith, new-depth v (of-true (lookup-valid t o p v e)) six (omega arith) j h)

-- "take the test and its number out"
abbrev pub taken_out : ℕ
taken_out = 6

-- ---- by the rules of a call
abbrev none_out : List Rule → Bool
none_out [] = true
none_out (r ∷ rs) = not (eqb r.number taken_out) && none_out rs

first-not : (rules : List Rule) → T (none_out rules) → first_of rules ≢ taken_out
first-not [] h e = omega arith
first-not (r ∷ rs) h e = go r.when e (first-not rs (and_right (not (eqb r.number taken_out)) (none_out rs) h))
  where
    go : (b : Bool) → cond b r.number (first_of rs) ≡ taken_out → first_of rs ≢ taken_out → ⊥
    go true e ih = subst (λ (n : ℕ). T (not (eqb n taken_out))) e (and_left (not (eqb r.number taken_out)) (none_out rs) h)
    go false e ih = ih e

by-rules : (rules : List Rule) {x : ℕ} → x ≡ first_of rules → T (none_out rules) → x ≢ taken_out
by-rules rules p h e = first-not rules h (sym p ∙ e)

module _ (t : List ℕ) (a b : ℤ) (m : ℕ) where
  subdivide-unused : (subdivide_of t a b m).number ≢ taken_out
  subdivide-unused = by-rules (subdivide_rules t (look_up t (normal_of a b m))) (subdivide-number t a b m) tt

  near-unused : (neighbours_of t a b m).number ≢ taken_out
  near-unused = by-rules (query_rules t (look_up t (normal_of a b m)) (λ v. not (adjacents_there t v))) (neighbours-number t a b m) tt

  face-unused : (faces_of t a b m).number ≢ taken_out
  face-unused = by-rules (query_rules t (look_up t (normal_of a b m)) (λ v. not (adjacents_there t v && corners_there t v))) (faces-number t a b m) tt

-- ---- by its tests
either : {A : Type 0} (number : A → ℕ) (b : Bool) (x y : A) → number x ≢ taken_out → number y ≢ taken_out → number (cond b x y) ≢ taken_out
either number true x y p q = p
either number false x y p q = q

module _ (t : List ℕ) (ps : List ℤ) (i : ℕ) where
  triple-unused : (subdivide_triple t ps i).number ≢ taken_out
  unfolding subdivide_triple
  triple-unused = either (λ (o : MeshAfter). o.number) (is_byte (get_or ps (3 * i + 2) (pos 0))) _ _ (subdivide-unused t _ _ _) (λ e. omega arith)

  pub neighbours-unused : (triple_of (neighbours_of t) ps i).number ≢ taken_out
  unfolding triple_of
  neighbours-unused = either (λ (o : Answer). o.number) (is_byte (get_or ps (3 * i + 2) (pos 0))) _ _ (near-unused t _ _ _) (λ e. omega arith)

  pub faces-unused : (triple_of (faces_of t) ps i).number ≢ taken_out
  unfolding triple_of
  faces-unused = either (λ (o : Answer). o.number) (is_byte (get_or ps (3 * i + 2) (pos 0))) _ _ (face-unused t _ _ _) (λ e. omega arith)

from-unused : (left : ℕ) (t : List ℕ) (ps : List ℤ) (i : ℕ) → (subdivide_from t ps i left).number ≢ taken_out
unfolding subdivide_from
from-unused zero t ps i = λ e. omega arith
from-unused (suc left) t ps i =
    let o = subdivide_triple t ps i in
    either (λ (x : Many). x.number) (eqb o.number 0) _ _ (from-unused left o.bytes ps (i + 1)) (triple-unused t ps i)

queries-unused : (query : ℤ → ℤ → ℕ → Answer) (t : List ℕ) (ps out : List ℤ) → (all_of query t ps out).number ≢ taken_out
unfolding all_of
queries-unused query t ps out =
    let number : AnswersAfter → ℕ = λ o. o.number in
    either number (in_order_of t) _ _ (either number (leb (answer_width * triples_in ps) (length out)) _ _ (λ e. omega arith) (λ e. omega arith)) (λ e. omega arith)

ended : {t s f : List ℕ} {o : TablesAfter} → Ending t s f o → o.number ≢ taken_out
ended (unfit e) h = let k = ap (λ (x : TablesAfter). x.number) e in omega arith
ended (on_line n i l m w e) h = let k = ap (λ (x : TablesAfter). x.number) e in omega arith
ended (after-lines n (inl l) e) h = let k = ap (λ (x : TablesAfter). x.number) e in omega arith
ended (after-lines n (inr (inl l)) e) h = let k = ap (λ (x : TablesAfter). x.number) e in omega arith
ended (after-lines n (inr (inr l)) e) h = let k = ap (λ (x : TablesAfter). x.number) e in omega arith
ended (done u e) h = let k = ap (λ (x : TablesAfter). x.number) e in omega arith

salvage-unused : (t s f out list : List ℕ) → (salvage_of t s f out list).number ≢ taken_out
salvage-unused t s f out list e = let l = salvage-least t s f out list (λ z. omega arith) (λ z. omega arith) in omega arith

-- the number in the census's text where it is `refused`
pub input-unused : (t s i : List ℕ) → (read_input_of t s i).number ≢ taken_out
unfolding read_input_of
input-unused t s i =
    let number : TablesAfter → ℕ = λ o. o.number in
    either number (lengths_fit t s) _ _ (either number (ltb most_input (length i)) _ _ (λ e. omega arith) (ended (full-ending t s i))) (λ e. omega arith)

bring-unused : (t s : List ℕ) (a b : ℤ) (m : ℕ) → (bring_to_six t s a b m).number ≢ taken_out
bring-unused t s a b m z = go (bring-answers t s a b m)
  where
    is : {o : BringAfter} → bring_to_six t s a b m ≡ o → o.number ≡ taken_out
    is e = ap (λ (o : BringAfter). o.number) (sym e) ∙ z

    within : (x : ℕ) → x ≡ taken_out → (x ≡ 7) ⊎ ((x ≡ 16) ⊎ (x ≡ 8)) → ⊥
    within x e (inl h) = omega arith
    within x e (inr (inl h)) = omega arith
    within x e (inr (inr h)) = omega arith

    go : bringing.Answers t s (look_up t (normal_of a b m)) (bring_to_six t s a b m) → ⊥
    go (bringing.unfit f e) = let k = is e in omega arith
    go (bringing.unordered f o e) = let k = is e in omega arith
    go (bringing.missing f o l e) = let k = is e in omega arith
    go (bringing.boundary v w d e) = let k = is e in omega arith
    go (bringing.already v w d e) = let k = is e in omega arith
    go (bringing.top v w d x n e) = let k = is e in omega arith
    go (bringing.met v w x k e) = within x (is e) (met-number t s a b m x v k)
    go (bringing.done v w r g e) = let k = is e in omega arith

-- ---- of every call: the number that it answers, `normalise` always 0, as its C name says; two answer none
abbrev pub Answers : (c : Call) → Outcome c → ℕ → Type 0
Answers normalise o n = 0 ≡ n
Answers star o n = o.number ≡ n
Answers base o n = o.number ≡ n
Answers subdivide o n = o.number ≡ n
Answers subdivideAll o n = o.number ≡ n
Answers neighbours o n = o.number ≡ n
Answers faces o n = o.number ≡ n
Answers neighboursAll o n = o.number ≡ n
Answers facesAll o n = o.number ≡ n
Answers writeFull o n = o.number ≡ n
Answers writeReduced o n = o.number ≡ n
Answers readFull o n = o.number ≡ n
Answers readReduced o n = o.number ≡ n
Answers census o n = o.put.number ≡ n
Answers counts o n = o.number ≡ n
Answers join o n = o.number ≡ n
Answers bring o n = o.number ≡ n
Answers refine o n = o.number ≡ n
Answers writeOff o n = o.number ≡ n
Answers writeObj o n = o.number ≡ n
Answers salvage o n = o.number ≡ n
Answers vertex o n = o.number ≡ n
Answers vertices o n = o.number ≡ n
Answers inOrder o n = ⊥
Answers parseLine o n = ⊥

pub unused : (c : Call) (x : Lent c) → Answers c (does c x) taken_out → ⊥
unfolding subdivide_all_of count_of census_of put_text
unused normalise x = λ e. omega arith
unused star r = by-rules (star_rules r) (star-number r) tt
unused base (t, cs) = by-rules (base_rules t cs) (base-number t cs) tt
unused subdivide (t, a, b, m) = subdivide-unused t a b m
unused subdivideAll (t, ps) = either (λ (o : Many). o.number) (in_order_of t) _ _ (from-unused (triples_in ps) t ps 0) (λ e. omega arith)
unused neighbours (t, a, b, m) = near-unused t a b m
unused faces (t, a, b, m) = face-unused t a b m
unused neighboursAll (t, ps, out) = queries-unused (neighbours_of t) t ps out
unused facesAll (t, ps, out) = queries-unused (faces_of t) t ps out
unused writeFull (t, out) = by-rules (write_rules (full_file t) t out) (write-number (full_file t) t out) tt
unused writeReduced (t, out) = by-rules (write_rules (reduced_file t) t out) (write-number (reduced_file t) t out) tt
unused readFull (t, s, f) = ended (full-ending t s f)
unused readReduced (t, s, f) = ended (reduced-ending t s f)
unused census (i, t, s, out) =
    either (λ (o : Put). o.number) (ltb (length out) (length (text_of (read_input_of t s i)))) _ _ (λ e. omega arith) (input-unused t s i)
unused counts t = either (λ (o : CountsAfter). o.number) (in_order_of t) _ _ (λ e. omega arith) (λ e. omega arith)
unused join (t, l, out) = by-rules (join_rules t l out) (join-number t l out) tt
unused bring (t, s, a, b, m) = bring-unused t s a b m
unused refine (t, s, o, passes, level) = by-rules (refine_rules t s o passes level) (refine-number t s o passes level) tt
unused writeOff (t, out) = by-rules (view_rules off_style t out) (view-number off_style t out) tt
unused writeObj (t, out) = by-rules (view_rules obj_style t out) (view-number obj_style t out) tt
unused salvage (t, s, f, out, list) = salvage-unused t s f out list
unused vertex (cs, ps, a, b, m) = by-rules (vertex_rules cs ps a b m) (vertex-number cs ps a b m) tt
unused vertices (cs, ps, qs, out) = by-rules (rows_rules cs ps qs out) (rows-number cs ps qs out) tt
unused inOrder t = λ e. e
unused parseLine x = λ e. e
