-- Demand 2: "One point has one written form", of requests in a row, of tables and of files.
-- `all-spelling` two lists that name the same points in turn, however spelled, get one answer of `subdivide_all` · `one-point` two valid records of
-- one point have one spelling of it · `table-forms` no table in order has one point under two spellings · `full-forms`, `reduced-forms` nor has a file that a reader accepts, full or reduced.
-- Assumes nothing.
use Rattle.std.specs.Prelude.{◌≡◌, refl, Bool, true, false, cond, ◌&&◌, ℕ, zero, suc, ◌+◌, ◌*◌, ◌<◌, T, eqb, leb, ℤ, pos, nat_abs, get_or}
use Rattle.std.proofs.Common.{sym, ◌∙◌, ap, subst, arith}
use mathlib.Core.List.{List, [], ◌∷◌, Memᴰ}
use Rattle.geometry.specs.Forms.{point-own}
use Rattle.laws.specs.Each.{not-both, both_left}
use Rattle.lattice.specs.Points.{is_normal}
use Rattle.lattice.specs.Records.{valid_of, within, suits_of}
use Rattle.lattice.specs.declared.records.Record.{Record}
use Rattle.table.specs.Order.{InOrder, in_order_of}
use Rattle.table.specs.Entries.{records_of}
use Rattle.table.specs.MapLaws.{Apart, records-looked, records-apart, lookup-valid}
use Rattle.laws.specs.Triples.{triples_in, is_byte}
use Rattle.mesh.specs.Subdivide.{Many, subdivide_of, subdivide_triple, subdivide_from, subdivide_all_of}
use Rattle.mesh.specs.Subdivide as divided
use Rattle.text.specs.Line.{lines}
use Rattle.writers.specs.Files.{sorted, redundant, leave_out}
use Rattle.writers.specs.FileLaws.{sorted_rises, sorted-holds, left-rises, left-holds}
use Rattle.readers.specs.Readers.{read_full_of, read_reduced_of}
use Rattle.readers.specs.ReadLaws.{Valid}
use Rattle.archive.specs.Returns.{rising-apart}
use Rattle.archive.specs.Full.{full-accepted}
use Rattle.archive.specs.Reduced.{reduced-accepted}
use Rattle.demands.specs.Points.{OnePoint, one_form, subdivide-spelling}

-- ---- requests in a row: triple i of a list is a, b, m
abbrev pub a_at : List ℤ → ℕ → ℤ
a_at ps i = get_or ps (3 * i) (pos 0)

abbrev pub b_at : List ℤ → ℕ → ℤ
b_at ps i = get_or ps (3 * i + 1) (pos 0)

abbrev pub m_at : List ℤ → ℕ → ℤ
m_at ps i = get_or ps (3 * i + 2) (pos 0)

-- both name one point, or neither names any, its m being in no byte
pub record OneTriple (ps ps' : List ℤ) (i : ℕ) : Type 0 where
  pub byte : is_byte (m_at ps i) ≡ is_byte (m_at ps' i)
  pub point : is_byte (m_at ps i) ≡ true → OnePoint (a_at ps i) (b_at ps i) (nat_abs (m_at ps i)) (a_at ps' i) (b_at ps' i) (nat_abs (m_at ps' i))

pub record OneList (ps ps' : List ℤ) : Type 0 where
  pub count : triples_in ps ≡ triples_in ps'
  pub each : (i : ℕ) → i < triples_in ps → OneTriple ps ps' i

same-choice : {A : Type 0} (b b' : Bool) (x x' y : A) → b ≡ b' → (b ≡ true → x ≡ x') → cond b x y ≡ cond b' x' y
same-choice true true x x' y e h = h refl
same-choice false false x x' y e h = refl
same-choice true false x x' y e h = absurd (not-both refl e)
same-choice false true x x' y e h = absurd (not-both e refl)

triple-spelling : (t : List ℕ) (ps ps' : List ℤ) (i : ℕ) → OneTriple ps ps' i → subdivide_triple t ps i ≡ subdivide_triple t ps' i
unfolding subdivide_triple
triple-spelling t ps ps' i h =
    same-choice (is_byte (m_at ps i)) (is_byte (m_at ps' i))
    (subdivide_of t (a_at ps i) (b_at ps i) (nat_abs (m_at ps i)))
    (subdivide_of t (a_at ps' i) (b_at ps' i) (nat_abs (m_at ps' i)))
    (divided.mesh_after 3 t) h.byte
    (λ e.
    let one = one_form (a_at ps i) (b_at ps i) (nat_abs (m_at ps i)) (a_at ps' i) (b_at ps' i) (nat_abs (m_at ps' i)) (h.point e) in
    subdivide-spelling (a_at ps i) (b_at ps i) (nat_abs (m_at ps i)) (a_at ps' i) (b_at ps' i) (nat_abs (m_at ps' i)) t one)

-- one turn: the answer of triple i, and what follows it
abbrev turn : List ℕ → ℕ → (List ℕ → Many) → divided.MeshAfter → Many
turn t i f o = cond (eqb o.number 0) (f o.bytes) (record { number = o.number; done = i; bytes = t })

turn-same : (t : List ℕ) (i : ℕ) (f g : List ℕ → Many) → ((u : List ℕ) → f u ≡ g u) → (o : divided.MeshAfter) → turn t i f o ≡ turn t i g o
turn-same t i f g h o = ap (λ (x : Many). cond (eqb o.number 0) x (record { number = o.number; done = i; bytes = t })) (h o.bytes)

from-spelling : (ps ps' : List ℤ) (left : ℕ) (t : List ℕ) (i : ℕ) → ((j : ℕ) → j < i + left → OneTriple ps ps' j)
    → subdivide_from t ps i left ≡ subdivide_from t ps' i left
unfolding subdivide_from
from-spelling ps ps' zero t i h = refl
from-spelling ps ps' (suc left) t i h =
    ap (turn t i (λ u. subdivide_from u ps (i + 1) left)) (triple-spelling t ps ps' i (h i (omega arith)))
    ∙ turn-same t i (λ u. subdivide_from u ps (i + 1) left) (λ u. subdivide_from u ps' (i + 1) left)
    (λ u. from-spelling ps ps' left u (i + 1) (λ j l. h j (omega arith)))
    (subdivide_triple t ps' i)

pub all-spelling : (t : List ℕ) (ps ps' : List ℤ) → OneList ps ps' → subdivide_all_of t ps ≡ subdivide_all_of t ps'
unfolding subdivide_all_of
all-spelling t ps ps' h =
    ap (λ (x : Many). cond (in_order_of t) x (record { number = 1; done = 0; bytes = t }))
    (from-spelling ps ps' (triples_in ps) t 0 (λ j l. h.each j (omega arith)) ∙ ap (subdivide_from t ps' 0) h.count)

-- the points of two records are one point, whatever their spellings
abbrev pub OneSpot : Record → Record → Type 0
OneSpot r q = OnePoint r.at.a r.at.b r.at.m.0 q.at.a q.at.b q.at.m.0

pub valid-normal : (r : Record) → valid_of r ≡ true → T (is_normal r.at)
valid-normal r v =
    let m = r.at.m.0 in
    let e : is_normal r.at ≡ true =
    both_left (is_normal r.at) (leb m 6 && (within r.at.a m && (within r.at.b m && suits_of r.d r.k r.n.0))) v in
    subst T (sym e) tt

pub one-point : (r q : Record) → valid_of r ≡ true → valid_of q ≡ true → OneSpot r q → r.at ≡ q.at
one-point r q v w h =
    sym (point-own r.at (valid-normal r v))
    ∙ one_form r.at.a r.at.b r.at.m.0 q.at.a q.at.b q.at.m.0 h
    ∙ point-own q.at (valid-normal q w)

-- ---- tables and files: no two of the records are of one point
abbrev pub OneForms : List Record → Type 0
OneForms [] = Unit
OneForms (r ∷ rs) = ((q : Record) → Memᴰ q rs → OneSpot q r → ⊥) × OneForms rs

apart-forms : (rs : List Record) → Apart rs → Valid rs → OneForms rs
apart-forms [] a v = tt
apart-forms (r ∷ rs) a v = (
  λ q m h. a.0 q m (one-point q r (v q (Memᴰ.tail m)) (v r (Memᴰ.head refl)) h),
  apart-forms rs a.1 (λ q m. v q (Memᴰ.tail m)),
)

table-valid : (t : List ℕ) → InOrder t → Valid (records_of t)
table-valid t o r m = lookup-valid t o r.at r (records-looked t o r m)

-- of a table in order, slot after slot
pub table-forms : (t : List ℕ) → InOrder t → OneForms (records_of t)
table-forms t o = apart-forms (records_of t) (records-apart t o) (table-valid t o)

-- of a file: it is the lines of such records
pub record OneFile (f : List ℕ) : Type 0 where
  pub records : List Record
  pub text : f ≡ lines records
  pub forms : OneForms records

module _ (table scratch f : List ℕ) where
  pub full-forms : (read_full_of table scratch f).number ≡ 0 → OneFile f
  full-forms z =
      let (g, e) = full-accepted table scratch f z in
      let u = (read_full_of table scratch f).table in
      let rs = sorted (records_of u) in
      let v : Valid rs = λ r m. table-valid u g.order r (sorted-holds u r m) in
      record { records = rs; text = e; forms = apart-forms rs (rising-apart rs (sorted_rises u g.order) v) v }

  pub reduced-forms : (read_reduced_of table scratch f).number ≡ 0 → OneFile f
  reduced-forms z =
      let (g, e) = reduced-accepted table scratch f z in
      let u = (read_reduced_of table scratch f).table in
      let rs = sorted (leave_out (redundant u) (records_of u)) in
      let v : Valid rs = λ r m. table-valid u g.order r (left-holds u g.order (redundant u) r m).0 in
      record { records = rs; text = e; forms = apart-forms rs (rising-apart rs (left-rises u g.order (redundant u)) v) v }
