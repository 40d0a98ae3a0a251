-- `viewer_lines::lines::write_vertices` meets its promise. Assumes nothing.
use Rattle.std.proofs.Common.{◌≡◌, ◌≤◌, ◌+◌, ◌-◌, ◌*◌, ◌%◌, sym, ◌∙◌, ap, subst, ℕ, List, arith, length, drop}
use Rattle.laws.specs.Stores.{Wrote}
use Rattle.lattice.specs.declared.records.Record.{Record}
use Rattle.table.specs.Slots.{slot_width}
use Rattle.text.specs.LineOrder.{Close}
use Rattle.sorting.specs.Tally.{nth}
use Rattle.writers.specs.Kept.{places}
use Rattle.numbering.specs.Keyed.{record_keyed}
use Rattle.numbering.specs.Ranks.{ordered}
use Rattle.numbering.specs.Guesses.{vertex_least}
use Rattle.viewer_lines.specs.ViewerLines.{vertex_text}
use Rattle.viewer_lines.specs.Backward.{left-start, left-top, left-place, left_step, left_end}
use Rattle.viewer_lines.specs.Lines.{vertex_line, vertex-least, ordered-inside, keyed-close}
use Rattle.viewer_lines.specs.declared.styles.Style.{Style}
use Rattle.viewer_lines.proofs.lines.write_vertices.Invariants.{from_of, Going}
use Rattle.viewer_lines.proofs.lines.write_vertices.Goals as goal
use Rattle.viewer_lines.proofs.lines.write_vertices.Goals.{After-key, After-record_keyed-r}

least : (t : List ℕ) (s : Style) (v : ℕ) → vertex_least ≤ length (vertex_line s t v)
least t s v = vertex-least s (record_keyed t v)

pub loop-i-init : goal.loop-i-init
loop-i-init c =
    let a = c.args in
    let stand = c.requires.in_order.1 in
    left-start (vertex_line a.s a.t.now) (from_of a.t.now a.s a.end) (ordered a.t.now) a.out.now a.k a.end stand.count
    (omega arith) c.requires.t_len_bound.1 stand.keys

-- one key read: its record and its line
module _ (c : After-key) where
  abbrev t : List ℕ
  t = c.args.t.now

  abbrev s : Style
  s = c.args.s

  abbrev k : ℕ
  k = c.loop-i.i - 1

  abbrev from : ℕ
  from = from_of t s c.args.end

  abbrev rest : List ℕ
  rest = drop c.args.end c.args.out.now

  one : Going t s c.args.end rest c.loop-i.out (k + 1) c.loop-i.at
  one =
      let e : c.loop-i.i ≡ k + 1 = omega arith in
      subst (λ (x : ℕ). Going t s c.args.end rest c.loop-i.out x c.loop-i.at) e c.loop-i.invariant

  top : c.key.result ≡ nth (ordered t) k
  top = c.key.ensures ∙ left-top (vertex_line s t) from vertex_least (least t s) (omega arith) (ordered t) rest c.loop-i.out k c.loop-i.at one

  abbrev rec : Record
  rec = record_keyed t (nth (ordered t) k)

  place : length (vertex_text s rec) ≤ c.loop-i.at
  place = omega (arith, left-place (vertex_line s t) from vertex_least (least t s) (omega arith) (ordered t) rest c.loop-i.out k c.loop-i.at one)

  inside : slot_width * (nth (ordered t) k % places) + slot_width ≤ length t
  inside = ordered-inside t c.requires.in_order.0 k (omega (arith, one.count))

pub record_keyed-r-requires : goal.record_keyed-r-requires
record_keyed-r-requires c = subst (λ (v : ℕ). slot_width * (v % places) + slot_width ≤ length (t c)) (sym (top c)) (inside c)

-- the record is that of the key, and so is its line
read : (p : After-key) (r : Record) → r ≡ record_keyed (t p) p.key.result → r ≡ rec p
read p r e = e ∙ ap (record_keyed (t p)) (top p)

pub vertex_back-at-requires : goal.vertex_back-at-requires
vertex_back-at-requires c =
    let p = (goal.at.vertex_back-at-requires c).After-key in
    let is = read p c.record_keyed-r.result c.record_keyed-r.ensures in
    subst (λ (x : Record). Close x.at × ((length (vertex_text (s p) x) ≤ c.loop-i.at) × (c.loop-i.at ≤ length c.loop-i.out))) (sym is)
    (keyed-close (t p) c.requires.in_order.0 (nth (ordered (t p)) (k p)) (inside p), (place p, (one p).room))

pub loop-i-preserved : goal.loop-i-preserved
loop-i-preserved c =
    let p = (goal.at.loop-i-preserved c).After-key in
    let is = read p c.record_keyed-r.result c.record_keyed-r.ensures in
    let o₁ = c.loop-i.out in
    let o₂ = c.vertex_back-at.new.out in
    let at = c.loop-i.at in
    let at' = c.vertex_back-at.result in
    let wrote = subst (λ (y : Record). Wrote o₁ at' (vertex_text (s p) y) o₂ at) is c.vertex_back-at.ensures in
    left_step (vertex_line (s p) (t p)) (from p) vertex_least (least (t p) (s p)) (omega arith) (ordered (t p)) (rest p) o₁ (k p) at (one p) o₂ at' at
    (omega (arith, wrote.past)) wrote

pub returns-clause-by_index : goal.returns-clause-by_index
returns-clause-by_index c =
    let a = c.args in
    let l = c.loop-i in
    let t = a.t.now in
    let rst = drop a.end a.out.now in
    let e : l.i ≡ 0 = omega arith in
    λ b h.
    let f : b ≡ from_of t a.s a.end = omega arith in
    ap (λ (n : ℕ). drop n l.out) f
    ∙ left_end (vertex_line a.s t) (from_of t a.s a.end) (ordered t) rst l.out l.at
    (subst (λ (x : ℕ). Going t a.s a.end rst l.out x l.at) e l.invariant)
