-- `viewer_lines::lines::write_faces` meets its promise. Assumes nothing.
use Rattle.std.proofs.Common.{◌≡◌, ◌≤◌, ◌+◌, ◌-◌, ◌∙◌, ap, subst, List, ℕ, arith, length, drop}
use Rattle.laws.specs.Stores.{Wrote}
use Rattle.sorting.specs.Tally.{nth}
use Rattle.numbering.specs.Guesses.{face_least}
use Rattle.viewer_lines.specs.Packed.{unpacked}
use Rattle.viewer_lines.specs.Backward.{left-start, left-room, left-top, left-place, left_step, left_end}
use Rattle.viewer_lines.specs.Lines.{key_line, Queue, face-least}
use Rattle.viewer_lines.specs.declared.styles.Style.{Style}
use Rattle.viewer_lines.proofs.lines.write_faces.Invariants.{from_of, Going}
use Rattle.viewer_lines.proofs.lines.write_faces.Goals as goal
use Rattle.viewer_lines.proofs.lines.write_faces.Goals.{After-key}

least : (s : Style) (v : ℕ) → face_least ≤ length (key_line s v)
least s v = face-least s (unpacked v)

pub loop-i-init : goal.loop-i-init
loop-i-init c =
    let a = c.args in
    λ ks q. left-start (key_line a.s) (from_of ks a.s a.end) ks a.out.now a.k a.end q.count (omega (arith, q.long)) q.room q.keys

pub key-requires : goal.key-requires
key-requires c =
    let a = c.args in
    let l = c.loop-i in
    let ks = c.requires.1.0 in
    let v = l.invariant ks c.requires.1.1 in
    let room = left-room (key_line a.s) (from_of ks a.s a.end) face_least (least a.s) ks (drop a.end a.out.now) l.out l.i l.at v in
    omega (arith, room, v.room)

-- one key read, and its line
module _ (c : After-key) (ks : List ℕ) (q : Queue c.args.s ks c.args.out.now c.args.k c.args.end) where
  abbrev k : ℕ
  k = c.loop-i.i - 1

  abbrev rest : List ℕ
  rest = drop c.args.end c.args.out.now

  abbrev line : ℕ → List ℕ
  line v = key_line c.args.s v

  abbrev from : ℕ
  from = from_of ks c.args.s c.args.end

  one : Going ks c.args.s c.args.end rest c.loop-i.out (k + 1) c.loop-i.at
  one =
      let e : c.loop-i.i ≡ k + 1 = omega arith in
      subst (λ (x : ℕ). Going ks c.args.s c.args.end rest c.loop-i.out x c.loop-i.at) e (c.loop-i.invariant ks q)

  top : c.key.result ≡ nth ks k
  top = c.key.ensures ∙ left-top line from face_least (least c.args.s) (omega arith) ks rest c.loop-i.out k c.loop-i.at one

  long : length (line c.key.result) ≡ length (line (nth ks k))
  long = ap (λ (v : ℕ). length (line v)) top

  place : length (line c.key.result) ≤ c.loop-i.at
  place = omega (arith, long, left-place line from face_least (least c.args.s) (omega arith) ks rest c.loop-i.out k c.loop-i.at one)

pub face_back-at-requires : goal.face_back-at-requires
face_back-at-requires c =
    let ks = c.requires.1.0 in
    let q = c.requires.1.1 in
    (c.requires.0, (place c ks q, (one c ks q).room))

pub loop-i-preserved : goal.loop-i-preserved
loop-i-preserved c =
    let p = (goal.at.loop-i-preserved c).After-key in
    let o₁ = c.loop-i.out in
    let o₂ = c.face_back-at.new.out in
    let at = c.loop-i.at in
    let at' = c.face_back-at.result in
    λ ks q.
    let e = long p ks q in
    let w = c.face_back-at.ensures.past in
    left_step (line p ks q) (from p ks q) face_least (least c.args.s) (omega arith) ks (rest p ks q) o₁ (k p ks q) at (one p ks q) o₂ at' at (omega arith)
    (subst (λ (v : ℕ). Wrote o₁ at' (line p ks q v) o₂ at) (top p ks q) c.face_back-at.ensures)

pub returns-clause-by_index : goal.returns-clause-by_index
returns-clause-by_index c =
    let a = c.args in
    let l = c.loop-i in
    let rst = drop a.end a.out.now in
    let e : l.i ≡ 0 = omega arith in
    λ ks b r h.
    let f : b ≡ from_of ks a.s a.end = omega arith in
    ap (λ (n : ℕ). drop n l.out) f
    ∙ left_end (key_line a.s) (from_of ks a.s a.end) ks rst l.out l.at
    (subst (λ (x : ℕ). Going ks a.s a.end rst l.out x l.at) e (l.invariant ks r))
