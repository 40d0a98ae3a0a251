-- The room, the keys, sorted, the lines.
use Rattle.std.proofs.Common.{◌≡◌, ℕ, List, false, refl, sym, ◌∙◌, ◌*◌, ◌≤◌, ◌++◌, map, length, drop, ltb, arith, ltb-true, ltb-false}
use Rattle.std.proofs.lemmas.List.{length-map}
use Rattle.table.specs.Slots.{slots_of}
use Rattle.table.specs.Order.{InOrder}
use Rattle.text.specs.Line.{lines}
use Rattle.sorting.specs.Sorting.{key_width, Sorts}
use Rattle.writers.specs.Files.{output_after, put_of}
use Rattle.writers.specs.Kept.{kept_at, standing, key_for}
use Rattle.writers.specs.KeptLaws.{Filled}
use Rattle.writers.specs.LeftLaws.{file_of, keys_of, ordered, lines_of, Keyed, filled-all, counted-all, keys-all, keys-fit}
use Rattle.writers.specs.LeftLaws.{ordered-file, put-short, put-done, ready, ready-past}
use Rattle.writers.proofs.write_kept.Goals as goal

pub returns-then-is_short : goal.returns-then-is_short
returns-then-is_short c =
    let file = file_of c.args.table.now c.args.marks.now in
    let short = ltb-true (length c.args.out.now) (length file) (sym c.if-is_short.ensures) in
    put-short c.args.table.now c.args.marks.now c.args.out.now (length file) refl (omega arith)

pub put_keys-put-requires-clause-n_in_bounds : goal.put_keys-put-requires-clause-n_in_bounds
put_keys-put-requires-clause-n_in_bounds c =
    let file = file_of c.args.table.now c.args.marks.now in
    let enough = ltb-false (length c.args.out.now) (length file) (sym c.if-is_short.ensures) in
    omega (arith, keys-all c.args.table.now c.args.marks.now c.args.n c.requires.in_order.1)

-- the keys stored, with room for the file
module _ (t m o : List ℕ) (n : ℕ) (e : n ≡ slots_of t) (enough : false ≡ ltb (length o) (length (file_of t m))) (o₁ : List ℕ) (k bytes : ℕ)
    (stored : Filled o (map key_for (standing (kept_at t m) n)) o₁ k) (counted : bytes ≡ length (lines (standing (kept_at t m) n))) where
  long : bytes ≡ length (file_of t m)
  long = counted-all t m n e counted

  room : bytes ≤ length o
  room = omega (arith, long, ltb-false (length o) (length (file_of t m)) (sym enough))

  filled : Filled o (keys_of t m) o₁ k
  filled = filled-all t m o n e stored

  keys-room : key_width * k ≤ length o₁
  keys-room =
      let all = filled in
      let each = length-map (standing (kept_at t m) (slots_of t)) key_for in
      omega (arith, keys-fit t m, room, long)

  stand : InOrder t → (o₂ : List ℕ) → Sorts o₁ k o₂ → Keyed (ordered t m) o₂ k bytes
  stand i o₂ s = ready t m o bytes long o₁ o₂ k room filled s i

  written : InOrder t → (o₂ : List ℕ) → Sorts o₁ k o₂ → (o₃ : List ℕ) → o₃ ≡ lines_of (ordered t m) ++ drop bytes o₂
      → output_after 0 bytes o₃ ≡ put_of (file_of t m) o
  written i o₂ s o₃ w =
      let past = ready-past t m o bytes long o₁ o₂ k room filled s in
      put-done t m o bytes long o₃ room (w ∙ (λ j. ordered-file t i m j ++ past j))

pub sort-requires : goal.sort-requires
sort-requires c =
    keys-room c.args.table.now c.args.marks.now c.args.out.now c.args.n c.requires.in_order.1 c.if-is_short.ensures _ _ _
    c.put_keys-put.ensures.filled c.put_keys-put.ensures.bytes_value

pub write_lines-requires : goal.write_lines-requires
write_lines-requires c = (
  ordered c.args.table.now c.args.marks.now,
  stand c.args.table.now c.args.marks.now c.args.out.now c.args.n c.requires.in_order.1 c.if-is_short.ensures _ _ _
      c.put_keys-put.ensures.filled c.put_keys-put.ensures.bytes_value c.requires.in_order.0 _ c.sort.ensures,
)

pub returns : goal.returns
returns c =
    let t = c.args.table.now in
    let m = c.args.marks.now in
    let o = c.args.out.now in
    let put = c.put_keys-put in
    let stands = stand t m o c.args.n c.requires.in_order.1 c.if-is_short.ensures put.new.out put.result.keys put.result.bytes
    put.ensures.filled put.ensures.bytes_value c.requires.in_order.0 c.sort.new.out c.sort.ensures in
    written t m o c.args.n c.requires.in_order.1 c.if-is_short.ensures put.new.out put.result.keys put.result.bytes
    put.ensures.filled put.ensures.bytes_value c.requires.in_order.0 c.sort.new.out c.sort.ensures c.write_lines.new.out
    (c.write_lines.ensures (ordered t m) stands)
