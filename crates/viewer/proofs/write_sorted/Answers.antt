-- `viewer::write_sorted` meets its promise: the keys sorted, how long their lines are, then the lines. Assumes nothing.
use Rattle.std.proofs.Common.{◌≡◌, sym, ◌∙◌, ap, subst, List, ◌++◌, ℕ, ◌+◌, arith, ltb, length, drop}
use Rattle.sorting.specs.Sorting.{sort_by}
use Rattle.viewer_lines.specs.ViewerLines.{texts}
use Rattle.viewer_lines.specs.Backward.{texts-sort}
use Rattle.viewer_lines.specs.Lines.{key_line, Queue}
use Rattle.viewer_lines.specs.declared.styles.Style.{Style}
use Rattle.viewer.specs.BodyLaws.{queue-keys, queue-sorted, queue-lines, queue-past}
use Rattle.viewer.proofs.write_sorted.Goals as goal
use Rattle.viewer.proofs.write_sorted.Goals.{After-keys_length}

-- where the lines of the keys ks end
abbrev end : Style → ℕ → List ℕ → ℕ
end s start ks = start + length (texts (key_line s) ks)

pub sort-requires : goal.sort-requires
sort-requires c =
    let a = c.args in
    let ks = c.requires.1.0 in
    let q = c.requires.1.1 in
    omega (arith, queue-keys a.s ks a.out.now a.k (end a.s a.start ks) q, q.room)

pub keys_length-requires-clause-first_bound : goal.keys_length-requires-clause-first_bound
keys_length-requires-clause-first_bound c =
    let a = c.args in
    let ks = c.requires.1.0 in
    let q = c.requires.1.1 in
    (c.requires.0, omega (arith, queue-keys a.s ks a.out.now a.k (end a.s a.start ks) q, q.room, c.sort.ensures.long))

pub keys_length-requires-clause-k_in_bounds : goal.keys_length-requires-clause-k_in_bounds
keys_length-requires-clause-k_in_bounds c =
    let a = c.args in
    let ks = c.requires.1.0 in
    let q = c.requires.1.1 in
    omega (arith, queue-lines a.s ks a.out.now a.k (end a.s a.start ks) q c.sort.new.out c.sort.ensures, q.room, c.sort.ensures.long)

pub overflow_add-end : goal.overflow_add-end
overflow_add-end c =
    let a = c.args in
    let ks = c.requires.1.0 in
    let q = c.requires.1.1 in
    omega (arith, c.keys_length.ensures, queue-lines a.s ks a.out.now a.k (end a.s a.start ks) q c.sort.new.out c.sort.ensures, q.room)

-- past the length
module _ (c : After-keys_length) (ks : List ℕ) (q : Queue c.args.s ks c.args.out.now c.args.k (end c.args.s c.args.start ks)) where
  ends : c.args.start + c.keys_length.result ≡ end c.args.s c.args.start ks
  ends =
      let a = c.args in
      ap (λ (n : ℕ). a.start + n) (c.keys_length.ensures ∙ queue-lines a.s ks a.out.now a.k (end a.s a.start ks) q c.sort.new.out c.sort.ensures)

  sorted : Queue c.args.s (sort_by ltb ks) c.sort.new.out c.args.k (c.args.start + c.keys_length.result)
  sorted =
      let a = c.args in
      subst (λ (n : ℕ). Queue a.s (sort_by ltb ks) c.sort.new.out a.k n) (sym ends)
      (queue-sorted a.s ks a.out.now a.k (end a.s a.start ks) q c.sort.new.out c.sort.ensures)

pub write_faces-requires : goal.write_faces-requires
write_faces-requires c =
    (c.requires.0, (sort_by ltb c.requires.1.0, sorted (goal.at.write_faces-requires c).After-keys_length c.requires.1.0 c.requires.1.1))

pub returns-clause-by_index : goal.returns-clause-by_index
returns-clause-by_index c =
    let x = (goal.at.returns-clause-by_index c).After-keys_length in
    let a = c.args in
    λ ks q. (
      ends x ks q,
      c.write_faces.ensures.by_index (sort_by ltb ks) a.start (sorted x ks q) (omega (arith, texts-sort (key_line a.s) ltb ks, ends x ks q))
          ∙ ap (λ (l : List ℕ). texts (key_line a.s) (sort_by ltb ks) ++ l)
          (ap (λ (n : ℕ). drop n c.sort.new.out) (ends x ks q)
          ∙ queue-past a.s ks a.out.now a.k (end a.s a.start ks) q c.sort.new.out c.sort.ensures),
    )
