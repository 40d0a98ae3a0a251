-- One slot more: what is stored of it has room, and is counted.
use Rattle.std.specs.Prelude.{Option, Some, None}
use Rattle.std.proofs.Common.{◌≡◌, ℕ, List, refl, sym, ap, subst, map, length, ◌+◌, arith}
use Rattle.std.proofs.lemmas.List.{length-map}
use Rattle.table.specs.Entries.{listed}
use Rattle.lattice.specs.declared.records.Record.{Record}
use Rattle.text.specs.LineLengths.{line-most, lines-least}
use Rattle.sorting.specs.Keys.{Put}
use Rattle.writers.specs.declared.kept.Amount.{Amount}
use Rattle.writers.specs.Kept.{kept_at, standing, key_for, Added}
use Rattle.writers.specs.KeptLaws.{Filled, filled_none, kept_near, kept-valid, standing-start, standing-length, standing-most, written_none, written_one}
use Rattle.writers.specs.FileKeys.{standing-none, standing-room, filled_next}
use Rattle.writers.proofs.kept.put_keys.Goals as goal
use Rattle.writers.proofs.kept.put_keys.Goals.{in-Some, in_default}

module _ (f : ℕ → Option Record) (i : ℕ) (o o₁ : List ℕ) (k : ℕ) (w : Filled o (map key_for (standing f i)) o₁ k) where
  passed : None ≡ f i → Filled o (map key_for (standing f (i + 1))) o₁ k
  passed e = filled_next f i o o₁ o₁ k k w (subst (λ (s : Option Record). Added o₁ k (map key_for (listed s)) o₁ k) e (refl, refl))

  stored : (o₂ : List ℕ) (v : ℕ) (r : Record) → Some r ≡ f i → v ≡ key_for r → Put o₁ k v o₂ → Filled o (map key_for (standing f (i + 1))) o₂ (k + 1)
  stored o₂ v r e is p =
      filled_next f i o o₁ o₂ k (k + 1) w
      (subst (λ (s : Option Record). Added o₁ k (map key_for (listed s)) o₂ (k + 1)) e (subst (λ (x : ℕ). Put o₁ k x o₂) is p, refl))

pub loop-i-init : goal.loop-i-init
loop-i-init c =
    let o = c.args.out.now in
    let f = kept_at c.args.table.now c.args.marks.now in
    record { filled = subst (λ (ks : List ℕ). Filled o ks o 0) (sym (standing-none f)) (filled_none o); counted = standing-start f }

pub pack-requires : goal.pack-requires
pack-requires c = kept_near c.args.table.now c.requires.in_order.0 c.args.marks.now c.loop-i.i c.in-Some.r (omega arith) (sym c.in-Some.ensures)

pub put_key-requires : goal.put_key-requires
put_key-requires c =
    let f = kept_at c.args.table.now c.args.marks.now in
    let i = c.loop-i.i in
    let one = ap (λ (s : Option Record). length (listed s)) (sym c.in-Some.ensures) in
    let room = standing-room f i c.args.n (omega arith) in
    omega (arith, length-map (standing f i) key_for)

pub overflow_add-put : goal.overflow_add-put
overflow_add-put c =
    let f = kept_at c.args.table.now c.args.marks.now in
    let i = c.loop-i.i in
    let most = standing-most c.args.table.now c.requires.in_order.0 c.args.marks.now i (omega arith) in
    record { fits = omega (arith, length-map (standing f i) key_for, lines-least (standing f i)) }

pub overflow_add-put-in-Some : goal.overflow_add-put-in-Some
overflow_add-put-in-Some c =
    let t = c.args.table.now in
    let m = c.args.marks.now in
    let i = c.loop-i.i in
    let r = c.in-Some.r in
    let one = line-most r (kept-valid t c.requires.in_order.0 m i r (omega arith) (sym c.in-Some.ensures)) in
    let most = standing-most t c.requires.in_order.0 m i (omega arith) in
    record { fits = omega (arith, c.line_length.ensures) }

pub loop-i-preserved : goal.loop-i-preserved
loop-i-preserved c =
    let o = c.args.out.now in
    let f = kept_at c.args.table.now c.args.marks.now in
    let i = c.loop-i.i in
    let more = standing-length f i in
    elim c.match-kept.branch [
      | in-Some w ↦ record {
        filled = rw (w.out-is, w.put-is)
            (stored f i o c.loop-i.out c.loop-i.put.keys c.loop-i.invariant.filled w.put_key.new.out w.pack.result w.in-Some.r
            w.in-Some.ensures w.pack.ensures w.put_key.ensures);
        counted = omega (arith, ap (λ (x : Amount). x.bytes) w.put-is, w.line_length.ensures, written_one (f i) w.in-Some.r (sym w.in-Some.ensures));
      }
      | in_default w ↦ record {
        filled = rw (w.out-is, w.put-is) (passed f i o c.loop-i.out c.loop-i.put.keys c.loop-i.invariant.filled w.in_default.ensures);
        counted = omega (arith, ap (λ (x : Amount). x.bytes) w.put-is, written_none (f i) (sym w.in_default.ensures));
      }
    ]
