-- `table::put_bytes` meets its promise: what a copy over a part leaves. Assumes nothing.
use Rattle.std.proofs.Common.{◌≡◌, List, ℕ, ◌+◌, ◌≤◌, ◌++◌, length, take, drop, refl, sym, ap, ◌∙◌, append_assoc, arith}
use Rattle.std.proofs.lemmas.Slice.{put_mid-paste}
use Rattle.std.proofs.lemmas.List.Edits.{sets, sets-eq, paste_all}
use borrow.Rule.Slice.PartMut.{put_mid}
use Rattle.table.proofs.bytes.put_bytes.Goals as goal

put_sets : (l vs : List ℕ) (i k : ℕ) → k ≡ length vs → i + length vs ≤ length l → put_mid i k l vs ≡ sets l i vs
put_sets l vs i k e h =
    put_mid-paste i k l vs vs k refl refl e ∙ paste_all l i vs k e ∙ ap (λ (n : ℕ). take i l ++ (vs ++ drop (i + n) l)) e
    ∙ sym (sets-eq vs l i h ∙ append_assoc (take i l) vs (drop (i + length vs) l))

pub returns : goal.returns
returns c = rw c.copy_from_slice.ensures.after (put_sets c.args.t.now c.args.bytes c.args.p _ (omega arith) (omega arith))
