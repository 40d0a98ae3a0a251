-- A file that is not broken. `Salvages`, `leaves-salvaged` a file of a grown mesh's records, in any order, redundant ones left out or not: the full file, and a
-- line for each that was left out · `shuffled-salvaged` of all its records, in any order, the full file and an empty list, `full-salvaged` so of the full file
-- itself · `reduced-salvaged` of the reduced file the full one.
-- Assumes nothing.
use Rattle.std.specs.Prelude.{◌≡◌, refl, ◌⊎◌, Bool, true, ℕ, ◌≤◌, length}
use Rattle.std.proofs.Common.{sym, ◌∙◌, inl, inr, arith}
use Rattle.std.proofs.Math.Path.{ap, subst}
use Rattle.std.proofs.Math.Bool.{false, cond}
use mathlib.Core.List.Memᴰ
use mathlib.Core.List.{List, [], ◌∷◌, ◌++◌, map, Memᴰ}
use Rattle.laws.specs.Some.{some_of, at_some}
use Rattle.lattice.specs.declared.points.Point.{Point}
use Rattle.lattice.specs.declared.records.Record.{Record}
use Rattle.table.specs.Slots.{lengths_fit, slots_of, cleared_of}
use Rattle.table.specs.SlotLaws.{lengths-table}
use Rattle.table.specs.Search.{same_point}
use Rattle.table.specs.Order.{InOrder}
use Rattle.table.specs.Entries.{look_up, records_of}
use Rattle.table.specs.MapLaws.{Apart, records-apart, records-looked, looked-records, lookup-valid, same_refl}
use Rattle.text.specs.Line.{lines}
use Rattle.text.specs.LineOrder.{close}
use Rattle.sorting.specs.SortLaws.{sort-mem}
use Rattle.writers.specs.Files.{before, sorted, redundant, leave_out, full_file, reduced_file}
use Rattle.writers.specs.FileLaws.{sorted_rises, sorted-holds, holds-sorted, sorted-one, sorted-same, left-rises, left-holds, holds-left}
use Rattle.mesh.specs.Grown.{Grown}
use Rattle.grown.specs.Grown.{grown-is, grown-same}
use Rattle.readers.specs.Readers.{With, restore_all}
use Rattle.readers.specs.ReadLaws.{Valid}
use Rattle.archive.specs.Returns.{rising-apart}
use Rattle.archive.specs.Leaves.{Leaves, valid, few, whole}
use Rattle.salvage_lines.specs.OldLines.{salvaged, kept, clashes}
use Rattle.salvage_lines.specs.ClashLaws.{Agree, agree-none}
use Rattle.salvage.specs.Salvage.{once, sorted_lines, enter_all, filled, restored_in, restored_changes, changes_from, changes}
use Rattle.salvage.specs.Salvage.{salvage_after, refusal, write_both, closing, salvage_of}
use Rattle.salvage.specs.MendLaws.{once-whole, sorted-whole}
use Rattle.salvage.specs.EnterLaws.{filled-lined}
use Rattle.salvaged.specs.WholeLaws.{as_written, salvaged-lines, kept-lines, changes-none}

apart-agree : (rs : List Record) → Apart rs → Agree rs
apart-agree [] a r q m n e = absurd (Memᴰ.not-nil m)
apart-agree (x ∷ xs) a r q m n e = go (Memᴰ.cases_cons m) (Memᴰ.cases_cons n) (λ k l. apart-agree xs a.1 r q k l e)
  where
    go : (r ≡ x) ⊎ Memᴰ r xs → (q ≡ x) ⊎ Memᴰ q xs → (Memᴰ r xs → Memᴰ q xs → r ≡ q) → r ≡ q
    go (inl k) (inl l) ih = k ∙ sym l
    go (inl k) (inr l) ih = absurd (a.0 q l (sym e ∙ ap (λ (y : Record). y.at) k))
    go (inr k) (inl l) ih = absurd (a.0 r k (e ∙ ap (λ (y : Record). y.at) l))
    go (inr k) (inr l) ih = ih k l

module _ (t s o l : List ℕ) (rs : List Record) (a : Apart rs) (v : Valid rs) (fit : lengths_fit t s ≡ true) where
  -- nothing clashes, and nothing is repeated
  whole-salvaged : salvage_of t s (lines rs) o l ≡ closing t s o l (map as_written rs) (filled (sorted rs) (cleared_of t))
  unfolding salvage_of
  whole-salvaged =
      let ms = salvaged-lines rs v in
      let k : kept (salvaged (lines rs)) ≡ rs = ap kept ms ∙ kept-lines rs in
      let none : clashes (kept (salvaged (lines rs))) ≡ false = ap clashes k ∙ agree-none rs (apart-agree rs a) in
      let sort : sorted_lines (salvaged (lines rs)) ≡ sorted rs
      = ap (λ (x : List Record). sorted (once x)) k ∙ ap sorted (once-whole [] rs a (λ r m. refl)) in
      (λ i. cond (fit i) (cond (none i) (refusal 20 t s o l) (closing t s o l (ms i) (filled (sort i) (cleared_of t)))) (salvage_after 1 0 0 t s o l))

-- table u has the records of m, and the call wrote the full file of m and this list
pub record Salvages (m f list t s o l : List ℕ) : Type 0 where
  pub table : List ℕ
  pub order : InOrder table
  pub same : (p : Point) → look_up table p ≡ look_up m p
  pub is : salvage_of t s f o l ≡ write_both t s o l table (full_file m) list

-- the records of a grown mesh in any order, redundant ones left out or not
pub leaves-salvaged : (m : List ℕ) → Grown m → (rs : List Record) → Apart rs → Leaves m (sorted rs) → (t s o l : List ℕ) → lengths_fit t s ≡ true
    → length (records_of m) ≤ slots_of t → Salvages m (lines rs) (restored_changes (restored_in rs m)) t s o l
unfolding filled changes
leaves-salvaged m g rs a x t s o l fit room =
    let n = slots_of t in
    let qs = sorted rs in
    let w = lengths-table t s fit in
    let v = valid m g qs x in
    let (u, e, lined) = filled-lined t n w qs x.rises v (let k = few m g qs x in omega arith) in
    let (y, r, order, same) = whole m g qs x (lines qs) n u lined room in
    let all : restore_all qs (enter_all qs (With (cleared_of t))) ≡ With y = ap (restore_all qs) e ∙ r in
    let grown = grown-is y (grown-same m y order same g) in
    let file : sorted (records_of y) ≡ sorted (records_of m) = records-file y m order g.order same in
    let none : changes_from 1 [] (map as_written rs) ≡ [] = changes-none 1 [] rs a (λ q k. refl) in
    let list : List Record → List Record → List ℕ = λ ls all. restored_changes (leave_out (λ q. some_of (λ z. same_point z.at q.at) ls) all) in
    record {
      table = y;
      order = order;
      same = same;
      is =
          whole-salvaged t s o l rs a (λ q k. v q (sort-mem before rs q k)) fit
          ∙ ap (closing t s o l (map as_written rs)) all
          ∙ (λ i. cond (grown i) (write_both t s o l y (lines (file i)) (none i ++ list (kept-lines rs i) (file i))) (refusal 11 t s o l));
    }
  where
    records-file : (y m : List ℕ) → InOrder y → InOrder m → ((p : Point) → look_up y p ≡ look_up m p) → sorted (records_of y) ≡ sorted (records_of m)
    records-file y m a b e =
        sorted-one m b (sorted (records_of y)) (sorted_rises y a)
        (λ r k. looked-records m b r.at r (sym (e r.at) ∙ records-looked y a r (sorted-holds y r k)))
        (λ r k. holds-sorted y r (looked-records y a r.at r (e r.at ∙ records-looked m b r k)))

-- nothing is left out of a list by a test that passes at all of it
leave-all : (f : Record → Bool) (rs : List Record) → ((r : Record) → Memᴰ r rs → f r ≡ true) → leave_out f rs ≡ []
unfolding leave_out
leave-all f [] h = refl
leave-all f (r ∷ rs) h =
    ap (λ (b : Bool). cond b (leave_out f rs) (r ∷ leave_out f rs)) (h r (Memᴰ.head refl)) ∙ leave-all f rs (λ q m. h q (Memᴰ.tail m))

module _ (m : List ℕ) (g : Grown m) (t s o l : List ℕ) (fit : lengths_fit t s ≡ true) (room : length (records_of m) ≤ slots_of t) where
  -- all its records, in any order: nothing is listed
  pub shuffled-salvaged : (rs : List Record) → Apart rs → ((r : Record) → Memᴰ r rs → Memᴰ r (records_of m))
      → ((r : Record) → Memᴰ r (records_of m) → Memᴰ r rs) → Salvages m (lines rs) [] t s o l
  unfolding restored_changes
  shuffled-salvaged rs a only all =
      let good : Valid (records_of m) = λ r k. lookup-valid m g.order r.at r (records-looked m g.order r k) in
      let same : sorted (records_of m) ≡ sorted rs
      = sorted-same (records_of m) rs (records-apart m g.order) a (λ r k. close r (good r k)) (λ r k. close r (good r (only r k))) all only in
      let x : Leaves m (sorted (records_of m)) = record {
        rises = sorted_rises m g.order;
        held = λ r k. records-looked m g.order r (sorted-holds m r k);
        rest = λ r h e. holds-sorted m r (looked-records m g.order r.at r h);
      } in
      let none : restored_in rs m ≡ []
      = leave-all (λ r. some_of (λ q. same_point q.at r.at) rs) (sorted (records_of m))
      (λ r k. at_some (λ q. same_point q.at r.at) rs r (all r (sorted-holds m r k)) (same_refl r.at)) in
      let w = leaves-salvaged m g rs a (subst (Leaves m) same x) t s o l fit room in
      subst (λ (x : List Record). Salvages m (lines rs) (restored_changes x) t s o l) none w

  -- "An undamaged full file gives an empty list and itself."
  pub full-salvaged : Salvages m (full_file m) [] t s o l
  full-salvaged =
      let rs = sorted (records_of m) in
      shuffled-salvaged rs (rising-apart rs (sorted_rises m g.order)
      (λ r k. lookup-valid m g.order r.at r (records-looked m g.order r (sorted-holds m r k))))
      (λ r k. sorted-holds m r k)
      (λ r k. holds-sorted m r k)

  -- of the reduced file the full one, and a line for each record that it left out
  pub reduced-salvaged : Salvages m (reduced_file m) (restored_changes (restored_in (sorted (leave_out (redundant m) (records_of m))) m)) t s o l
  reduced-salvaged =
      let rs = sorted (leave_out (redundant m) (records_of m)) in
      let rises = left-rises m g.order (redundant m) in
      let x : Leaves m rs = record {
        rises = rises;
        held = λ r k. records-looked m g.order r (left-holds m g.order (redundant m) r k).0;
        rest = λ r h e. holds-left m g.order (redundant m) r (looked-records m g.order r.at r h) e;
      } in
      leaves-salvaged m g rs (rising-apart rs rises (valid m g rs x)) (subst (Leaves m) (sym (sorted-whole rs rises)) x) t s o l fit room
