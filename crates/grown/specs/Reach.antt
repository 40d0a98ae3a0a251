-- Every grown sheet that a table in order holds is made by document 01's calls, in a table of its own room: `sheet-reached`.
-- By induction on how the sheet was grown. Its points stay, so all that came before has points of the table only; so the base finds room, and before
-- each subdivision six slots are free: those of the six points that it adds. `Tabled` a sheet and the table that the calls made · `made-base`,
-- `made-step`, `made`.
-- Assumes nothing.
use Rattle.std.specs.Prelude.{◌≡◌, Bool, true, cond, List, ℕ, ◌+◌, ◌≤◌, ◌<◌, ℤ, Option, Some, None}
use Rattle.std.proofs.Common.{sym, ◌∙◌, ap, subst, arith}
use Rattle.std.proofs.Math.Path.{fun_ext}
use Rattle.laws.specs.Choices.{is_true}
use Rattle.lattice.specs.declared.points.Point.{Point}
use Rattle.lattice.specs.declared.records.Record.{Record}
use Rattle.growth.specs.Sheets.{Sheet, UntornAt, Step, CentreSet, start, grow, GrownSheet, base_sheet}
use Rattle.growth.specs.Growth.{step-unique}
use Rattle.growth.specs.Local.{there}
use Rattle.growth.specs.LocalTests.{some-there}
use Rattle.table.specs.Entries.{look_up, records_of}
use Rattle.table.specs.MapLaws.{lookup-point, looked-records, records-count}
use Rattle.table.specs.Order.{InOrder}
use Rattle.table.specs.Slots.{slots_of, free_slots}
use Rattle.base.specs.Base.{centres_in, is_listed, base_of}
use Rattle.base.specs.BaseLaws.{BaseEnd, refused, short, done, base-end, base-accepts, base-order}
use Rattle.base.specs.Vertices.{in_base, base_record, points_in}
use Rattle.mesh.specs.Grown.{Reached, laid, divided, Grown}
use Rattle.mesh.specs.Subdivide.{subdivide_of}
use Rattle.local.specs.Sheet.{as_option, sheet_of}
use Rattle.grown.specs.Bases.{list-sheet, base-sheet}
use Rattle.grown.specs.Steps.{sheet-held, sheet-absent, accepted, whole-accepted, whole-step}
use Rattle.grown.specs.Room.{Covered, count, count-all, count_less, count-base, count-step, covered-before}
use Rattle.grown.specs.Lists.{base-numbers}
use Rattle.base.specs.Base as call

-- the slots that a base leaves free
pub base-free : (t : List ℕ) (cs : List ℤ) → (base_of t cs).number ≡ 0 → free_slots (base_of t cs).bytes + points_in cs (centres_in cs) ≡ slots_of t
base-free t cs z = go (base-end t cs)
  where
    go : BaseEnd t cs → free_slots (base_of t cs).bytes + points_in cs (centres_in cs) ≡ slots_of t
    go (refused a b c) = absurd (omega arith)
    go (short a e) = let n : (base_of t cs).number ≡ 8 = ap (λ (x : call.BaseAfter). x.number) e in absurd (omega arith)
    go (done u g h e) =
        let f : free_slots (base_of t cs).bytes ≡ free_slots u = ap (λ (x : call.BaseAfter). free_slots x.bytes) e in
        omega (arith, h.count, h.wide, records-count u)

module _ (t : List ℕ) (o : InOrder t) where
  -- the records that there is room for
  abbrev rs : List Record
  rs = records_of t

  -- a table that the calls made, with the sheet R: what it lacks of t's room stands at points of t
  pub record Tabled (R : Sheet) : Type 0 where
    pub table : List ℕ
    pub reached : Reached table
    pub order : InOrder table
    pub same : (p : Point) → sheet_of table p ≡ R p
    pub room : slots_of t ≤ free_slots table + count rs (there R)

  pub made-base : (H : Point → Bool) (R : Sheet) → CentreSet H → ((p : Point) → R p ≡ base_sheet H p) → Covered R rs → Tabled R
  made-base H R b is within =
      record {
        table = (base_of t cs).bytes;
        reached = laid t cs accepts;
        order = base-order t cs accepts;
        same = λ p. base-sheet t cs accepts p ∙ sheet p;
        room = omega (arith, base-free t cs accepts, points, seen);
      }
    where
      cs : List ℤ
      cs = (base-numbers H b).list

      sheet : (p : Point) → base_sheet (is_listed cs) p ≡ R p
      sheet p = ap (λ (K : Point → Bool). base_sheet K p) (fun_ext (base-numbers H b).same) ∙ sym (is p)

      vertex : (p : Point) → in_base cs p ≡ true → R p ≡ Some (base_record (is_listed cs) p)
      vertex p e =
          sym (sheet p) ∙ sym (list-sheet cs (base-numbers H b).good p) ∙ ap (λ (x : Bool). as_option (cond x (Some (base_record (is_listed cs) p)) None)) e

      points : points_in cs (centres_in cs) ≤ count rs (in_base cs)
      points = count-base rs cs (centres_in cs) (λ p e. within p (base_record (is_listed cs) p) (vertex p e))

      seen : count rs (in_base cs) ≤ count rs (there R)
      seen = count_less rs (in_base cs) (there R) (λ p e. is_true (there R p) (some-there R p (base_record (is_listed cs) p) (vertex p e)))

      accepts : (base_of t cs).number ≡ 0
      accepts = base-accepts t cs o.fits (base-numbers H b).good (omega (arith, points, count-all rs (in_base cs), records-count t))

  pub made-step : (R : Sheet) (v : Record) (R' : Sheet) → Tabled R → R v.at ≡ Some v → v.d ≡ 6 → v.n.0 < 12 → UntornAt R v → Step R v R' → Covered R' rs
      → Tabled R'
  made-step R v R' m x six low w s within =
      let r = accepted u v.at.a v.at.b v.at.m.0 yes-accepted in
      record {
        table = (subdivide_of u v.at.a v.at.b v.at.m.0).bytes;
        reached = divided u m.reached v.at.a v.at.b v.at.m.0 yes-accepted;
        order = r.kept;
        same =
            step-unique (sheet_of u) v
            (sheet_of (subdivide_of u v.at.a v.at.b v.at.m.0).bytes) R' whole (whole-step u m.order v held six low whole free)
            (subst (λ (S : Sheet). Step S v R') (sym is) s);
        room = omega (arith, r.free, m.room, six-more);
      }
    where
      u : List ℕ
      u = m.table

      is : sheet_of u ≡ R
      is = fun_ext m.same

      held : look_up u v.at ≡ Some v
      held = sheet-held (look_up u v.at) v (m.same v.at ∙ x)

      whole : UntornAt (sheet_of u) v
      whole = subst (λ (S : Sheet). UntornAt S v) (sym is) w

      six-more : count rs (there R) + 6 ≤ count rs (there R')
      six-more = count-step R v R' w s six rs within

      free : 6 ≤ free_slots u
      free = omega (arith, m.room, six-more, count-all rs (there R'), records-count t)

      yes-accepted : (subdivide_of u v.at.a v.at.b v.at.m.0).number ≡ 0
      yes-accepted = whole-accepted u m.order v held six low whole free

  pub made : (R : Sheet) → GrownSheet R → Covered R rs → Tabled R
  made _ (start H R b is) within = made-base H R b is within
  made _ (grow R v R' g x six low w s) within = made-step R v R' (made R g (covered-before R v R' w s rs within)) x six low w s within

  -- ---- document 01's "grown", from the model's
  pub sheet-reached : GrownSheet (sheet_of t) → Grown t
  sheet-reached g =
      let m = made (sheet_of t) g within in
      record { order = o; table = m.table; reached = m.reached; same = λ p. alike (look_up t p) (look_up m.table p) (sym (m.same p)) }
    where
      within : Covered (sheet_of t) rs
      within p r e = let h = sheet-held (look_up t p) r e in (r, looked-records t o p r h, lookup-point t o p r h)

      alike : (l k : Option Record) → as_option l ≡ as_option k → l ≡ k
      alike None k e = sym (sheet-absent k (sym e))
      alike (Some r) k e = sym (sheet-held k r (sym e))
