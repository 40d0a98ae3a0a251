-- The writes of a subdivision as the code makes them: what each asks for, and where the loops stand.
-- `Standing` a vertex as it is found · `Renewable`, `whole-renewable` the tables while old adjacent vertices are written · `ByteLevel`, `renew_slot`,
-- `renew-found` one of them, by the slot where its search ended · `old-met`, `new-met`, `entered-come` the slots met serve still, write by write ·
-- `renewed-more`, `entered-more` a loop's one step · `renewed-table`, `entered-table`, `subdivided-length` the lengths · `subdivided-stays` no record
-- moves.
-- Assumes nothing.
use Rattle.std.specs.Prelude.{◌≡◌, refl, List, ℕ, zero, suc, ◌+◌, ◌≤◌, ◌<◌, length, get_or, Option, Some, None}
use Rattle.std.proofs.Common.{sym, ◌∙◌, ap, arith}
use Rattle.geometry.specs.SubdivisionLaws.{update-at}
use Rattle.laws.specs.Choices.{of-true}
use Rattle.lattice.specs.Stars.{adjacent_at}
use Rattle.lattice.specs.Subdivision.{centre_of, born_of, back_of, update_of}
use Rattle.lattice.specs.RecordLaws.{Inner, inner, valid-turn, valid-level}
use Rattle.table.specs.MapLaws.{table_same}
use Rattle.table.specs.Search.{find_of}
use Rattle.table.specs.Entries.{look_up, enter_of, replace_of}
use Rattle.table.specs.MapLaws.{at_held, lookup-valid, enter-length, replace-length, put-replace, replace-find, find-told, table_of}
use Rattle.table.specs.MapLaws.{enter-reaches, enter-stays}
use Rattle.table.specs.Told.{Reaches}
use Rattle.table.specs.Order.{InOrder}
use Rattle.table.specs.Slots.{Table, slots_of, slot_at, put_slot}
use Rattle.lattice.specs.declared.points.Point.{Point}
use Rattle.lattice.specs.declared.records.Record.{Record}
use Rattle.mesh.specs.SubdivideLaws.{Ready, Intact, centre-good, renewed}
use Rattle.mesh.specs.Met.{OldIn, StoppedAt, ComeTo}
use Rattle.mesh.specs.Subdivide.{renew_at, renew_of, renewed_to, entered_to, subdivided}
use Rattle.table.specs.declared.probe.Found.TheVariants as found

-- the tables while the old adjacent vertices are written
pub record Renewable (t : List ℕ) (v : Record) : Type 0 where
  pub inner : Inner v
  pub six : v.d ≡ 6
  pub order : (j : ℕ) → j ≤ 6 → InOrder (renewed_to t v j)
  pub find : (j : ℕ) → j ≤ 6 → (p : Point) → find_of (renewed_to t v j) p ≡ find_of t p

pub ready-inner : {t : List ℕ} {v : Record} → Ready t v → Inner v
ready-inner {t} {v} r = let s = r.six in inner v (of-true (lookup-valid t r.order v.at v r.held)) (omega arith)

module _ {t : List ℕ} {v : Record} (w : Intact t v) where
  -- every search ends where it ended before the centre was written
  centred-find : (p : Point) → find_of (replace_of t (centre_of v)) p ≡ find_of t p
  centred-find p = replace-find t w.ready.order (centre_of v) (centre-good t v w) p

  pub whole-renewable : Renewable (replace_of t (centre_of v)) v
  whole-renewable =
      record {
        inner = ready-inner w.ready;
        six = w.ready.six;
        order = λ j h. (renewed t v w j h).order;
        find = λ j h p. (renewed t v w j h).find p ∙ sym (centred-find p);
      }

  pub old-met : (slots : List ℕ) → OldIn t v slots 6 → OldIn (replace_of t (centre_of v)) v slots 6
  old-met slots m j h = centred-find (adjacent_at v j) ∙ m j h

  -- the searches for the new vertices come as far when the old ones have been written
  pub new-met : (slots : List ℕ) → StoppedAt t (centre_of v) slots 6 → ComeTo (renewed_to (replace_of t (centre_of v)) v 6) (centre_of v) slots 6
  new-met slots m j h =
      let u = renewed_to (replace_of t (centre_of v)) v 6 in
      let r = renewed t v w 6 (omega arith) in
      let p = adjacent_at (centre_of v) j in
      (find-told u (slots_of u) r.order.fits p (found.Free (get_or slots j 0)) (sym (r.find p ∙ m j h))).way

-- a slot whose vertex, if it has one, has a level that can rise
abbrev pub ByteLevel : List ℕ → ℕ → Type 0
ByteLevel t i = (u : Record) → slot_at t i ≡ Some u → u.n.0 < 255

-- the slot i after its vertex's rule
abbrev pub renew_held : List ℕ → ℕ → ℕ → Option Record → List ℕ
renew_held t i k' None = t
renew_held t i k' (Some u) = put_slot t i (update_of k' u)

abbrev pub renew_slot : List ℕ → ℕ → ℕ → List ℕ
renew_slot t i k' = renew_held t i k' (slot_at t i)

-- a vertex as it stands in a table in order
pub record Standing (t : List ℕ) (v : Record) : Type 0 where
  pub order : InOrder t
  pub held : look_up t v.at ≡ Some v

pub ready-turn : {t : List ℕ} {v : Record} → Ready t v → v.k < 12
ready-turn {t} {v} r = valid-turn v (of-true (lookup-valid t r.order v.at v r.held))

pub six_low : {v : Record} → Inner v → v.d ≡ 6 → v.k < 12
six_low {v} i s = let o = i.turn in let l : v.k < 2 = rw s at o in omega arith

-- ---- an old adjacent vertex as the search for it finds it
module _ (t : List ℕ) (o : InOrder t) (p : Point) where
  -- its record can rise
  pub found-low : (i : ℕ) → find_of t p ≡ found.At i → ByteLevel t i
  found-low i e u h = let l = valid-level u (of-true (o.valid i u (at_held t o.fits p i e).below h)) in omega arith

  module _ (v : Record) (j : ℕ) (q : p ≡ adjacent_at v j) where
    renew-looked : (l : Option Record) → look_up t p ≡ l → renew_at t v j l ≡ renew_of t v j
    renew-looked l e = ap (renew_at t v j) (sym e ∙ ap (look_up t) q)

    pub renew-found : (i : ℕ) → find_of t p ≡ found.At i → renew_slot t i (back_of v.k j) ≡ renew_of t v j
    renew-found i e =
        let x = at_held t o.fits p i e in
        let u = update_of (back_of v.k j) x.rec in
        ap (renew_held t i (back_of v.k j)) x.holds
        ∙ put-replace t u i (ap (find_of t) (update-at (back_of v.k j) x.rec ∙ x.point) ∙ e)
        ∙ renew-looked (Some x.rec) x.looked

-- ---- one more vertex written, as the loops count
pub renewed-more : (t : List ℕ) (v : Record) (j : ℕ) → renew_of (renewed_to t v j) v j ≡ renewed_to t v (j + 1)
unfolding renewed_to
renewed-more t v j = let e : j + 1 ≡ suc j = omega arith in ap (renewed_to t v) (sym e)

pub renewed-none : (t : List ℕ) (v : Record) → t ≡ renewed_to t v 0
unfolding renewed_to
renewed-none t v = refl

pub entered-more : (t : List ℕ) (c : Record) (j : ℕ) → enter_of (entered_to t c j) (born_of c j) ≡ entered_to t c (j + 1)
unfolding entered_to
entered-more t c j = let e : j + 1 ≡ suc j = omega arith in ap (entered_to t c) (sym e)

pub entered-none : (t : List ℕ) (c : Record) → t ≡ entered_to t c 0
unfolding entered_to
entered-none t c = refl

pub renew-length : (t : List ℕ) (v : Record) (j : ℕ) → length (renew_of t v j) ≡ length t
renew-length t v j = go (look_up t (adjacent_at v j))
  where
    go : (l : Option Record) → length (renew_at t v j l) ≡ length t
    go None = refl
    go (Some u) = replace-length t (update_of (back_of v.k j) u)

pub renewed-length : (t : List ℕ) (v : Record) (j : ℕ) → length (renewed_to t v j) ≡ length t
unfolding renewed_to
renewed-length t v zero = refl
renewed-length t v (suc j) = renew-length (renewed_to t v j) v j ∙ renewed-length t v j

pub entered-length : (t : List ℕ) (c : Record) (j : ℕ) → length (entered_to t c j) ≡ length t
unfolding entered_to
entered-length t c zero = refl
entered-length t c (suc j) = enter-length (entered_to t c j) (born_of c j) ∙ entered-length t c j

pub renewed-table : (t : List ℕ) (v : Record) (j n : ℕ) → Table t n → Table (renewed_to t v j) n
renewed-table t v j n w = table_same t (renewed_to t v j) n (renewed-length t v j) w

pub entered-table : (t : List ℕ) (c : Record) (j n : ℕ) → Table t n → Table (entered_to t c j) n
entered-table t c j n w = table_same t (entered_to t c j) n (entered-length t c j) w

-- a search comes as far as it came, however many have entered since
pub entered-come : (t : List ℕ) (c : Record) (k n : ℕ) → Table t n → (p : Point) (i : ℕ) → Reaches t p i → Reaches (entered_to t c k) p i
unfolding entered_to
entered-come t c zero n w p i r = r
entered-come t c (suc k) n w p i r =
    enter-reaches (entered_to t c k) (table_of (entered_to t c k) n (entered-table t c k n w)) (born_of c k) p i (entered-come t c k n w p i r)

-- a search that ended at its point ends there still, however many have entered since
entered-stays : (t : List ℕ) (c : Record) (j n : ℕ) → Table t n → (p : Point) (i : ℕ) → find_of t p ≡ found.At i → find_of (entered_to t c j) p ≡ found.At i
unfolding entered_to
entered-stays t c zero n w p i e = e
entered-stays t c (suc j) n w p i e =
    enter-stays (entered_to t c j) (table_of (entered_to t c j) n (entered-table t c j n w)) (born_of c j) p i (entered-stays t c j n w p i e)

-- no record moves: a search that ended at its point ends there still after a subdivision
pub subdivided-stays : (t : List ℕ) (v : Record) → Intact t v → (p : Point) (i : ℕ) → find_of t p ≡ found.At i → find_of (subdivided t v) p ≡ found.At i
unfolding subdivided
subdivided-stays t v w p i e =
    let r = renewed t v w 6 (omega arith) in
    let u = renewed_to (replace_of t (centre_of v)) v 6 in
    entered-stays u (centre_of v) 6 (slots_of u) r.order.fits p i (r.find p ∙ e)

pub subdivided-length : (t : List ℕ) (v : Record) → length (subdivided t v) ≡ length t
unfolding subdivided
subdivided-length t v =
    entered-length (renewed_to (replace_of t (centre_of v)) v 6) (centre_of v) 6 ∙ renewed-length (replace_of t (centre_of v)) v 6 ∙ replace-length t (centre_of v)
