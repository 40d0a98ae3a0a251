-- The laws of a search in a table, for the code: `home-reached` it comes to its home slot, `resumed-find` it may start at any slot that it comes to,
-- `reached-at`, `reached-found` and ends there where that holds its point ·
-- `find-told` what it tells, `resumed` it goes on from the slot told when slots have filled · `at_room`, `free-room` the slot where it ends lies in the table.
-- Assumes nothing.
use Rattle.std.specs.Prelude.{◌≡◌, refl, true, List, ℕ, ◌+◌, ◌-◌, ◌*◌, ◌≤◌, ◌<◌, length}
use Rattle.std.proofs.Math.Path.{sym, ap, subst}
use Rattle.std.proofs.Common.{◌∙◌, arith, eq-eqb}
use Rattle.lattice.specs.declared.points.Point.{Point}
use Rattle.table.specs.Slots.{slot_width, Table, slots_of, slot_at}
use Rattle.table.specs.Search.{home_of, meets, next, settle, search_from, seek, find_of}
use Rattle.table.specs.Order.{is_at}
use Rattle.table.specs.Told.{ComesTo, Reaches, Told, Fills}
use Rattle.table.specs.SlotLaws.{table-slots, home_below}
use Rattle.table.specs.SearchLaws.{search-turn, steps-lo, other-another, search-resumed, comes-filled}
use Rattle.table.specs.OrderLaws.{found_at, free-at, slots-some, Passed, Result, result, at, gap, none}
use Rattle.table.specs.declared.probe.Meet.{Meet}
use Rattle.table.specs.declared.probe.Meet.TheVariants.{Hit}
use Rattle.table.specs.declared.probe.Found.{Found}
use Rattle.table.specs.declared.probe.Found.TheVariants as found

module _ (t : List ℕ) (n : ℕ) (w : Table t n) (p : Point) where
  found-seek : (o : Found) → find_of t p ≡ o → seek n (slot_at t) p ≡ o
  unfolding find_of
  found-seek o e = ap (λ (k : ℕ). seek k (slot_at t) p) (sym (table-slots t n w)) ∙ e

  some : 0 < slots_of t
  some = omega (arith, table-slots t n w, slots-some t n w)

  -- no slot lies before home
  pub home-reached : (h : ℕ) → h ≡ home_of p n → Reaches t p h
  home-reached h e = subst (Reaches t p) (ap (home_of p) (table-slots t n w) ∙ sym e) (record {
    below = home_below (slots_of t) some p;
    before = λ s l m. absurd (let k = home_of p (slots_of t) in let r : k ≤ k = omega arith in omega (arith, steps-lo (slots_of t) k k r, m));
  })

  pub resumed-find : (i : ℕ) → Reaches t p i → (o : Found) → o ≡ search_from (λ s. meets (slot_at t s) p) n i n → o ≡ find_of t p
  unfolding find_of
  resumed-find i c o x =
      x ∙ ap (λ (k : ℕ). search_from (λ s. meets (slot_at t s) p) k i k) (sym (table-slots t n w))
      ∙ sym (search-resumed (slots_of t) (slot_at t) p i (home_below (slots_of t) some p) c)

  -- a search that comes to a slot that holds its point ends there
  pub reached-at : (i : ℕ) → Reaches t p i → meets (slot_at t i) p ≡ Hit → find_of t p ≡ found.At i
  reached-at i c e =
      let look : ℕ → Meet = λ s. meets (slot_at t s) p in
      let turn = search-turn look n i n (omega (arith, w.least)) ∙ ap (λ (m : Meet). settle m i (search_from look n (next n i) (n - 1))) e in
      sym (resumed-find i c (found.At i) (sym turn))

  pub reached-found : (i : ℕ) → Reaches t p i → meets (slot_at t i) p ≡ Hit → true ≡ is_at (find_of t p) i
  reached-found i c e = sym (ap (λ (o : Found). is_at o i) (reached-at i c e) ∙ eq-eqb i i refl)

  way : (i : ℕ) → i < slots_of t → Passed (slots_of t) some (slot_at t) p i → Reaches t p i
  way i l os = record { below = l; before = λ s m k. other-another (slot_at t s) p (os s m k) }

  told-by : Result (slots_of t) some (slot_at t) p → Told t p (seek (slots_of t) (slot_at t) p)
  told-by (at i e h) = subst (Told t p) (sym e) (record { way = way i h.below h.others; rec = h.rec; holds = h.held; point = h.same })
  told-by (gap i e h) = subst (Told t p) (sym e) (record { way = way i h.below h.others; free = h.free })
  told-by (none e h) = subst (Told t p) (sym e) (λ s l. other-another (slot_at t s) p (h s l))

  pub find-told : (o : Found) → o ≡ find_of t p → Told t p o
  unfolding find_of
  find-told o e = subst (Told t p) (sym e) (told-by (result (slots_of t) some (slot_at t) p))

  -- the search from slot i on, in a table u whose slots have only filled since
  pub resumed : (i : ℕ) → find_of t p ≡ found.Free i → (u : List ℕ) → slots_of u ≡ slots_of t → Fills (slots_of t) (slot_at t) (slot_at u)
      → find_of u p ≡ search_from (λ s. meets (slot_at u s) p) (slots_of u) i (slots_of u)
  unfolding find_of
  resumed i e u k f =
      let c = comes-filled (slots_of t) (slot_at t) (slot_at u) p i f (find-told (found.Free i) (sym e)).way in
      let l : 0 < slots_of u = omega (arith, k, some) in
      search-resumed (slots_of u) (slot_at u) p i (home_below (slots_of u) l p) (subst (λ (m : ℕ). ComesTo m (slot_at u) p i) (sym k) c)

  pub at_room : (i : ℕ) → find_of t p ≡ found.At i → slot_width * i + slot_width ≤ length t
  at_room i e = omega (arith, w.long, (found_at n (slots-some t n w) (slot_at t) p i (found-seek (found.At i) e)).below)

  pub free-room : (i : ℕ) → find_of t p ≡ found.Free i → slot_width * i + slot_width ≤ length t
  free-room i e = omega (arith, w.long, (free-at n (slots-some t n w) (slot_at t) p i (found-seek (found.Free i) e)).below)
