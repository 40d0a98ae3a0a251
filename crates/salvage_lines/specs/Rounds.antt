-- Lines taken into a table as a set of records: what the promises of rounds.rt cite. `Takes` one record · `Goes` one line · `Gathers` the lines from a
-- position on · `Gathering` the same on the way: `gathering-start`, `gathering-on`, `gathering-all`, `gathering-clash`, `gathering-full`, `gathering-upto`.
-- Assumes nothing.
use Rattle.std.specs.Prelude.{◌≡◌, refl, ◌⊎◌, Bool, true, false, not, ℕ, ◌+◌, ◌-◌, ◌≤◌, ◌<◌, length, Option, Some, None}
use Rattle.std.proofs.Common.{sym, ap, ◌∙◌, subst, inl, inr, arith}
use mathlib.Core.List.Memᴰ
use mathlib.Core.List.{List, [], ◌∷◌, ◌++◌, append_assoc, append-nil, Memᴰ}
use Rattle.std.proofs.Math.Decide.{ℕ_discrete}
use Rattle.lattice.specs.Records.{valid_of}
use Rattle.lattice.specs.declared.points.Point.{Point}
use Rattle.lattice.specs.declared.records.Record.{Record}
use Rattle.table.specs.Slots.{Table, slots_in, slots_of, slot_at, free_slots, cleared_of}
use Rattle.table.specs.SearchLaws.{holds-eq, free-holds}
use Rattle.table.specs.Search.{find_of}
use Rattle.table.specs.Order.{InOrder}
use Rattle.table.specs.Entries.{look_up, enter_of}
use Rattle.table.specs.MapLaws.{at_held, at-free, at-full, enter-order, enter-finds, enter-keeps, enter-free, enter-there, enter-full, enter-length}
use Rattle.table.specs.MapLaws.{clear-order, clear-absent, clear-free, table_of, table-slots, same_or_not}
use Rattle.table.specs.declared.probe.Found.TheVariants as found
use Rattle.readers.specs.Additions.{held-absent, held_same}
use Rattle.salvage_lines.specs.OldLines.{same_record, clashes, piece_at}
use Rattle.salvage_lines.specs.LinesOn.{records_on, Moves, kept_next, dropped-next, records-over, records-dropped, records-kept}
use Rattle.salvage_lines.specs.ClashLaws.{record_same, Holding}
use Rattle.salvage_lines.specs.ClashLaws.{differs, against}
use Rattle.salvage_lines.specs.ClashLaws.{against-clashes}
use Rattle.salvage_lines.specs.declared.line.Piece.TheVariants as piece
use Rattle.salvage_lines.specs.declared.rounds.Taken.{Taken}
use Rattle.salvage_lines.specs.declared.rounds.Taken.TheVariants as taken
use Rattle.salvage_lines.specs.declared.rounds.Step.{Step}
use Rattle.salvage_lines.specs.declared.rounds.Step.TheVariants as step
use Rattle.salvage_lines.specs.declared.rounds.Gathered.{Gathered}
use Rattle.salvage_lines.specs.declared.rounds.Gathered.TheVariants as gathered

-- ---- one record

abbrev pub Takes : List ℕ → Record → Taken → List ℕ → Type 0
Takes t r taken.Against u = (against t r ≡ true) × (u ≡ t)
Takes t r taken.Again u = (look_up t r.at ≡ Some r) × (u ≡ t)
Takes t r taken.New u = (look_up t r.at ≡ None) × ((0 < free_slots t) × (u ≡ enter_of t r))
Takes t r taken.NoSlot u = (look_up t r.at ≡ None) × ((free_slots t ≡ 0) × (u ≡ t))

module _ (t : List ℕ) (o : InOrder t) (r : Record) (u : List ℕ) (e : u ≡ enter_of t r) where
  pub takes-new : (i : ℕ) → find_of t r.at ≡ found.Free i → Takes t r taken.New u
  takes-new i f = let w = at-free t o.fits r.at i f in (w.looked, (w.some, e))

  pub takes_none : find_of t r.at ≡ found.Full → Takes t r taken.NoSlot u
  takes_none f = let w = at-full t o.fits r.at f in (w.0, (w.1, e ∙ enter-full t o.fits r w.1))

  module _ (i : ℕ) (f : find_of t r.at ≡ found.At i) where
    pub takes-there : u ≡ t
    takes-there = let w = at_held t o.fits r.at i f in e ∙ enter-there t o.fits r w.rec w.looked

    takes-held : (q : Record) → slot_at u i ≡ Some q → look_up t r.at ≡ Some q
    takes-held q s =
        let w = at_held t o.fits r.at i f in
        let x : Some w.rec ≡ Some q = sym w.holds ∙ ap (λ (v : List ℕ). slot_at v i) (sym takes-there) ∙ s in
        w.looked ∙ ap Some (holds-eq w.rec q x)

    pub takes-again : (q : Record) → slot_at u i ≡ Some q → same_record q r ≡ true → Takes t r taken.Again u
    takes-again q s h = (takes-held q s ∙ ap Some (record_same q r h), takes-there)

    pub takes-against : (q : Record) → slot_at u i ≡ Some q → same_record q r ≡ false → Takes t r taken.Against u
    takes-against q s h = (ap (λ (l : Option Record). differs l r) (takes-held q s) ∙ ap not h, takes-there)

    pub takes-free : {A : Type 0} → slot_at u i ≡ None → A
    takes-free s =
        let w = at_held t o.fits r.at i f in
        free-holds w.rec s (ap (λ (v : List ℕ). slot_at v i) takes-there ∙ w.holds)

-- ---- one line

-- the line's record is passed: it is dropped, or held already, or entered
pub data Went (rs qs : List Record) (t : List ℕ) : ℕ → List ℕ → Type 0 where
  gone : rs ≡ qs → Went rs qs t 0 t
  again : (r : Record) → rs ≡ r ∷ qs → look_up t r.at ≡ Some r → Went rs qs t 0 t
  entered : (r : Record) → rs ≡ r ∷ qs → valid_of r ≡ true → look_up t r.at ≡ None → 0 < free_slots t → Went rs qs t 1 (enter_of t r)

-- the line at p and a table t: what became of it, and the table u after
abbrev pub Goes : List ℕ → ℕ → List ℕ → Step → List ℕ → Type 0
Goes f p t step.Over u = (records_on f p ≡ []) × (u ≡ t)
Goes f p t step.Clash u = ((r : Record) × Memᴰ r (records_on f p) × (against t r ≡ true)) × (u ≡ t)
Goes f p t step.Full u = ((r : Record) × Memᴰ r (records_on f p) × (look_up t r.at ≡ None)) × ((free_slots t ≡ 0) × (u ≡ t))
Goes f p t (step.On next new) u = Moves f p next × Went (records_on f p) (records_on f next) t new u

module _ (f : List ℕ) (p : ℕ) (t : List ℕ) where
  pub goes_over : piece_at f p ≡ piece.Over → (u : List ℕ) → u ≡ t → Goes f p t step.Over u
  goes_over e u s = (records-over f p e, s)

  pub goes_dropped : (next : ℕ) → piece_at f p ≡ piece.Dropped next → (u : List ℕ) → u ≡ t → Goes f p t (step.On next 0) u
  goes_dropped next e u s =
      (dropped-next f p next e, subst (Went (records_on f p) (records_on f next) t 0) (sym s) (gone (records-dropped f p next e)))

  module _ (r : Record) (changed : Bool) (next : ℕ) (e : piece_at f p ≡ piece.Kept r changed next) (u : List ℕ) where
    member : Memᴰ r (records_on f p)
    member = subst (Memᴰ r) (sym (records-kept f p r changed next e)) (Memᴰ.head refl)

    pub goes-against : Takes t r taken.Against u → Goes f p t step.Clash u
    goes-against h = ((r, member, h.0), h.1)

    pub goes_none : Takes t r taken.NoSlot u → Goes f p t step.Full u
    goes_none h = ((r, member, h.0), h.1)

    pub goes-again : Takes t r taken.Again u → Goes f p t (step.On next 0) u
    goes-again h = (
      (kept_next f p r changed next e).0,
      subst (Went (records_on f p) (records_on f next) t 0) (sym h.1) (again r (records-kept f p r changed next e) h.0),
    )

    pub goes-new : Takes t r taken.New u → Goes f p t (step.On next 1) u
    goes-new h =
        let w = kept_next f p r changed next e in
        (w.0, subst (Went (records_on f p) (records_on f next) t 1) (sym h.1.1) (entered r (records-kept f p r changed next e) w.1 h.0 h.1.0))

-- ---- the lines from a position on

-- a record of theirs is absent, and no slot is free
abbrev pub Short : List Record → List ℕ → Type 0
Short rs t = ((r : Record) × Memᴰ r rs × (look_up t r.at ≡ None)) × (free_slots t ≡ 0)

-- the records before line p are held; from there on they are left
pub record Left (f : List ℕ) (at : ℕ) (room : ℕ) (p : ℕ) (t : List ℕ) : Type 0 where
  pub seen : List Record
  pub whole : records_on f at ≡ seen ++ records_on f p
  pub holding : Holding t seen
  pub moves : Moves f at p
  pub short : slots_of t < room → Short (records_on f p) t

abbrev pub Gathers : List ℕ → ℕ → ℕ → List ℕ → Gathered → List ℕ → Type 0
Gathers f at room t gathered.All u = Holding u (records_on f at) × (length u ≡ length t)
Gathers f at room t gathered.Clashing u = (clashes (records_on f at) ≡ true) × (length u ≡ length t)
Gathers f at room t (gathered.Upto p) u = Left f at room p u × (length u ≡ length t)

-- on the way: the lines up to p are taken, and so much room is left
pub record Gathering (f : List ℕ) (at room : ℕ) (t₀ : List ℕ) (p left : ℕ) (t : List ℕ) : Type 0 where
  pub seen : List Record
  pub whole : records_on f at ≡ seen ++ records_on f p
  pub holding : Holding t seen
  pub ahead : at ≤ p
  pub within : p ≤ length f
  pub fresh : p ≡ at → (0 < left) × (0 < free_slots t)
  pub count : left + slots_of t ≡ room + free_slots t
  pub long : length t ≡ length t₀

pub gathering-start : (f : List ℕ) (at room : ℕ) (t : List ℕ) (n : ℕ) → Table t n → t ≡ cleared_of t → 0 < room → at ≤ length f
    → Gathering f at room t at room t
gathering-start f at room t n w c some in-file =
    let fits = table_of t n w in
    let free : free_slots t ≡ slots_of t = ap free_slots c ∙ clear-free t fits in
    let slots : slots_of t ≡ n = table-slots t n w in
    let absent : (p : Point) → look_up t p ≡ None = λ p. ap (λ (u : List ℕ). look_up u p) c ∙ clear-absent t fits p in
    record {
      seen = [];
      whole = refl;
      holding = record {
        order = subst InOrder (sym c) (clear-order t fits);
        held = λ r m. absurd (Memᴰ.not-nil m);
        only = λ p r h. held-absent h (absent p);
      };
      ahead = omega arith;
      within = in-file;
      fresh = λ e. (some, omega (arith, w.least));
      count = omega arith;
      long = refl;
    }

-- one record more is held
pub holding-more : (t : List ℕ) (xs : List Record) (r : Record) → Holding t xs → valid_of r ≡ true → look_up t r.at ≡ None → 0 < free_slots t
    → Holding (enter_of t r) (xs ++ r ∷ [])
holding-more t xs r h v a free =
    record {
      order = enter-order t o r v;
      held = λ q m. old q (Memᴰ.append_cases xs m);
      only = λ p q k. new p q k (same_or_not p r.at);
    }
  where
    o : InOrder t
    o = h.order

    old : (q : Record) → Memᴰ q xs ⊎ Memᴰ q (r ∷ []) → look_up (enter_of t r) q.at ≡ Some q
    old q (inl m) = enter-keeps t o r v q.at (λ e. held-absent (h.held q m) (ap (look_up t) e ∙ a)) ∙ h.held q m
    old q (inr m) = subst (λ (x : Record). look_up (enter_of t r) x.at ≡ Some x) (sym (Memᴰ.eq_of_singleton m)) (enter-finds t o r v a free)

    new : (p : Point) (q : Record) → look_up (enter_of t r) p ≡ Some q → Dec (p ≡ r.at) → Memᴰ q (xs ++ r ∷ [])
    new p q k (yes e) =
        let x : r ≡ q = held_same (enter-finds t o r v a free) (ap (look_up (enter_of t r)) (sym e) ∙ k) in
        Memᴰ.append_right xs (subst (λ (y : Record). Memᴰ y (r ∷ [])) x (Memᴰ.head refl))
    new p q k (no e) = Memᴰ.append_left (r ∷ []) (h.only p q (sym (enter-keeps t o r v p e) ∙ k))

-- a record that is held already
pub holding-again : (t : List ℕ) (xs : List Record) (r : Record) → Holding t xs → look_up t r.at ≡ Some r → Holding t (xs ++ r ∷ [])
holding-again t xs r h e = record {
  order = h.order;
  held = λ q m. old q (Memᴰ.append_cases xs m);
  only = λ p q k. Memᴰ.append_left (r ∷ [])
      (h.only p q k);
}
  where
    old : (q : Record) → Memᴰ q xs ⊎ Memᴰ q (r ∷ []) → look_up t q.at ≡ Some q
    old q (inl m) = h.held q m
    old q (inr m) = subst (λ (x : Record). look_up t x.at ≡ Some x) (sym (Memᴰ.eq_of_singleton m)) e

module _ (f : List ℕ) (at room : ℕ) (t₀ : List ℕ) (p left : ℕ) (t : List ℕ) (g : Gathering f at room t₀ p left t) where
  pub gathering-all : (u : List ℕ) → Goes f p t step.Over u → Gathers f at room t₀ gathered.All u
  gathering-all u h = (
    subst (λ (x : List ℕ). Holding x (records_on f at)) (sym h.1)
        (subst (Holding t) (sym (g.whole ∙ ap (λ (l : List Record). g.seen ++ l) h.0 ∙ append-nil g.seen)) g.holding),
    ap length h.1 ∙ g.long,
  )

  pub gathering-clash : (u : List ℕ) → Goes f p t step.Clash u → Gathers f at room t₀ gathered.Clashing u
  gathering-clash u h =
      let (r, m, e) = h.0 in
      (ap clashes g.whole ∙ against-clashes t g.seen (records_on f p) g.holding r m e, ap length h.1 ∙ g.long)

  pub gathering-full : (u : List ℕ) → Goes f p t step.Full u → Gathers f at room t₀ (gathered.Upto p) u
  gathering-full u h =
      let free = h.1.0 in
      let on : at < p = away (ℕ_discrete p at) in (
        subst (Left f at room p) (sym h.1.1) (record {
          seen = g.seen;
          whole = g.whole;
          holding = g.holding;
          moves = (on, g.within);
          short = λ s. (h.0, free);
        }),
        ap length h.1.1 ∙ g.long,
      )
    where
      away : Dec (p ≡ at) → at < p
      away (yes e) = absurd (let w = g.fresh e in let z = h.1.0 in omega (arith, w.1))
      away (no e) = omega (arith, g.ahead)

  pub gathering-upto : left ≡ 0 → Gathers f at room t₀ (gathered.Upto p) t
  gathering-upto z =
      let on : at < p = away (ℕ_discrete p at) in (
        record {
          seen = g.seen;
          whole = g.whole;
          holding = g.holding;
          moves = (on, g.within);
          short = λ s. absurd (omega (arith, g.count));
        },
        g.long,
      )
    where
      away : Dec (p ≡ at) → at < p
      away (yes e) = absurd (let w = g.fresh e in omega (arith, w.0))
      away (no e) = omega (arith, g.ahead)

  module _ (next : ℕ) (on : Moves f p next) where
    pub gathering-went : (new : ℕ) (u : List ℕ) → 0 < left → Went (records_on f p) (records_on f next) t new u → Gathering f at room t₀ next (left - new) u
    gathering-went _ _ some (gone e) =
        record {
          seen = g.seen;
          whole = g.whole ∙ ap (λ (l : List Record). g.seen ++ l) e;
          holding = g.holding;
          ahead = omega (arith, g.ahead, on.0);
          within = on.1;
          fresh = λ z. absurd (omega (arith, g.ahead, on.0));
          count = omega (arith, g.count);
          long = g.long;
        }
    gathering-went _ _ some (again r e k) =
        record {
          seen = g.seen ++ r ∷ [];
          whole = g.whole ∙ ap (λ (l : List Record). g.seen ++ l) e ∙ sym (append_assoc g.seen (r ∷ []) (records_on f next));
          holding = holding-again t g.seen r g.holding k;
          ahead = omega (arith, g.ahead, on.0);
          within = on.1;
          fresh = λ z. absurd (omega (arith, g.ahead, on.0));
          count = omega (arith, g.count);
          long = g.long;
        }
    gathering-went _ _ some (entered r e v a free) =
        let slots : slots_of (enter_of t r) ≡ slots_of t = ap slots_in (enter-length t r) in
        let less = enter-free t g.holding.order r v a free in
        record {
          seen = g.seen ++ r ∷ [];
          whole = g.whole ∙ ap (λ (l : List Record). g.seen ++ l) e ∙ sym (append_assoc g.seen (r ∷ []) (records_on f next));
          holding = holding-more t g.seen r g.holding v a free;
          ahead = omega (arith, g.ahead, on.0);
          within = on.1;
          fresh = λ z. absurd (omega (arith, g.ahead, on.0));
          count = omega (arith, g.count);
          long = enter-length t r ∙ g.long;
        }

-- no more is entered than one
pub went-most : {rs qs : List Record} {t : List ℕ} {new : ℕ} {u : List ℕ} → Went rs qs t new u → new ≤ 1
went-most (gone e) = omega arith
went-most (again r e k) = omega arith
went-most (entered r e v a free) = omega arith
