-- What a reduced file leaves out, step by step as the code enters it.
-- `restored_by` a number and a table as what restoring has come to · `restore-there`, `restore-entered`, `restore-invalid`,
-- `restore-full`, `restore-neither` one record · `Mends` a step, and whether it met a record that should not be there: `mends_there`, `mends-entered`,
-- `mends-stopped` · `to_none`, `to-more`, `to-stopped` one star, `Rounding` so far · `star-six`, `star-other` · `file_records` the records of a file, read again:
-- `read-records` · `Restoring` so far: `restoring-start`, `restoring-end`, `restoring-bad`, `restoring-over`, `restoring-more`, `restoring-stopped`.
-- Assumes nothing.
use Rattle.std.specs.Prelude.{◌≡◌, Bool, true, false, cond, ◌||◌, eqb, length, Result, Ok, Err, Option, Some, None}
use Rattle.std.proofs.Math.Path.{refl, sym, ap}
use Rattle.std.proofs.Common.{◌∙◌, subst, eq-eqb, ne_eqb}
use Rattle.std.proofs.Math.Bool.{or_assoc, or_comm}
use mathlib.Core.List.{List, [], ◌∷◌}
use Prim.Native.Nat.{ℕ, zero, suc, ◌+◌, ◌-◌, ◌≤◌, ◌<◌}
use native.Mathlib.Omega.{arith}
use Rattle.std.proofs.Math.Decide.{ℕ_discrete}
use Rattle.laws.specs.Choices.{of-true}
use Rattle.laws.specs.Some.{some_of}
use Rattle.lattice.specs.Records.{valid_of}
use Rattle.lattice.specs.RecordLaws.{Inner, inner}
use Rattle.lattice.specs.Subdivision.{born_of}
use Rattle.lattice.specs.declared.records.Record.{Record}
use Rattle.lattice.specs.declared.refusals.Refusal.{Refusal}
use Rattle.table.specs.Slots.{slot_at, put_slot}
use Rattle.table.specs.Search.{find_of}
use Rattle.table.specs.Entries.{held_in, look_up, enter_of}
use Rattle.table.specs.MapLaws.{put-enter, at-free}
use Rattle.table.specs.declared.probe.Found.{Found}
use Rattle.table.specs.declared.probe.Found.TheVariants as found
use Rattle.text.specs.Line.{line_at}
use Rattle.text.specs.LineLaws.{line-end, line-next}
use Rattle.text.specs.declared.line.Line.{Line}
use Rattle.text.specs.declared.line.Line.TheVariants.{Good, Bad, End}
use Rattle.readers.specs.Readers.{Lines, Read, Fault, after, above, no_slot, line_read, lines_from, read_lines, Restored, With, Stopped, restore_at}
use Rattle.readers.specs.Readers.{restore, restore_to, restore_star, restore_all}
use Rattle.readers.specs.RestoreLaws.{stopped-stays}
use Rattle.readers.specs.Keeps.{is_three, star_keeps, record_keeps, Since, since-enter, since-there, since-absent}

-- a number and a table, as what restoring has come to
abbrev pub restored_by : ℕ → List ℕ → Restored
restored_by number t = cond (eqb number 0) (With t) (Stopped number)

pub by-none : (number : ℕ) (t : List ℕ) → number ≡ 0 → restored_by number t ≡ With t
by-none number t e = ap (λ (b : Bool). cond b (With t) (Stopped number)) (eq-eqb number 0 e)

pub by-stopped : (number : ℕ) (t : List ℕ) → (number ≡ 0 → ⊥) → restored_by number t ≡ Stopped number
by-stopped number t e = ap (λ (b : Bool). cond b (With t) (Stopped number)) (ne_eqb number 0 e)

-- ---- one record, by where the search for it ended

module _ (t : List ℕ) (r : Record) where
  restore-by : (f : Found) → find_of t r.at ≡ f → restore_at t r f ≡ restore (With t) r
  restore-by f e = ap (restore_at t r) (sym e)

  pub restore-there : (i : ℕ) → find_of t r.at ≡ found.At i → With t ≡ restore (With t) r
  restore-there i e = restore-by (found.At i) e

  pub restore-entered : (i : ℕ) → find_of t r.at ≡ found.Free i → valid_of r ≡ true → With (put_slot t i r) ≡ restore (With t) r
  restore-entered i e v = ap With (put-enter t r i e) ∙ ap (λ (b : Bool). cond b (With (enter_of t r)) (Stopped 11)) (sym v) ∙ restore-by (found.Free i) e

  pub restore-invalid : (i : ℕ) → find_of t r.at ≡ found.Free i → valid_of r ≡ false → Stopped 11 ≡ restore (With t) r
  restore-invalid i e v = ap (λ (b : Bool). cond b (With (enter_of t r)) (Stopped 11)) (sym v) ∙ restore-by (found.Free i) e

  pub restore-full : find_of t r.at ≡ found.Full → valid_of r ≡ true → Stopped 8 ≡ restore (With t) r
  restore-full e v = ap (λ (b : Bool). Stopped (cond b 8 11)) (sym v) ∙ restore-by found.Full e

  -- neither valid nor a slot: 11
  pub restore-neither : find_of t r.at ≡ found.Full → valid_of r ≡ false → Stopped 11 ≡ restore (With t) r
  restore-neither e v = ap (λ (b : Bool). Stopped (cond b 8 11)) (sym v) ∙ restore-by found.Full e

-- whether a record was met that should have been left out
abbrev pub kept_told : Result Bool Refusal → Bool
kept_told (Ok kept) = kept
kept_told (Err why) = false

-- what a step of restoring comes to from t: x; and, where t is t₀ with records entered, whether it met what t₀ should not have is b
pub record Mends (t₀ t : List ℕ) (x : Restored) (b : Bool) (number : ℕ) (kept : Bool) (u : List ℕ) : Type 0 where
  pub is : restored_by number u ≡ x
  pub since : Since t₀ t → number ≡ 0 → Since t₀ u
  pub keeps : Since t₀ t → number ≡ 0 → kept ≡ b

module _ {t₀ t : List ℕ} {x : Restored} {b : Bool} where
  pub mends-stopped : {number : ℕ} {kept : Bool} {u : List ℕ} → (number ≡ 0 → ⊥) → restored_by number u ≡ x → Mends t₀ t x b number kept u
  mends-stopped nz e = record { is = e; since = λ w z. absurd (nz z); keeps = λ w z. absurd (nz z) }

  pub mends-as : {y : Restored} {d : Bool} {number : ℕ} {kept : Bool} {u : List ℕ} → x ≡ y → b ≡ d → Mends t₀ t x b number kept u
      → Mends t₀ t y d number kept u
  mends-as e f m = record { is = m.is ∙ e; since = m.since; keeps = λ w z. m.keeps w z ∙ f }

module _ (t₀ t : List ℕ) (r : Record) (i : ℕ) where
  pub mends_there : find_of t r.at ≡ found.At i → (kept : Bool) → (length t ≡ length t₀ → kept ≡ is_three (held_in (slot_at t₀ i)))
      → Mends t₀ t (restore (With t) r) (is_three (look_up t₀ r.at)) 0 kept t
  mends_there e kept k =
      record { is = restore-there t r i e; since = λ w z. w; keeps = λ w z. k w.long ∙ ap is_three (since-there w r.at i e) }

  pub mends-entered : find_of t r.at ≡ found.Free i → valid_of r ≡ true → (u : List ℕ) → u ≡ put_slot t i r
      → Mends t₀ t (restore (With t) r) (is_three (look_up t₀ r.at)) 0 false u
  mends-entered e v u h =
      record {
        is = ap With h ∙ restore-entered t r i e v;
        since = λ w z. subst (Since t₀) (sym (h ∙ put-enter t r i e)) (since-enter w r v);
        keeps = λ w z. sym (ap is_three (since-absent w r.at (at-free t w.order.fits r.at i e).looked));
      }

-- a valid record of degree 6 has a star
pub six-inner : (v : Record) → valid_of v ≡ true → v.d ≡ 6 → Inner v
six-inner v ok e = inner v (of-true ok) (λ z. let q : ◌≡◌ {A = ℕ} 6 0 = sym e ∙ z in omega arith)

-- ---- one star

module _ (v : Record) (x : Restored) where
  pub to_none : restore_to v 0 x ≡ x
  unfolding restore_to
  to_none = refl

  pub to-more : (j : ℕ) (y : Restored) → restore_to v j x ≡ y → restore_to v (j + 1) x ≡ restore y (born_of v j)
  unfolding restore_to
  to-more j y e = let s : j + 1 ≡ suc j = omega arith in ap (λ (i : ℕ). restore_to v i x) s ∙ ap (λ (z : Restored). restore z (born_of v j)) e

  pub to-stopped : (n j number : ℕ) → j ≤ n → restore_to v j x ≡ Stopped number → restore_to v n x ≡ Stopped number
  unfolding restore_to
  to-stopped zero j number h e = let s : 0 ≡ j = omega arith in ap (λ (i : ℕ). restore_to v i x) s ∙ e
  to-stopped (suc n) j number h e = go (ℕ_discrete j (suc n)) (λ l. to-stopped n j number l e)
    where
      go : Dec (j ≡ suc n) → (j ≤ n → restore_to v n x ≡ Stopped number) → restore_to v (suc n) x ≡ Stopped number
      go (yes s) ih = ap (λ (i : ℕ). restore_to v i x) (sym s) ∙ e
      go (no s) ih = ap (λ (y : Restored). restore y (born_of v n)) (ih (omega arith))

  pub star-six : v.d ≡ 6 → restore_to v 6 x ≡ restore_star v x
  star-six e = ap (λ (b : Bool). cond b (restore_to v 6 x) x) (sym (eq-eqb v.d 6 e))

  pub star-other : (v.d ≡ 6 → ⊥) → x ≡ restore_star v x
  star-other e = ap (λ (b : Bool). cond b (restore_to v 6 x) x) (sym (ne_eqb v.d 6 e))

-- the first j adjacent points of v restored in t to u
pub record Rounding (t₀ t : List ℕ) (v : Record) (j : ℕ) (u : List ℕ) (kept : Bool) : Type 0 where
  pub within : j ≤ 6
  pub so : restore_to v j (With t) ≡ With u
  pub long : length u ≡ length t
  pub since : Since t₀ t → Since t₀ u
  pub keeps : Since t₀ t → kept ≡ star_keeps t₀ v j

pub rounding-start : (t₀ t : List ℕ) (v : Record) → Rounding t₀ t v 0 t false
rounding-start t₀ t v = record { within = omega arith; so = to_none v (With t); long = refl; since = λ w. w; keeps = λ w. refl }

module _ {t₀ t : List ℕ} {v : Record} {j : ℕ} {u : List ℕ} {kept : Bool} (g : Rounding t₀ t v j u kept) where
  pub rounding-end : j ≡ 6 → Mends t₀ t (restore_to v 6 (With t)) (star_keeps t₀ v 6) 0 kept u
  rounding-end e =
      record {
        is = sym (ap (λ (k : ℕ). restore_to v k (With t)) (sym e) ∙ g.so);
        since = λ w z. g.since w;
        keeps = λ w z. g.keeps w ∙ ap (star_keeps t₀ v) e;
      }

  module _ (h : j < 6) {number : ℕ} {k : Bool} {u' : List ℕ}
      (m : Mends t₀ u (restore (With u) (born_of v j)) (is_three (look_up t₀ (born_of v j).at)) number k u') where
    one : restore_to v (j + 1) (With t) ≡ restored_by number u'
    one = to-more v (With t) j (With u) g.so ∙ sym m.is

    pub rounding-stop : (number ≡ 0 → ⊥) → Mends t₀ t (restore_to v 6 (With t)) (star_keeps t₀ v 6) number k u'
    rounding-stop nz =
        let e = by-stopped number u' nz in
        mends-stopped nz (e ∙ sym (to-stopped v (With t) 6 (j + 1) number (omega arith) (one ∙ e)))

    pub rounding-more : number ≡ 0 → length u' ≡ length u → Rounding t₀ t v (j + 1) u' (kept || k)
    rounding-more z l =
        let s : suc j ≡ j + 1 = omega arith in
        record {
          within = omega arith;
          so = one ∙ by-none number u' z;
          long = l ∙ g.long;
          since = λ w. m.since (g.since w) z;
          keeps = λ w. or_comm kept k ∙ (λ i. m.keeps (g.since w) z i || g.keeps w i) ∙ ap (star_keeps t₀ v) s;
        }

-- ---- the records of a file, read again

-- the record of a line, before those that follow
abbrev pub line_record : (Record → ℕ → List Record) → Line → List Record
line_record rest End = []
line_record rest Bad = []
line_record rest (Good r next) = r ∷ rest r next

-- those from position p on, of which no more than so many are left
unfoldable pub records_at : List ℕ → ℕ → ℕ → List Record
records_at f zero p = []
records_at f (suc left) p = line_record (λ r next. records_at f left next) (line_at f p)

abbrev pub file_records : List ℕ → List Record
file_records f = records_at f (length f) 0

-- they are those that were read
abbrev Same : List Record → Lines → Type 0
Same qs (Read rs t) = qs ≡ rs
Same qs (Fault number line) = Unit

same_lines : (f : List ℕ) (left p i : ℕ) (q : Option Record) (t : List ℕ) → Same (records_at f left p) (lines_from f left p i q t)
unfolding records_at lines_from
same_lines f zero p i q t = refl
same_lines f (suc left) p i q t = go (line_at f p) (λ r next. same_lines f left next (i + 1) (Some r) (enter_of t r))
  where
    with_it : (r : Record) (qs : List Record) (x : Lines) → Same qs x → Same (r ∷ qs) (after r x)
    with_it r qs (Read rs u) e = ap (λ (l : List Record). r ∷ l) e
    with_it r qs (Fault number line) e = tt

    judge : (r : Record) (qs : List Record) (x : Lines) → Same qs x → (a b : Bool) → Same (r ∷ qs) (cond a (cond b (Fault 8 i) (after r x)) (Fault 10 i))
    judge r qs x e false b = tt
    judge r qs x e true true = tt
    judge r qs x e true false = with_it r qs x e

    go : (l : Line) → ((r : Record) (next : ℕ) → Same (records_at f left next) (lines_from f left next (i + 1) (Some r) (enter_of t r)))
        → Same (line_record (λ r next. records_at f left next) l) (line_read i q t (λ r next. lines_from f left next (i + 1) (Some r) (enter_of t r)) l)
    go End ih = refl
    go Bad ih = tt
    go (Good r next) ih =
        judge r (records_at f left next) (lines_from f left next (i + 1) (Some r) (enter_of t r)) (ih r next) (above q r) (no_slot (find_of t r.at))

pub read-records : (f t : List ℕ) (rs : List Record) (u : List ℕ) → read_lines f t ≡ Read rs u → file_records f ≡ rs
read-records f t rs u e = subst (Same (file_records f)) e (same_lines f (length f) 0 1 None t)

-- one line, where enough are left
pub records-step : (f : List ℕ) (left p : ℕ) → length f ≤ p + left → (l : Line) → line_at f p ≡ l
    → records_at f left p ≡ line_record (λ r next. records_at f (left - 1) next) l
unfolding records_at
records-step f zero p h l e = ap (line_record (λ r next. [])) (sym (line-end f p (omega arith)) ∙ e)
records-step f (suc left) p h l e =
    let d : suc left - 1 ≡ left = omega arith in
    ap (line_record (λ r next. records_at f left next)) e ∙ ap (λ (k : ℕ). line_record (λ r next. records_at f k next) l) (sym d)

-- ---- all of them

or-false : (b : Bool) → b || false ≡ b
or-false true = refl
or-false false = refl

-- what is restored from position p on, into t, is what is restored of the whole file, into t₁; kept so far, or kept by what is left, is kept by the whole
pub record Restoring (f t₀ t₁ : List ℕ) (p : ℕ) (t : List ℕ) (kept : Bool) : Type 0 where
  pub left : ℕ
  pub enough : length f ≤ p + left
  pub whole : restore_all (file_records f) (With t₁) ≡ restore_all (records_at f left p) (With t)
  pub long : length t ≡ length t₁
  pub since : Since t₀ t
  pub keeps : some_of (record_keeps t₀) (file_records f) ≡ kept || some_of (record_keeps t₀) (records_at f left p)

pub restoring-start : (f t₀ t : List ℕ) → Since t₀ t → Restoring f t₀ t 0 t false
restoring-start f t₀ t w =
    record { left = length f; enough = let h : length f ≤ 0 + length f = omega arith in h; whole = refl; long = refl; since = w; keeps = refl }

module _ {f t₀ t₁ : List ℕ} {p : ℕ} {t : List ℕ} {kept : Bool} (w : Restoring f t₀ t₁ p t kept) where
  -- what the whole comes to
  abbrev all : Restored
  all = restore_all (file_records f) (With t₁)

  abbrev keeps : List Record → Bool
  keeps rs = some_of (record_keeps t₀) rs

  abbrev rest : ℕ → List Record
  rest next = records_at f (w.left - 1) next

  step : (l : Line) → line_at f p ≡ l → records_at f w.left p ≡ line_record (λ r next. rest next) l
  step l e = records-step f w.left p w.enough l e

  ended : records_at f w.left p ≡ [] → Mends t₀ t₁ all (keeps (file_records f)) 0 kept t
  unfolding restore_all
  ended e =
      record {
        is = sym (w.whole ∙ ap (λ (rs : List Record). restore_all rs (With t)) e);
        since = λ o z. w.since;
        keeps = λ o z. sym (w.keeps ∙ ap (λ (rs : List Record). kept || keeps rs) e ∙ or-false kept);
      }

  pub restoring-end : line_at f p ≡ End → Mends t₀ t₁ all (keeps (file_records f)) 0 kept t
  restoring-end e = ended (step End e)

  pub restoring-bad : line_at f p ≡ Bad → Mends t₀ t₁ all (keeps (file_records f)) 0 kept t
  restoring-bad e = ended (step Bad e)

  pub restoring-over : ((v : Record) (next : ℕ) → line_at f p ≡ Good v next → ⊥) → Mends t₀ t₁ all (keeps (file_records f)) 0 kept t
  restoring-over other = go (line_at f p) refl
    where
      go : (l : Line) → line_at f p ≡ l → Mends t₀ t₁ all (keeps (file_records f)) 0 kept t
      go End e = ended (step End e)
      go Bad e = ended (step Bad e)
      go (Good v next) e = absurd (other v next e)

  module _ (v : Record) (next : ℕ) (good : line_at f p ≡ Good v next) {number : ℕ} {k : Bool} {u : List ℕ}
      (m : Mends t₀ t (restore_star v (With t)) (record_keeps t₀ v) number k u) where
    through : (x : Restored) → restored_by number u ≡ x → all ≡ restore_all (rest next) x
    unfolding restore_all
    through x e =
        w.whole ∙ ap (λ (rs : List Record). restore_all rs (With t)) (step (Good v next) good)
        ∙ ap (restore_all (rest next)) (sym m.is ∙ e)

    pub restoring-stopped : (number ≡ 0 → ⊥) → Mends t₀ t₁ all (keeps (file_records f)) number k u
    restoring-stopped nz =
        let e = by-stopped number u nz in mends-stopped nz (e ∙ sym (through (Stopped number) e ∙ stopped-stays (rest next) number))

    pub restoring-more : number ≡ 0 → length u ≡ length t → Restoring f t₀ t₁ next u (kept || k)
    restoring-more z l =
        let h = w.enough in
        let n = line-next f p next v good in
        record {
          left = w.left - 1;
          enough = omega (arith, n.0);
          whole = through (With u) (by-none number u z);
          long = l ∙ w.long;
          since = m.since w.since z;
          keeps =
              w.keeps ∙ ap (λ (rs : List Record). kept || keeps rs) (step (Good v next) good)
              ∙ sym (or_assoc kept (record_keeps t₀ v) (keeps (rest next)))
              ∙ ap (λ (b : Bool). (kept || b) || keeps (rest next)) (sym (m.keeps w.since z));
        }
