-- Ticket 13's theorem, over the calls' own definitions. "Prove that for the list left by any sequence of accepted subdivisions it gives the same record as
-- the table, and says absent exactly where the table has none": `same-record`, `absent-exactly`. "21 for a list that no sequence
-- of accepted subdivisions from that base leaves, room aside" is engine's Ends over sheets; of tables, `left-made`, and where a table can hold the list
-- `untabled-21`. "2": `base-2`, as a base is refused.
-- `Left cs l t` the records of t result from a base of the list cs and the accepted subdivisions l, the last first, in whatever tables they stood on the way ·
-- `left-traced` it is a sequence over sheets · `traced-left` with slots enough a sequence over sheets is one over tables.
-- Assumes nothing.
use Rattle.std.specs.Prelude.{◌≡◌, refl, ◌≢◌, Bool, true, false, cond, List, [], ◌∷◌, ℕ, suc, ◌+◌, ◌*◌, ◌≤◌, ◌<◌, ltb, ℤ, length, replicate, Option, Some, None}
use Rattle.std.proofs.Common.{sym, ◌∙◌, ap, subst, arith}
use Rattle.std.proofs.Math.Path.{fun_ext}
use Rattle.std.proofs.lemmas.List.{length-replicate}
use Rattle.laws.specs.Each.{not-both}
use Rattle.lattice.specs.Points.{normal_of}
use Rattle.lattice.specs.declared.points.Point.{Point}
use Rattle.lattice.specs.declared.records.Record.{Record}
use Rattle.growth.specs.Sheets.{Sheet, UntornAt, Step}
use Rattle.growth.specs.Growth.{step-unique}
use Rattle.table.specs.Entries.{look_up}
use Rattle.table.specs.MapLaws.{table-slots}
use Rattle.table.specs.Order.{InOrder}
use Rattle.table.specs.Slots.{slot_width, Table, slots_of, free_slots, fits_length}
use Rattle.centres.specs.Centres.{GoodList}
use Rattle.base.specs.Base.{centres_in, is_listed, bad_place, unpaired, base_of, from_laid, laid_of, Laid, Room, NoRoom}
use Rattle.base.specs.BaseLaws.{base-list, base-order, base-accepts}
use Rattle.base.specs.LayLaws.{judged, base-by}
use Rattle.base.specs.Vertices.{points_in}
use Rattle.mesh.specs.Subdivide.{subdivide_of}
use Rattle.mesh.specs.StepLaws.{own-looked, held_same}
use Rattle.local.specs.Sheet.{as_option, sheet_of}
use Rattle.grown.specs.Bases.{base-sheet}
use Rattle.grown.specs.Reach.{base-free}
use Rattle.grown.specs.Steps.{sheet-held, accepted, whole-accepted, whole-step}
use Rattle.engine.specs.Engine.{pairs_in, VertexAfter, refusal, tell_at, bad_base, vertex_of}
use Rattle.engine.specs.Traced.{Division, Traced, start, grow, Spells}
use Rattle.engine.specs.Ends.{Spelled, unbad-good, traced-told, answer-2, Ends, bad, unmade, absent, given, how-it-ends, refused-21, untraced-21}
use Rattle.base.specs.Base as call
use Rattle.engine.specs.Traced as spelling

-- ---- "the list left by any sequence of accepted subdivisions" from an accepted base
pub data Left (cs : List ℤ) : List Division → List ℕ → Type 0 where
  laid : (t : List ℕ) → (base_of t cs).number ≡ 0 → Left cs [] (base_of t cs).bytes
  divided : (l : List Division) (t : List ℕ) → Left cs l t → (a b : ℤ) (m : ℕ) (v : Record) → look_up t (normal_of a b m) ≡ Some v
      → (subdivide_of t a b m).number ≡ 0 → Left cs ((v.at, v.n.0) ∷ l) (subdivide_of t a b m).bytes
  -- the same records in another table in order: a larger one, or one that a file was read into
  copied : (l : List Division) (t u : List ℕ) → Left cs l u → InOrder t → ((p : Point) → look_up t p ≡ look_up u p) → Left cs l t

pub left-list : (cs : List ℤ) (l : List Division) (t : List ℕ) → Left cs l t → GoodList cs
left-list cs _ _ (laid t z) = base-list t cs z
left-list cs _ _ (divided l t k a b m v e z) = left-list cs l t k
left-list cs _ _ (copied l t u k o same) = left-list cs l u k

-- it is a sequence of the model's steps
pub left-traced : (cs : List ℤ) (l : List Division) (t : List ℕ) → Left cs l t → Traced (is_listed cs) l (sheet_of t)
left-traced cs _ _ (laid t z) = start (sheet_of (base_of t cs).bytes) (base-sheet t cs z)
left-traced cs _ _ (copied l t u k o same) =
    subst (λ (R : Sheet). Traced (is_listed cs) l R) (sym (fun_ext (λ p. ap as_option (same p)))) (left-traced cs l u k)
left-traced cs _ _ (divided l t k a b m v e z) =
    let s = accepted t a b m z in
    let x : s.vertex ≡ v = held_same (sym s.looked ∙ e) in
    let u = (subdivide_of t a b m).bytes in
    grow l (sheet_of t) v (sheet_of u) (left-traced cs l t k)
    (subst (λ (w : Record). sheet_of t w.at ≡ Some w) x (ap as_option s.held))
    (ap (λ (w : Record). w.d) (sym x) ∙ s.six)
    (subst (λ (w : Record). w.n.0 < 12) x s.below)
    (subst (λ (w : Record). UntornAt (sheet_of t) w) x s.whole)
    (subst (λ (w : Record). Step (sheet_of t) w (sheet_of u)) x s.step)

-- ---- "for the list left by any sequence of accepted subdivisions it gives the same record as the table"
module _ (cs ps : List ℤ) (a b : ℤ) (m : ℕ) where
  abbrev p : Point
  p = normal_of a b m

  pub same-record : (l : List Division) (t : List ℕ) → Left cs l t → Spelled ps l → vertex_of cs ps a b m ≡ tell_at (as_option (look_up t p))
  same-record l t k s = traced-told cs ps a b m (left-list cs l t k) l (sheet_of t) (left-traced cs l t k) s

  -- "and says absent exactly where the table has none"
  pub absent-exactly : (l : List Division) (t : List ℕ) → Left cs l t → Spelled ps l
      → (look_up t p ≡ None → vertex_of cs ps a b m ≡ refusal 3) × ((vertex_of cs ps a b m).number ≡ 3 → look_up t p ≡ None)
  absent-exactly l t k s = (
    (λ e. same-record l t k s ∙ ap (λ (x : Option Record). tell_at (as_option x)) e),
    (λ e. go (look_up t p) (ap (λ (x : VertexAfter). x.number) (sym (same-record l t k s)) ∙ e)),
  )
    where
      go : (x : Option Record) → (tell_at (as_option x)).number ≡ 3 → x ≡ None
      go None e = refl
      go (Some r) e = absurd (omega arith)

-- ---- with slots enough a sequence over sheets is one over tables
-- the slots that a base of the list and n subdivisions take
abbrev pub slots_for : List ℤ → ℕ → ℕ
slots_for cs n = points_in cs (centres_in cs) + 6 * n

module _ (cs : List ℤ) (g : GoodList cs) (x : List ℕ) (w : Table x (slots_of x)) where
  pub record Stood (l : List Division) (R : Sheet) : Type 0 where
    pub table : List ℕ
    pub left : Left cs l table
    pub order : InOrder table
    pub same : (p : Point) → sheet_of table p ≡ R p
    pub free : free_slots table + slots_for cs (length l) ≡ slots_of x

  pub traced-left : (l : List Division) (R : Sheet) → Traced (is_listed cs) l R → slots_for cs (length l) ≤ slots_of x → Stood l R
  traced-left _ _ (start R e) room =
      let z = base-accepts x cs w g (omega arith) in
      record {
        table = (base_of x cs).bytes;
        left = laid x z;
        order = base-order x cs z;
        same = λ p. base-sheet x cs z p ∙ sym (e p);
        free = (let f = base-free x cs z in omega arith);
      }
  traced-left _ _ (grow l R v R' k at six low whole step) room = go (traced-left l R k (omega arith))
    where
      go : Stood l R → Stood ((v.at, v.n.0) ∷ l) R'
      go s =
          let u = s.table in
          let is : sheet_of u ≡ R = fun_ext s.same in
          let held : look_up u v.at ≡ Some v = sheet-held (look_up u v.at) v (s.same v.at ∙ at) in
          let un : UntornAt (sheet_of u) v = subst (λ (S : Sheet). UntornAt S v) (sym is) whole in
          let six-free : 6 ≤ free_slots u = (let f = s.free in omega arith) in
          let z = whole-accepted u s.order v held six low un six-free in
          let r = accepted u v.at.a v.at.b v.at.m.0 z in
          record {
            table = (subdivide_of u v.at.a v.at.b v.at.m.0).bytes;
            left = divided l u s.left v.at.a v.at.b v.at.m.0 v (own-looked u s.order v held) z;
            order = r.kept;
            same =
                step-unique (sheet_of u) v (sheet_of (subdivide_of u v.at.a v.at.b v.at.m.0).bytes) R' un
                (whole-step u s.order v held six low un six-free) (subst (λ (S : Sheet). Step S v R') (sym is) step);
            free = (let f = s.free in let h = r.free in omega arith);
          }

-- how a base ends in a table whose length fits
base-number : (t : List ℕ) (cs : List ℤ) → fits_length (length t) ≡ true
    → (bad_base cs ≡ true → (base_of t cs).number ≡ 2) × (bad_base cs ≡ false → (base_of t cs).number ≢ 2)
base-number t cs f = go (unpaired cs) refl (ltb (bad_place cs) (centres_in cs)) refl
  where
    number : (odd past : Bool) → unpaired cs ≡ odd → ltb (bad_place cs) (centres_in cs) ≡ past
        → (judged t cs true odd past (laid_of t cs)).number ≡ (base_of t cs).number
    number odd past o b = ap (λ (x : call.BaseAfter). x.number) (base-by t cs true odd past (laid_of t cs) f o b refl)

    is-bad : (odd past : Bool) → unpaired cs ≡ odd → ltb (bad_place cs) (centres_in cs) ≡ past → bad_base cs ≡ cond odd true past
    is-bad odd past o b = λ i. cond (o i) true (b i)

    laid-number : (x : Laid) → (from_laid t x).number ≢ 2
    laid-number (Room u) e = omega arith
    laid-number NoRoom e = omega arith

    go : (odd : Bool) → unpaired cs ≡ odd → (past : Bool) → ltb (bad_place cs) (centres_in cs) ≡ past
        → (bad_base cs ≡ true → (base_of t cs).number ≡ 2) × (bad_base cs ≡ false → (base_of t cs).number ≢ 2)
    go true o past b = ((λ h. sym (number true past o b)), (λ h. absurd (not-both (is-bad true past o b) h)))
    go false o true b = ((λ h. sym (number false true o b)), (λ h. absurd (not-both (is-bad false true o b) h)))
    go false o false b = ((λ h. absurd (not-both h (is-bad false false o b))), (λ h e. laid-number (laid_of t cs) (number false false o b ∙ e)))

-- ---- so where a table can hold the base and the list, 21 says that no calls on tables leave it
spells-length : (ps : List ℤ) (n : ℕ) (l : List Division) → Spells ps n l → length l ≡ n
spells-length ps _ _ spelling.none = refl
spells-length ps _ _ (spelling.next n l q i s byte point level) = ap suc (spells-length ps n l s)

-- a table of so many slots
blank-table : (n : ℕ) → 16 ≤ n → n ≤ 65536 → Table (replicate (slot_width * n) 0) n
blank-table n lo hi = record { long = length-replicate (slot_width * n) 0; least = lo; most = hi }

module _ (cs ps : List ℤ) (a b : ℤ) (m : ℕ) where
  -- n slots, as a table may have
  pub untabled-21 : (n : ℕ) → 16 ≤ n → n ≤ 65536 → slots_for cs (pairs_in ps) ≤ n → GoodList cs → ((l : List Division) (t : List ℕ) → Spelled ps l → Left cs l t → ⊥)
      → vertex_of cs ps a b m ≡ refusal 21
  untabled-21 n lo hi room g none_left = untraced-21 cs ps a b m g (λ l R s k. stood l R s k)
    where
      x : List ℕ
      x = replicate (slot_width * n) 0

      w : Table x n
      w = blank-table n lo hi

      slots : n ≡ slots_of x
      slots = sym (table-slots x n w)

      w' : Table x (slots_of x)
      w' = subst (Table x) slots w

      stood : (l : List Division) (R : Sheet) → Spelled ps l → Traced (is_listed cs) l R → ⊥
      stood l R s k =
          let fit : slots_for cs (length l) ≤ slots_of x = omega (arith, room, spells-length ps (pairs_in ps) l s.pairs, slots) in
          let y = traced-left cs g x w' l R k fit in
          none_left l y.table s y.left

  -- and conversely, whatever the room
  pub left-made : (l : List Division) (t : List ℕ) → Left cs l t → Spelled ps l → (vertex_of cs ps a b m).number ≢ 21
  left-made l t k s h = refused-21 cs ps a b m h l (sheet_of t) s (left-traced cs l t k)

  -- ---- "2", as a base of room enough is refused
  pub base-2 : (t : List ℕ) → fits_length (length t) ≡ true
      → ((base_of t cs).number ≡ 2 → vertex_of cs ps a b m ≡ refusal 2) × ((vertex_of cs ps a b m).number ≡ 2 → (base_of t cs).number ≡ 2)
  base-2 t fit = go (bad_base cs) refl
    where
      told-2 : bad_base cs ≡ false → (vertex_of cs ps a b m).number ≢ 2
      told-2 e h = ends (how-it-ends cs ps a b m)
        where
          number : {x : VertexAfter} → vertex_of cs ps a b m ≡ x → x.number ≡ 2
          number e = ap (λ (x : VertexAfter). x.number) (sym e) ∙ h

          ends : Ends cs ps a b m → ⊥
          ends (bad n z) = n (unbad-good cs e)
          ends (unmade g n z) = let y = number z in omega arith
          ends (absent g l R s k x z) = let y = number z in omega arith
          ends (given g l R s k r x z) = let y = number z in omega arith

      go : (x : Bool) → bad_base cs ≡ x
          → ((base_of t cs).number ≡ 2 → vertex_of cs ps a b m ≡ refusal 2) × ((vertex_of cs ps a b m).number ≡ 2 → (base_of t cs).number ≡ 2)
      go true e = ((λ h. answer-2 cs ps a b m e), (λ h. (base-number t cs fit).0 e))
      go false e = ((λ h. absurd ((base-number t cs fit).1 e h)), (λ h. absurd (told-2 e h)))
