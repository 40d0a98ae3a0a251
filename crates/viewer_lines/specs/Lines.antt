-- The lines of vertices and faces by their keys, and how long they are: `face_line`, `face_key`, `vertex_line` of a face and of a key · `face-parts`,
-- `face-long`, `face-least`, `face-most` · `vertex-marked`, `vertex-plain`, `vertex-mark`, `vertex-room`, `vertex-least` · `head-is`, `head-parts`,
-- `head-long`, `head-none`, `stored-first` bytes stored at the beginning · `vertices-start`, `vertices-more` slot by slot · `ordered-inside`,
-- `keyed-close` the record of a key · `faces-sorted`, `vertices-sorted` the lines of sorted keys are the file's.
-- Assumes nothing.
use Rattle.std.specs.Prelude.{◌≡◌, refl, ◌⊎◌, Bool, true, false, ℕ, ◌+◌, ◌*◌, ◌%◌, ◌≤◌, ◌<◌, ltb, drop, Option, Some, None}
use Rattle.std.proofs.Common.{sym, ◌∙◌, subst, inl, inr, arith, length-append}
use Rattle.std.proofs.Math.Path.{ap}
use Rattle.std.proofs.Math.Bool.{cond}
use mathlib.Core.List.Memᴰ
use mathlib.Core.List.{List, [], ◌∷◌, ◌++◌, map, map-append, Memᴰ}
use Rattle.std.proofs.Math.ListN.{length}
use Rattle.std.proofs.lemmas.List.{length-map}
use Rattle.std.proofs.lemmas.List.Edits.{sets-eq}
use Rattle.laws.specs.Stores.{Wrote}
use Rattle.lattice.specs.declared.records.Record.{Record}
use Rattle.table.specs.Slots.{slot_width, slots_of, slot_at}
use Rattle.table.specs.Order.{InOrder}
use Rattle.table.specs.Entries.{listed}
use Rattle.counts.specs.declared.Counts.{Counts}
use Rattle.firsts.specs.declared.faces.Face.{Face}
use Rattle.text.specs.Decimal.{digits, ended, feed}
use Rattle.text.specs.DecimalLaws.{digits-some, width-below}
use Rattle.text.specs.LineOrder.{Close, close}
use Rattle.sorting.specs.Sorting.{sort_by, key_in}
use Rattle.sorting.specs.Tally.{nth}
use Rattle.sorting.specs.SortLaws.{mem-sort, at_mem, sort-map}
use Rattle.writers.specs.Files.{sorted}
use Rattle.writers.specs.Kept.{places, standing}
use Rattle.writers.specs.KeptLaws.{standing-more}
use Rattle.coordinates.specs.Coordinates.{blank, position_text}
use Rattle.coordinates.specs.TextLaws.{position-least}
use Rattle.mesh_faces.specs.MeshFaces.{mesh_faces}
use Rattle.viewer_lines.specs.ViewerLines.{corners_of, next_first, is_least, least_first, least_of, rises, face_corners}
use Rattle.viewer_lines.specs.ViewerLines.{letter_v, head_text, vertex_mark, vertex_text, face_text, texts}
use Rattle.viewer_lines.specs.Packed.{packed, unpacked, Small, pack-rises, unpack-all}
use Rattle.numbering.specs.Keyed.{record_in, record_keyed, keys-inside, keys-sorted}
use Rattle.numbering.specs.Ranks.{keys_of, ordered, held_number}
use Rattle.numbering.specs.Guesses.{face_least, vertex_least}
use Rattle.firsts.specs.Faces.{gather}
use Rattle.mesh_faces.specs.Once.{Four, fresh_star, fresh_in, fresh_slot, fresh_below, fresh-more, gather-more}
use Rattle.viewer_lines.specs.Backward.{texts-map, texts-none, texts-one, texts-long}
use Rattle.viewer_lines.specs.declared.styles.Style.{Style}
use Rattle.viewer_lines.specs.declared.corners.Corners.{Corners}

-- a face's line and key, and the line of a key
abbrev pub face_line : Style → List ℕ → Face → List ℕ
face_line s t f = face_text s (least_of t f)

abbrev pub face_key : List ℕ → Face → ℕ
face_key t f = packed (least_of t f)

abbrev pub key_line : Style → ℕ → List ℕ
key_line s v = face_text s (unpacked v)

abbrev pub vertex_line : Style → List ℕ → ℕ → List ℕ
vertex_line s t v = vertex_text s (record_keyed t v)

-- what is written of a slot
abbrev pub slot_line : Style → Option Record → List ℕ
slot_line s None = []
slot_line s (Some r) = vertex_text s r

-- the keys ks of faces stand at the beginning of o, and there is room for their lines before `end`
pub record Queue (s : Style) (ks o : List ℕ) (k end : ℕ) : Type 0 where
  pub count : k ≡ length ks
  pub keys : (i : ℕ) → i < k → key_in o i ≡ nth ks i
  pub long : length (texts (key_line s) ks) ≤ end
  pub room : end ≤ length o

-- ---- how long

-- the bytes of a face's longest line: four numbers of five digits
abbrev pub face_most : ℕ
face_most = 26

-- and of the lines of six faces: no vertex has more
abbrev pub star_most : ℕ
star_most = 6 * face_most

-- no line of a vertex is longer, and no head
abbrev pub vertex_most : ℕ
vertex_most = 43

abbrev pub head_most : ℕ
head_most = 37

-- where the faces' lines begin at most
abbrev pub start_most : ℕ
start_most = head_most + vertex_most * places

ended-long : (xs : List ℕ) (c : ℕ) → length (ended xs c) ≡ length xs + 1
ended-long xs c = length-append xs (c ∷ [])

abbrev pub width_of : Style → ℕ → ℕ
width_of s n = length (digits (s.first + n))

-- what stands before the numbers, and each with what ends it
pub face-parts : (s : Style) (q : Corners)
    → length (face_text s q)
    ≡ 2
    + (length (ended (digits (s.first + q.a)) blank)
    + (length (ended (digits (s.first + q.b)) blank)
    + (length (ended (digits (s.first + q.c)) blank) + length (ended (digits (s.first + q.d)) feed))))
unfolding face_text
face-parts s q =
    let a = ended (digits (s.first + q.a)) blank in
    let b = ended (digits (s.first + q.b)) blank in
    let c = ended (digits (s.first + q.c)) blank in
    let d = ended (digits (s.first + q.d)) feed in
    let x = length-append a (b ++ (c ++ d)) in
    let y = length-append b (c ++ d) in
    let z = length-append c d in
    omega arith

pub corners-long : (s : Style) (q : Corners) → length (face_text s q) ≡ 6 + (width_of s q.a + (width_of s q.b + (width_of s q.c + width_of s q.d)))
corners-long s q =
    let x = face-parts s q in
    let a = ended-long (digits (s.first + q.a)) blank in
    let b = ended-long (digits (s.first + q.b)) blank in
    let c = ended-long (digits (s.first + q.c)) blank in
    let d = ended-long (digits (s.first + q.d)) feed in
    omega arith

-- however it is turned
pub face-long : (s : Style) (q : Corners)
    → length (face_text s (least_first q)) ≡ 6 + (width_of s q.a + (width_of s q.b + (width_of s q.c + width_of s q.d)))
unfolding least_first
face-long s q = go (is_least q) (is_least (next_first q)) (is_least (next_first (next_first q)))
  where
    go : (x y z : Bool)
        → length (face_text s (cond x q (cond y (next_first q) (cond z (next_first (next_first q)) (next_first (next_first (next_first q)))))))
        ≡ 6 + (width_of s q.a + (width_of s q.b + (width_of s q.c + width_of s q.d)))
    go true y z = corners-long s q
    go false true z = corners-long s (next_first q) ∙ omega arith
    go false false true = corners-long s (next_first (next_first q)) ∙ omega arith
    go false false false = corners-long s (next_first (next_first (next_first q))) ∙ omega arith

pub face-least : (s : Style) (q : Corners) → face_least ≤ length (face_text s q)
face-least s q =
    omega
    (arith, corners-long s q, digits-some (s.first + q.a), digits-some (s.first + q.b), digits-some (s.first + q.c), digits-some (s.first + q.d))

pub face-most : (s : Style) (q : Corners) → s.first ≤ 1 → Small q → length (face_text s q) ≤ face_most
face-most s q h w =
    omega (arith, corners-long s q, few q.a w.a, few q.b w.b, few q.c w.c, few q.d w.d)
  where
    few : (n : ℕ) → n < places → width_of s n ≤ 5
    few n l = width-below 5 (s.first + n) (omega arith) (omega arith)

pub vertex-marked : (s : Style) (r : Record) → s.marked ≡ true → length (vertex_text s r) ≡ length (position_text r.at) + 2
unfolding vertex_text
vertex-marked s r e =
    ap (λ (b : Bool). length (cond b (letter_v ∷ blank ∷ []) [] ++ position_text r.at)) e
    ∙ (let a = length-append (letter_v ∷ blank ∷ []) (position_text r.at) in omega arith)

pub vertex-plain : (s : Style) (r : Record) → s.marked ≡ false → vertex_text s r ≡ position_text r.at
unfolding vertex_text
vertex-plain s r e = ap (λ (b : Bool). cond b (letter_v ∷ blank ∷ []) [] ++ position_text r.at) e

pub vertex-mark : (s : Style) (r : Record) → s.marked ≡ true → vertex_text s r ≡ (letter_v ∷ blank ∷ []) ++ position_text r.at
unfolding vertex_text
vertex-mark s r e = ap (λ (b : Bool). cond b (letter_v ∷ blank ∷ []) [] ++ position_text r.at) e

pub vertex-room : (s : Style) (r : Record) → length (position_text r.at) ≤ length (vertex_text s r)
unfolding vertex_text
vertex-room s r = omega (arith, length-append (vertex_mark s) (position_text r.at))

pub vertex-least : (s : Style) (r : Record) → vertex_least ≤ length (vertex_text s r)
vertex-least s r = go s.marked refl
  where
    go : (b : Bool) → s.marked ≡ b → vertex_least ≤ length (vertex_text s r)
    go true e = omega (arith, vertex-marked s r e, position-least r.at)
    go false e = omega (arith, ap length (vertex-plain s r e), position-least r.at)

-- ---- the head

module _ (s : Style) (c : Counts) where
  abbrev head : List ℕ
  head = (79 ∷ 70 ∷ 70 ∷ feed ∷ []) ++ ended (digits c.vertices) blank ++ ended (digits c.faces) blank ++ ended (digits c.edges) feed

  pub head-is : s.head ≡ true → head_text s c ≡ head
  unfolding head_text
  head-is e = ap (λ (b : Bool). cond b head []) e

  pub head-parts : s.head ≡ true
      → length (head_text s c)
      ≡ 4 + length (ended (digits c.vertices) blank) + length (ended (digits c.faces) blank) + length (ended (digits c.edges) feed)
  head-parts e =
      let name : List ℕ = 79 ∷ 70 ∷ 70 ∷ feed ∷ [] in
      let v = ended (digits c.vertices) blank in
      let f = ended (digits c.faces) blank in
      let g = ended (digits c.edges) feed in
      let h = ap length (head-is e) in
      let x = length-append (name ++ v ++ f) g in
      let y = length-append (name ++ v) f in
      let z = length-append name v in
      omega arith

  pub head-long : s.head ≡ true → length (head_text s c) ≡ length (digits c.vertices) + length (digits c.faces) + length (digits c.edges) + 7
  head-long e =
      let h = head-parts e in
      let x = ended-long (digits c.vertices) blank in
      let y = ended-long (digits c.faces) blank in
      let z = ended-long (digits c.edges) feed in
      omega arith

  pub head-none : s.head ≡ false → head_text s c ≡ []
  unfolding head_text
  head-none e = ap (λ (b : Bool). cond b head []) e

-- bytes stored at the beginning
pub stored-first : (o xs o' : List ℕ) (p : ℕ) → length xs ≤ length o → Wrote o 0 xs o' p → o' ≡ xs ++ drop (length xs) o
stored-first o xs o' p h w =
    let e : 0 + length xs ≡ length xs = omega arith in
    w.bytes ∙ sets-eq xs o 0 (omega arith) ∙ ap (λ (k : ℕ). xs ++ drop k o) e

-- ---- the vertices' lines, slot by slot

module _ (s : Style) (f : ℕ → Option Record) where
  pub vertices-start : 0 ≡ length (texts (vertex_text s) (standing f 0))
  unfolding standing
  vertices-start = ap length (sym (texts-none (vertex_text s)))

  pub vertices-more : (i : ℕ) → length (texts (vertex_text s) (standing f (i + 1))) ≡ length (texts (vertex_text s) (standing f i)) + length (slot_line s (f i))
  vertices-more i =
      ap (λ (rs : List Record). length (texts (vertex_text s) rs)) (standing-more f i)
      ∙ texts-long (vertex_text s) (standing f i) (listed (f i))
      ∙ ap (λ (k : ℕ). length (texts (vertex_text s) (standing f i)) + k) (one (f i))
    where
      one : (x : Option Record) → length (texts (vertex_text s) (listed x)) ≡ length (slot_line s x)
      one None = ap length (texts-none (vertex_text s))
      one (Some r) = ap length (texts-one (vertex_text s) r)

-- ---- the record of a key

module _ (t : List ℕ) (o : InOrder t) where
  -- the slot of a key is in the table
  pub ordered-inside : (k : ℕ) → k < length (ordered t) → slot_width * (nth (ordered t) k % places) + slot_width ≤ length t
  ordered-inside k l =
      keys-inside t o (nth (ordered t) k) (mem-sort ltb (keys_of t) (nth (ordered t) k) (at_mem 0 (ordered t) k l))

  pub keyed-close : (v : ℕ) → slot_width * (v % places) + slot_width ≤ length t → Close (record_keyed t v).at
  keyed-close v h = go (slot_at t (v % places)) refl
    where
      go : (x : Option Record) → slot_at t (v % places) ≡ x → Close (record_in x).at
      go None e = record { a = omega arith; b = omega arith; m = omega arith }
      go (Some r) e = close r (o.valid (v % places) r (omega (arith, o.fits.long)) e)

-- ---- the lines of sorted keys

pub vertices-sorted : (s : Style) (t : List ℕ) → InOrder t
    → texts (vertex_line s t) (ordered t) ≡ texts (vertex_text s) (sorted (standing (slot_at t) (slots_of t)))
vertices-sorted s t o =
    sym (texts-map (vertex_text s) (record_keyed t) (ordered t)) ∙ ap (texts (vertex_text s)) (keys-sorted t o)

-- the numbers of a face whose vertices all stand in the table fit
four-small : (t : List ℕ) → InOrder t → (f : Face) → Four t f → Small (corners_of t f)
four-small t o f w = record {
  a = held_number t o f.at w.at;
  b = held_number t o f.adjacent w.adjacent;
  c = held_number t o f.opposite w.opposite;
  d = held_number t o f.next w.next;
}

turned-small : (q : Corners) → Small q → Small (next_first q)
turned-small q s = record { a = s.b; b = s.c; c = s.d; d = s.a }

least-small : (q : Corners) → Small q → Small (least_first q)
unfolding least_first
least-small q s = go (is_least q) (is_least (next_first q)) (is_least (next_first (next_first q)))
  where
    q₁ : Small (next_first q)
    q₁ = turned-small q s

    q₂ : Small (next_first (next_first q))
    q₂ = turned-small (next_first q) q₁

    go : (x y z : Bool) → Small (cond x q (cond y (next_first q) (cond z (next_first (next_first q)) (next_first (next_first (next_first q))))))
    go true y z = s
    go false true z = q₁
    go false false true = q₂
    go false false false = turned-small (next_first (next_first q)) q₂

pub face-small : (t : List ℕ) → InOrder t → (f : Face) → Four t f → Small (least_of t f)
face-small t o f w = least-small (corners_of t f) (four-small t o f w)

mem-map : {A B : Type 0} (g : A → B) (xs : List A) (y : B) → Memᴰ y (map g xs) → (x : A) × Memᴰ x xs × (y ≡ g x)
mem-map g [] y m = absurd (Memᴰ.not-nil m)
mem-map g (x ∷ xs) y m = go (Memᴰ.cases_cons m) (λ k. mem-map g xs y k)
  where
    go : (y ≡ g x) ⊎ Memᴰ y (map g xs) → (Memᴰ y (map g xs) → (z : _) × Memᴰ z xs × (y ≡ g z)) → (z : _) × Memᴰ z (x ∷ xs) × (y ≡ g z)
    go (inl e) ih = (x, Memᴰ.head refl, e)
    go (inr k) ih = let w = ih k in (w.0, Memᴰ.tail w.1, w.2)

map-map : (t : List ℕ) (fs : List Face) → map packed (map (least_of t) fs) ≡ map (face_key t) fs
map-map t [] = refl
map-map t (f ∷ fs) = λ i. face_key t f ∷ map-map t fs i

module _ (s : Style) (t : List ℕ) (o : InOrder t) (fours : (f : Face) → Memᴰ f (mesh_faces t) → Four t f) where
  abbrev all : List Corners
  all = map (least_of t) (mesh_faces t)

  smalls : (q : Corners) → Memᴰ q all → Small q
  smalls q m =
      let w = mem-map (least_of t) (mesh_faces t) q m in
      subst Small (sym w.2) (face-small t o w.0 (fours w.0 w.1))

  keys-packed : map packed (face_corners t) ≡ sort_by ltb (map (face_key t) (mesh_faces t))
  keys-packed =
      sort-map rises ltb packed all (λ q r m n. pack-rises q r (smalls q m) (smalls r n)) ∙ ap (sort_by ltb) (map-map t (mesh_faces t))

  pub faces-sorted : texts (key_line s) (sort_by ltb (map (face_key t) (mesh_faces t))) ≡ texts (face_text s) (face_corners t)
  faces-sorted =
      ap (texts (key_line s)) (sym keys-packed) ∙ sym (texts-map (face_text s) unpacked (map packed (face_corners t)))
      ∙ ap (texts (face_text s)) (unpack-all (face_corners t) (λ q m. smalls q (mem-sort rises all q m)))

-- ---- lengths and keys, place by place and slot by slot

module _ (s : Style) (t : List ℕ) where
  abbrev long : List Face → ℕ
  long fs = length (texts (face_line s t) fs)

  pub long-none : 0 ≡ long []
  long-none = ap length (sym (texts-none (face_line s t)))

  pub long-one : (f : Face) → long (f ∷ []) ≡ length (face_line s t f)
  long-one f = ap length (texts-one (face_line s t) f)

  pub star-start : (g : ℕ → List Face) → 0 ≡ long (gather 0 g)
  unfolding gather
  star-start g = long-none

  pub star-more : (g : ℕ → List Face) (j : ℕ) → long (gather (j + 1) g) ≡ long (gather j g) + long (g j)
  star-more g j = ap long (gather-more g j) ∙ texts-long (face_line s t) (gather j g) (g j)

  pub slots-start : 0 ≡ long (fresh_below t 0)
  unfolding fresh_below
  slots-start = long-none

  pub slots-more : (k : ℕ) → long (fresh_below t (k + 1)) ≡ long (fresh_below t k) + long (fresh_slot t k)
  slots-more k = ap long (fresh-more t k) ∙ texts-long (face_line s t) (fresh_below t k) (fresh_slot t k)

  pub slot-free : (k : ℕ) → slot_at t k ≡ None → 0 ≡ long (fresh_slot t k)
  unfolding fresh_slot
  slot-free k e = long-none ∙ ap (λ (x : Option Record). long (fresh_in t k x)) (sym e)

  pub slot-holds : (k : ℕ) (v : Record) → slot_at t k ≡ Some v → long (fresh_star t k v) ≡ long (fresh_slot t k)
  unfolding fresh_slot
  slot-holds k v e = ap (λ (x : Option Record). long (fresh_in t k x)) (sym e)

-- keys of faces, one list after the other
pub keys-append : (t : List ℕ) (fs gs : List Face) → map (face_key t) (fs ++ gs) ≡ map (face_key t) fs ++ map (face_key t) gs
keys-append t fs gs = map-append (face_key t) fs gs

pub keys-long : (t : List ℕ) (fs : List Face) → length (map (face_key t) fs) ≡ length fs
keys-long t fs = length-map fs (face_key t)
