-- The output on its way: keys of the vertices, sorted; keys of the faces after them; the faces' lines in the part past the vertices' keys; the vertices' lines.
-- `stand-made` the vertices' keys stand · `FacesIn` keys of faces stored: `faces-none`, `faces-one`, `faces-then`, `stand-kept` the vertices' keys stay ·
-- `queue-sorted`, `queue-past`, `queue-keys` the faces' keys sorted · `vertices-are`, `faces-are` the lines of all keys are the file's · `Body` what
-- `write_body` goes by: `body-keys`, `body-stand`, `body-room`, `body-queue`, `body_kept`, `body-lines`.
-- Assumes nothing.
use Rattle.std.specs.Prelude.{◌≡◌, false, List, [], ◌∷◌, ◌++◌, map, ℕ, ◌+◌, ◌*◌, ◌-◌, ◌≤◌, ◌<◌, ltb, length, take, drop, get_or}
use Rattle.std.proofs.Common.{sym, ap, ◌∙◌, subst, append-nil, arith, length-append, length-drop, drop_of_length-le, get_or-drop, get_or-take, take_all, drop-drop, length-take-le, ext_get_or}
use Rattle.std.proofs.Math.ListN.{get_or-append}
use Rattle.std.proofs.Math.Seq.{drop-append-add}
use Rattle.laws.specs.Words.{word_at}
use Rattle.lattice.specs.declared.records.Record.{Record}
use Rattle.table.specs.Slots.{slots_of}
use Rattle.table.specs.Order.{InOrder}
use Rattle.firsts.specs.Faces.{faces_in}
use Rattle.firsts.specs.declared.faces.Face.{Face}
use Rattle.sorting.specs.Sorting.{sort_by, key_width, key_in, keys_in, Sorts}
use Rattle.sorting.specs.SortLaws.{sort-length}
use Rattle.sorting.specs.Tally.{nth}
use Rattle.sorting.specs.Keys.{Put}
use Rattle.sorting.specs.KeyLaws.{firsts-length, firsts_at}
use Rattle.writers.specs.Files.{sorted}
use Rattle.writers.specs.KeptLaws.{Filled}
use Rattle.mesh_faces.specs.MeshFaces.{mesh_faces, torn_of}
use Rattle.viewer_lines.specs.ViewerLines.{vertex_text, texts}
use Rattle.viewer_lines.specs.Packed.{unpacked}
use Rattle.numbering.specs.Keyed.{record_keyed}
use Rattle.numbering.specs.Ranks.{keys_of, ordered, Stand}
use Rattle.numbering.specs.Guesses.{face_least, vertex_least, Guessed}
use Rattle.viewer.specs.Stored.{Stored, stored-none, stored_one, stored-then}
use Rattle.viewer_lines.specs.Backward.{texts-least, texts-sort}
use Rattle.viewer_lines.specs.Lines.{face_key, key_line, vertex_line, Queue, face-least, vertex-least, vertices-sorted, faces-sorted, keys-append, keys-long}
use Rattle.viewer.specs.FaceLaws.{mesh-four}
use Rattle.viewer.specs.CallLaws.{vertex_part, face_part, standing-records, faces-many}
use Rattle.viewer_lines.specs.declared.styles.Style.{Style}

-- the first k keys as a list, where they are known one by one
keys-are : (o ks : List ℕ) (k : ℕ) → k ≡ length ks → ((i : ℕ) → i < k → key_in o i ≡ nth ks i) → keys_in o k ≡ ks
keys-are o ks k e h =
    let n = firsts-length (key_in o) k in
    ext_get_or 0 (keys_in o k) ks (n ∙ e) (λ i l. let m : i < k = omega arith in firsts_at (key_in o) k i m ∙ h i m)

-- sorted keys one by one
sorted-keys : (o ks o' : List ℕ) (k : ℕ) → k ≡ length ks → ((i : ℕ) → i < k → key_in o i ≡ nth ks i) → Sorts o k o'
    → (i : ℕ) → i < k → key_in o' i ≡ nth (sort_by ltb ks) i
sorted-keys o ks o' k e h s i l =
    sym (firsts_at (key_in o') k i l) ∙ ap (λ (l : List ℕ). nth l i) (s.keys ∙ ap (sort_by ltb) (keys-are o ks k e h))

pub stand-made : (t o o₁ o₂ : List ℕ) (k : ℕ) → Filled o (keys_of t) o₁ k → Sorts o₁ k o₂ → key_width * k ≤ length o → Stand t o₂ k
stand-made t o o₁ o₂ k f s room = record {
  count = f.count ∙ sym (sort-length ltb (keys_of t));
  keys = sorted-keys o₁ (keys_of t) o₂ k f.count (λ i l. f.keys i (omega (arith, f.count))) s;
  room = omega (arith, s.long, f.long);
}

-- ---- keys of faces

-- the keys of the faces fs are stored from key s on, which left o'; `past` is the place past them
pub record FacesIn (t o : List ℕ) (s : ℕ) (fs : List Face) (o' : List ℕ) (past : ℕ) : Type 0 where
  pub stored : Stored o s (map (face_key t) fs) o'
  pub count : past ≡ s + length fs

pub faces-none : (t o : List ℕ) (s : ℕ) (fs : List Face) → fs ≡ [] → FacesIn t o s fs o s
faces-none t o s fs e = subst (λ (gs : List Face). FacesIn t o s gs o s) (sym e) (record { stored = stored-none o s; count = omega arith })

pub faces-one : (t o : List ℕ) (s : ℕ) (f : Face) (o' : List ℕ) → Put o s (face_key t f) o' → FacesIn t o s (f ∷ []) o' (s + 1)
faces-one t o s f o' p = record { stored = stored_one o s (face_key t f) o' p; count = omega arith }

pub faces-then : (t o o₁ o₂ : List ℕ) (s at past : ℕ) (fs gs hs : List Face) → FacesIn t o s fs o₁ at → FacesIn t o₁ at gs o₂ past → hs ≡ fs ++ gs
    → FacesIn t o s hs o₂ past
faces-then t o o₁ o₂ s at past fs gs hs a b e =
    let z : at ≡ s + length (map (face_key t) fs) = omega (arith, a.count, keys-long t fs) in
    let k = ap (map (face_key t)) e ∙ keys-append t fs gs in
    record {
      stored =
          subst (λ (ks : List ℕ). Stored o s ks o₂) (sym k)
          (stored-then o o₁ o₂ s (map (face_key t) fs) (map (face_key t) gs) a.stored
          (subst (λ (n : ℕ). Stored o₁ n (map (face_key t) gs) o₂) z b.stored));
      count = omega (arith, a.count, b.count, ap length e, length-append fs gs);
    }

pub stand-kept : (t o o' : List ℕ) (k s past : ℕ) (fs : List Face) → Stand t o k → FacesIn t o s fs o' past → k ≤ s → Stand t o' k
stand-kept t o o' k s past fs w f h = record {
  count = w.count;
  keys = λ i l. f.stored.before i (omega arith) ∙ w.keys i l;
  room = omega (arith, w.room, f.stored.long);
}

-- ---- a part of the bytes

word-drop : (n : ℕ) (o : List ℕ) (p : ℕ) → word_at (drop n o) p ≡ word_at o (n + p)
unfolding word_at
word-drop n o p =
    let a : n + (p + 1) ≡ n + p + 1 = omega arith in
    let b : n + (p + 2) ≡ n + p + 2 = omega arith in
    let c : n + (p + 3) ≡ n + p + 3 = omega arith in
    rw (get_or-drop n o p 0, get_or-drop n o (p + 1) 0, get_or-drop n o (p + 2) 0, get_or-drop n o (p + 3) 0, a, b, c)

pub key-drop : (k : ℕ) (o : List ℕ) (i : ℕ) → key_in (drop (key_width * k) o) i ≡ key_in o (k + i)
unfolding key_in
key-drop k o i =
    let a : key_width * k + key_width * i ≡ key_width * (k + i) = omega arith in
    let b : key_width * k + (key_width * i + 4) ≡ key_width * (k + i) + 4 = omega arith in
    rw (word-drop (key_width * k) o (key_width * i), word-drop (key_width * k) o (key_width * i + 4), a, b)

-- bytes of a front that stays
word-front : (n : ℕ) (o xs : List ℕ) (p : ℕ) → n ≤ length o → p + 4 ≤ n → word_at (take n o ++ xs) p ≡ word_at o p
unfolding word_at
word-front n o xs p r h = rw (at p (omega arith), at (p + 1) (omega arith), at (p + 2) (omega arith), at (p + 3) (omega arith))
  where
    at : (i : ℕ) → i < n → get_or (take n o ++ xs) i 0 ≡ get_or o i 0
    at i l = get_or-append (take n o) xs 0 i (omega (arith, length-take-le n o r)) ∙ get_or-take n o i 0 l

key-front : (k : ℕ) (o xs : List ℕ) (i : ℕ) → key_width * k ≤ length o → i < k → key_in (take (key_width * k) o ++ xs) i ≡ key_in o i
unfolding key_in
key-front k o xs i r h =
    rw (
      word-front (key_width * k) o xs (key_width * i) r (omega arith),
      word-front (key_width * k) o xs (key_width * i + 4) r (omega arith),
    )

-- ---- the faces' keys sorted

module _ (s : Style) (ks o : List ℕ) (k end : ℕ) (q : Queue s ks o k end) where
  pub queue-keys : key_width * k ≤ end
  queue-keys = omega (arith, texts-least (key_line s) face_least ks (λ v. face-least s (unpacked v)), q.count, q.long)

  module _ (o' : List ℕ) (w : Sorts o k o') where
    pub queue-sorted : Queue s (sort_by ltb ks) o' k end
    queue-sorted = record {
      count = q.count ∙ sym (sort-length ltb ks);
      keys = sorted-keys o ks o' k q.count q.keys w;
      long = omega (arith, texts-sort (key_line s) ltb ks, q.long);
      room = omega (arith, w.long, q.room);
    }

    -- the lines are as long
    pub queue-lines : length (texts (key_line s) (keys_in o' k)) ≡ length (texts (key_line s) ks)
    queue-lines =
        ap (λ (l : List ℕ). length (texts (key_line s) l)) w.keys ∙ texts-sort (key_line s) ltb (keys_in o k)
        ∙ ap (λ (l : List ℕ). length (texts (key_line s) l)) (keys-are o ks k q.count q.keys)

    pub queue-past : drop end o' ≡ drop end o
    queue-past = w.past end queue-keys

-- ---- the whole

abbrev pub face_keys : List ℕ → List ℕ
face_keys t = map (face_key t) (mesh_faces t)

module _ (s : Style) (t : List ℕ) (o : InOrder t) where
  pub vertices-are : texts (vertex_line s t) (ordered t) ≡ vertex_part s t
  vertices-are = vertices-sorted s t o ∙ ap (λ (rs : List Record). texts (vertex_text s) (sorted rs)) (standing-records t (slots_of t))

  vertices-least : vertex_least * length (keys_of t) ≤ length (vertex_part s t)
  vertices-least =
      omega (
        arith,
        texts-least (vertex_line s t) vertex_least (ordered t) (λ v. vertex-least s (record_keyed t v)),
        ap length vertices-are,
        sort-length ltb (keys_of t),
      )

  module _ (untorn : torn_of t ≡ false) where
    pub faces-are : texts (key_line s) (sort_by ltb (face_keys t)) ≡ face_part s t
    faces-are = faces-sorted s t o (mesh-four t o untorn)

    faces-least : face_least * length (mesh_faces t) ≤ length (face_part s t)
    faces-least =
        omega (
          arith,
          texts-least (key_line s) face_least (sort_by ltb (face_keys t)) (λ v. face-least s (unpacked v)),
          ap length faces-are,
          sort-length ltb (face_keys t),
          keys-long t (mesh_faces t),
        )

-- the faces' lines go from `start` to `total`, and there is room before them for the vertices'
pub record Body (s : Style) (t : List ℕ) (start total : ℕ) (out : List ℕ) : Type 0 where
  pub order : InOrder t
  pub untorn : torn_of t ≡ false
  pub vertices : length (vertex_part s t) ≤ start
  pub faces : start + length (face_part s t) ≡ total
  pub room : total ≤ length out

module _ {s : Style} {t : List ℕ} {start total : ℕ} {out : List ℕ} (b : Body s t start total out) where
  pub many : vertex_least * length (keys_of t) ≤ start
  many = omega (arith, vertices-least s t b.order, b.vertices)

  more : start + face_least * length (mesh_faces t) ≤ total
  more = omega (arith, faces-least s t b.order b.untorn, b.faces)

  pub body-keys : key_width * length (keys_of t) ≤ length out
  body-keys = omega (arith, many, more, b.room)

  pub body-least : start + face_least * faces_in t ≤ total
  body-least = omega (arith, more, faces-many t)

  -- the vertices' keys stand sorted, and the bytes past the file are as they were
  pub record Arranged (o₂ : List ℕ) (k : ℕ) : Type 0 where
    pub count : k ≡ length (keys_of t)
    pub stand : Stand t o₂ k
    pub long : length o₂ ≡ length out
    pub past : drop total o₂ ≡ drop total out

  pub body-arranged : {o₁ o₂ o₃ : List ℕ} {k : ℕ} (base n : ℕ) → Filled out (keys_of t) o₁ k → Sorts o₁ k o₂ → Guessed o₂ k base n o₃
      → (k < base → key_width * (base + n) ≤ total) → Arranged o₃ k
  body-arranged {o₁} {o₂} {o₃} {k} base n f w g h =
      let st = stand-made t out o₁ o₂ k f w (omega (arith, body-keys, f.count)) in
      record {
        count = f.count;
        stand = record { count = st.count; keys = λ i l. g.keys i l ∙ st.keys i l; room = omega (arith, st.room, g.long) };
        long = g.long ∙ w.long ∙ f.long;
        past = g.past total h ∙ w.past total (omega (arith, many, more, f.count)) ∙ f.past total (omega (arith, many, more));
      }

  module _ {o₂ : List ℕ} {k : ℕ} (f : Arranged o₂ k) where
    pub body-room : key_width * (k + length (mesh_faces t)) ≤ length o₂
    body-room = omega (arith, many, more, b.room, f.count, f.long)

    module _ {o₃ : List ℕ} {past : ℕ} (g : FacesIn t o₂ k (mesh_faces t) o₃ past) where
      abbrev from : ℕ
      from = key_width * k

      abbrev part : List ℕ
      part = take (length o₃ - from) (drop from o₃)

      pub body-from : from ≤ start
      body-from = omega (arith, many, f.count)

      pub body-long : length o₃ ≡ length out
      body-long = g.stored.long ∙ f.long

      stays : drop total o₃ ≡ drop total out
      stays =
          let c = keys-long t (mesh_faces t) in
          g.stored.past total (omega (arith, many, more, f.count)) ∙ f.past

      part-is : part ≡ drop from o₃
      part-is = take_all (length o₃ - from) (drop from o₃) (omega (arith, length-drop from o₃))

      part-long : length part + from ≡ length out
      part-long = omega (arith, ap length part-is, length-drop from o₃, body-long, body-from, more, b.room)

      pub body-queue : Queue s (face_keys t) part (past - k) (total - from)
      body-queue =
          let c = keys-long t (mesh_faces t) in
          record {
            count = omega (arith, g.count);
            keys = λ i l. ap (λ (x : List ℕ). key_in x i) part-is ∙ key-drop k o₃ i ∙ g.stored.keys i (omega (arith, g.count));
            long = omega (arith, texts-sort (key_line s) ltb (face_keys t), ap length (faces-are s t b.order b.untorn), b.faces, body-from);
            room = omega (arith, part-long, b.room);
          }

      pub body-lines-end : start - from + length (texts (key_line s) (sort_by ltb (face_keys t))) ≡ total - from
      body-lines-end = omega (arith, ap length (faces-are s t b.order b.untorn), b.faces, body-from)

      module _ (p : List ℕ) (long : length p ≡ length part)
          (lines : drop (start - from) p ≡ texts (key_line s) (sort_by ltb (face_keys t)) ++ drop (total - from) part) where
        abbrev rest : List ℕ
        rest = drop (length o₃ - from) (drop from o₃)

        abbrev o₄ : List ℕ
        o₄ = take from o₃ ++ (p ++ rest)

        inside : from ≤ length o₃
        inside = omega (arith, part-long, body-long)

        o₄-is : o₄ ≡ take from o₃ ++ p
        o₄-is =
            let none : length (drop from o₃) ≤ length o₃ - from = omega (arith, length-drop from o₃) in
            ap (λ (x : List ℕ). take from o₃ ++ (p ++ x)) (drop_of_length-le (drop from o₃) none)
            ∙ ap (λ (x : List ℕ). take from o₃ ++ x) (append-nil p)

        pub body_same : length o₄ ≡ length out
        body_same = omega (arith, ap length o₄-is, length-append (take from o₃) p, length-take-le from o₃ inside, long, part-long)

        pub body_kept : Stand t o₄ k
        body_kept =
            let st = stand-kept t o₂ o₃ k k past (mesh_faces t) f.stand g (omega arith) in
            record {
              count = st.count;
              keys = λ i l. key-front k o₃ (p ++ rest) i inside l ∙ st.keys i l;
              room = omega (arith, body_same, inside, body-long);
            }

        pub body-lines : drop start o₄ ≡ face_part s t ++ drop total out
        body-lines =
            let a : start ≡ length (take from o₃) + (start - from) = omega (arith, length-take-le from o₃ inside, body-from) in
            let e : from + (total - from) ≡ total = omega (arith, body-from, more) in
            ap (drop start) o₄-is ∙ ap (λ (n : ℕ). drop n (take from o₃ ++ p)) a ∙ drop-append-add (take from o₃) p (start - from) ∙ lines
            ∙ (λ i.
            faces-are s t b.order b.untorn i
            ++ (ap (drop (total - from)) part-is ∙ drop-drop (total - from) from o₃ ∙ ap (λ (n : ℕ). drop n o₃) e ∙ stays) i)
