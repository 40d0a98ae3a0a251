-- The faces of the file: each face of the mesh once, in its own order round, from its smallest number on, and rising.
-- `mesh-face`, `face-mesh`, `mesh-apart` the faces of the vertices, and no two of them the same · `mesh-four` their vertices all stand in the table ·
-- `least-round` turned, and not more · `Least`, `least_first_lem` the smallest first · `corners-rise` they rise strictly · `corners-once` the file has them each
-- as often as the mesh · `corners-many` as many as the census counts.
-- Assumes nothing.
use Rattle.lattice.specs.declared.points.Point.{Point}
use Rattle.std.specs.Prelude.{◌≡◌, ◌⊎◌, Bool, cond, not, ◌&&◌, ◌||◌, ℕ, ◌+◌, ◌≤◌, ◌<◌, leb, Option, Some, None}
use Rattle.std.proofs.Math.Path.{refl}
use Rattle.std.proofs.Common.{sym, ap, ◌∙◌, subst, inl, inr, arith, ltb-true, ltb-false, lt-ltb, leb-true, le-leb}
use Rattle.std.proofs.Math.Bool.{true, false, or-false, or-true}
use mathlib.Core.List.Memᴰ
use mathlib.Core.List.{List, [], ◌∷◌, ◌++◌, map, Memᴰ}
use Rattle.std.proofs.Math.Decide.{dec_lt}
use Rattle.std.proofs.Math.ListN.{length, length-append}
use Rattle.std.proofs.lemmas.List.{length-map}
use Rattle.laws.specs.Each.{not-both, both_left, both_right}
use Rattle.laws.specs.Some.{some_of, some-append}
use Rattle.lattice.specs.declared.records.Record.{Record}
use Rattle.table.specs.Order.{InOrder}
use Rattle.table.specs.Entries.{records_of}
use Rattle.table.specs.MapLaws.{records-looked, lookup-stands}
use Rattle.queries.specs.Queries.{chosen_at}
use Rattle.firsts.specs.Faces.{bit, different_after, each, face, face_with, faces_at, turned, same_face, faces_in}
use Rattle.firsts.specs.FaceLaws.{SameRound, straight, once, twice, thrice, round_same}
use Rattle.firsts.specs.SetLaws.{Alike}
use Rattle.firsts.specs.DifferentLaws.{gather-mem}
use Rattle.firsts.specs.SameLaws.{faces-alike}
use Rattle.firsts.specs.declared.faces.Face.{Face}
use Rattle.sorting.specs.SortLaws.{mem-sort, sort-length, Rising, rising-into, Decides, sort-rising}
use Rattle.mesh_faces.specs.MeshFaces.{once_after, mesh_faces, torn_of}
use Rattle.numbering.specs.Numbering.{how_many}
use Rattle.viewer_lines.specs.ViewerLines.{corners_of, next_first, is_least, least_first, least_of, rises, face_corners}
use Rattle.viewer_lines.specs.Packed.{packed, unpacked, Small, pack-rises, unpack-pack}
use Rattle.numbering.specs.Counting.{many-sort}
use Rattle.mesh_faces.specs.Once.{Four, corner-four}
use Rattle.viewer_lines.specs.Lines.{face-small}
use Rattle.viewer.specs.Places.{number-one}
use Rattle.viewer_lines.specs.declared.corners.Corners.{Corners}

-- ---- the different ones of a list

neither : (a b : Bool) → a || b ≡ false → (a ≡ false) × (b ≡ false)
neither false b h = (refl, h)
neither true b h = absurd (not-both refl h)

module _ {A : Type 0} (same : A → A → Bool) where
  abbrev one_more : (A → Bool) → List A → A → Type 0
  one_more f seen y = some_of f (seen ++ y ∷ []) ≡ false

  -- none of those seen, nor the next, passes
  not_seen : (f : A → Bool) (seen : List A) (y : A) → one_more f seen y → (some_of f seen ≡ false) × (f y ≡ false)
  not_seen f seen y h =
      let (a, b) = neither (some_of f seen) (f y || false) (sym (some-append f seen (y ∷ [])) ∙ h) in
      (a, sym (or-false (f y)) ∙ b)

  once-mem : (seen xs : List A) (x : A) → Memᴰ x (once_after same seen xs) → Memᴰ x xs × (some_of (same x) seen ≡ false)
  unfolding once_after
  once-mem seen [] x m = absurd (Memᴰ.not-nil m)
  once-mem seen (y ∷ ys) x m = go (some_of (same y) seen) refl m (λ k. once-mem (seen ++ y ∷ []) ys x k)
    where
      later : Memᴰ x ys × one_more (same x) seen y → Memᴰ x (y ∷ ys) × (some_of (same x) seen ≡ false)
      later w = (Memᴰ.tail w.0, (not_seen (same x) seen y w.1).0)

      first : some_of (same y) seen ≡ false → (x ≡ y) ⊎ Memᴰ x (once_after same (seen ++ y ∷ []) ys)
          → (Memᴰ x (once_after same (seen ++ y ∷ []) ys) → Memᴰ x ys × one_more (same x) seen y)
          → Memᴰ x (y ∷ ys) × (some_of (same x) seen ≡ false)
      first e (inl q) ih = (Memᴰ.head q, ap (λ (z : A). some_of (same z) seen) q ∙ e)
      first e (inr k) ih = later (ih k)

      go : (b : Bool) → some_of (same y) seen ≡ b → Memᴰ x (cond b [] (y ∷ []) ++ once_after same (seen ++ y ∷ []) ys)
          → (Memᴰ x (once_after same (seen ++ y ∷ []) ys) → Memᴰ x ys × one_more (same x) seen y)
          → Memᴰ x (y ∷ ys) × (some_of (same x) seen ≡ false)
      go true e k ih = later (ih k)
      go false e k ih = first e (Memᴰ.cases_cons k) ih

  -- no two of them are the same
  once-apart : (seen xs : List A) → Rising (λ x y. same y x ≡ false) (once_after same seen xs)
  unfolding once_after
  once-apart seen [] = tt
  once-apart seen (y ∷ ys) = go (some_of (same y) seen) (once-apart (seen ++ y ∷ []) ys)
    where
      go : (b : Bool) → Rising (λ x z. same z x ≡ false) (once_after same (seen ++ y ∷ []) ys)
          → Rising (λ x z. same z x ≡ false) (cond b [] (y ∷ []) ++ once_after same (seen ++ y ∷ []) ys)
      go true ih = ih
      go false ih = (λ z m. (not_seen (same z) seen y (once-mem (seen ++ y ∷ []) ys z m).1).1, ih)

  once-long : (seen xs : List A) → length (once_after same seen xs) ≡ different_after same seen xs
  unfolding once_after different_after
  once-long seen [] = refl
  once-long seen (x ∷ xs) =
      length-append (cond (some_of (same x) seen) [] (x ∷ [])) (once_after same (seen ++ x ∷ []) xs)
      ∙ (λ i. one (some_of (same x) seen) i + once-long (seen ++ x ∷ []) xs i)
    where
      one : (b : Bool) → length (cond b [] (x ∷ [])) ≡ bit (not b)
      one true = refl
      one false = refl

  module _ (a : Alike same) where
    alike-some : (xs : List A) (x y : A) → same x y ≡ true → some_of (same x) xs ≡ some_of (same y) xs
    alike-some [] x y e = refl
    alike-some (z ∷ xs) x y e = λ i. a.both x y e z i || alike-some xs x y e i

    -- each one of the list is the same as one of them
    once-all : (seen xs : List A) (x : A) → Memᴰ x xs → some_of (same x) seen || some_of (same x) (once_after same seen xs) ≡ true
    unfolding once_after
    once-all seen [] x m = absurd (Memᴰ.not-nil m)
    once-all seen (y ∷ ys) x m = go (some_of (same y) seen) refl (Memᴰ.cases_cons m) (λ k. once-all (seen ++ y ∷ []) ys x k)
      where
        rest : List A
        rest = once_after same (seen ++ y ∷ []) ys

        apart : some_of (same x) (seen ++ y ∷ []) || some_of (same x) rest ≡ true → (some_of (same x) seen || (same x y || false)) || some_of (same x) rest ≡ true
        apart h = ap (λ (b : Bool). b || some_of (same x) rest) (sym (some-append (same x) seen (y ∷ []))) ∙ h

        old : some_of (same y) seen ≡ true → (q s r : Bool) → same x y ≡ q → some_of (same x) seen ≡ s → (s || (q || false)) || r ≡ true → s || r ≡ true
        old e q true r h w g = refl
        old e false false r h w g = g
        old e true false r h w g = absurd (not-both (alike-some seen x y h ∙ e) w)

        new : (s q r : Bool) → (s || (q || false)) || r ≡ true → s || (q || r) ≡ true
        new true q r g = refl
        new false true r g = refl
        new false false r g = g

        go : (b : Bool) → some_of (same y) seen ≡ b → (x ≡ y) ⊎ Memᴰ x ys
            → (Memᴰ x ys → some_of (same x) (seen ++ y ∷ []) || some_of (same x) rest ≡ true)
            → some_of (same x) seen || some_of (same x) (cond b [] (y ∷ []) ++ rest) ≡ true
        go true e (inl q) ih = ap (λ (b : Bool). b || some_of (same x) rest) (ap (λ (z : A). some_of (same z) seen) q ∙ e)
        go true e (inr k) ih = old e (same x y) (some_of (same x) seen) (some_of (same x) rest) refl refl (apart (ih k))
        go false e (inl q) ih =
            ap (λ (b : Bool). some_of (same x) seen || (b || some_of (same x) rest)) (ap (same x) (sym q) ∙ a.self x) ∙ or-true (some_of (same x) seen)
        go false e (inr k) ih = new (some_of (same x) seen) (same x y) (some_of (same x) rest) (apart (ih k))

-- ---- the faces of the vertices

module _ {A B : Type 0} (g : A → List B) where
  each-mem : (vs : List A) (x : B) → Memᴰ x (each g vs) → (v : A) × Memᴰ v vs × Memᴰ x (g v)
  unfolding each
  each-mem [] x m = absurd (Memᴰ.not-nil m)
  each-mem (v ∷ vs) x m = go (Memᴰ.append_cases (g v) m) (λ k. each-mem vs x k)
    where
      go : Memᴰ x (g v) ⊎ Memᴰ x (each g vs) → (Memᴰ x (each g vs) → (u : A) × Memᴰ u vs × Memᴰ x (g u))
          → (u : A) × Memᴰ u (v ∷ vs) × Memᴰ x (g u)
      go (inl k) ih = (v, Memᴰ.head refl, k)
      go (inr k) ih = let w = ih k in (w.0, Memᴰ.tail w.1, w.2)

  mem-each : (vs : List A) (v : A) (x : B) → Memᴰ v vs → Memᴰ x (g v) → Memᴰ x (each g vs)
  unfolding each
  mem-each [] v x m k = absurd (Memᴰ.not-nil m)
  mem-each (u ∷ vs) v x m k = go (Memᴰ.cases_cons m) (λ n. mem-each vs v x n k)
    where
      go : (v ≡ u) ⊎ Memᴰ v vs → (Memᴰ v vs → Memᴰ x (each g vs)) → Memᴰ x (g u ++ each g vs)
      go (inl e) ih = Memᴰ.append_left (each g vs) (subst (λ (z : A). Memᴰ x (g z)) e k)
      go (inr n) ih = Memᴰ.append_right (g u) (ih n)

abbrev pub Differ : Face → Face → Type 0
Differ f g = same_face f g ≡ false

module _ (t : List ℕ) where
  abbrev all : List Face
  all = each (faces_at t) (records_of t)

  -- each is a face of a vertex
  pub mesh-face : (f : Face) → Memᴰ f (mesh_faces t) → (v : Record) × Memᴰ v (records_of t) × Memᴰ f (faces_at t v)
  mesh-face f m = each-mem (faces_at t) (records_of t) f (once-mem same_face [] all f m).0

  -- every face of a vertex is there
  pub face-mesh : (v : Record) (f : Face) → Memᴰ v (records_of t) → Memᴰ f (faces_at t v) → some_of (same_face f) (mesh_faces t) ≡ true
  face-mesh v f m k = once-all same_face faces-alike [] all f (mem-each (faces_at t) (records_of t) v f m k)

  -- and once
  pub mesh-apart : Rising Differ (mesh_faces t)
  mesh-apart = rising-into (λ f g. same_face g f ≡ false) Differ (mesh_faces t) (λ f g m n e. faces-alike.turn f g ∙ e) (once-apart same_face [] all)

  pub mesh-four : InOrder t → torn_of t ≡ false → (f : Face) → Memᴰ f (mesh_faces t) → Four t f
  mesh-four o untorn f m =
      let (v, mv, mf) = mesh-face f m in
      let (j, l, k) = gather-mem v.d (λ i. face_with v i (chosen_at t v i)) f mf in
      at v mv j l (chosen_at t v j) refl k
    where
      at : (v : Record) → Memᴰ v (records_of t) → (j : ℕ) → j < v.d → (s : Option Point) → chosen_at t v j ≡ s → Memᴰ f (face_with v j s) → Four t f
      at v mv j l None e k = absurd (Memᴰ.not-nil k)
      at v mv j l (Some p) e k =
          let s = lookup-stands t o v.at v (records-looked t o v mv) in
          subst (Four t) (sym (Memᴰ.eq_of_singleton k)) (corner-four t o untorn s.slot v s.below s.holds j l p e)

-- ---- turned, and the smallest first

-- the four numbers are those of the face, read from one of its vertices on
pub least-round : (t : List ℕ) (f : Face) → (g : Face) × SameRound f g × (least_of t f ≡ corners_of t g)
unfolding least_first
least-round t f = go (is_least q) (is_least (next_first q)) (is_least (next_first (next_first q)))
  where
    q : Corners
    q = corners_of t f

    go : (x y z : Bool)
        → (g : Face) × SameRound f g
        × (cond x q (cond y (next_first q) (cond z (next_first (next_first q)) (next_first (next_first (next_first q))))) ≡ corners_of t g)
    go true y z = (f, straight refl, refl)
    go false true z = (turned f, once refl, refl)
    go false false true = (turned (turned f), twice refl, refl)
    go false false false = (turned (turned (turned f)), thrice refl, refl)

pub record Least (q : Corners) : Type 0 where
  pub second : q.a ≤ q.b
  pub third : q.a ≤ q.c
  pub fourth : q.a ≤ q.d

is-least : (q : Corners) → q.a ≤ q.b → q.a ≤ q.c → q.a ≤ q.d → is_least q ≡ true
is-least q h k l = rw (le-leb q.a q.b h, le-leb q.a q.c k, le-leb q.a q.d l) refl

least-is : (q : Corners) → is_least q ≡ true → Least q
least-is q e =
    let b = both_left (leb q.a q.b) (leb q.a q.c && leb q.a q.d) e in
    let r = both_right (leb q.a q.b) (leb q.a q.c && leb q.a q.d) e in
    record {
      second = leb-true q.a q.b b;
      third = leb-true q.a q.c (both_left (leb q.a q.c) (leb q.a q.d) r);
      fourth = leb-true q.a q.d (both_right (leb q.a q.c) (leb q.a q.d) r);
    }

-- where none of the first three is the smallest, the fourth is
module _ (q : Corners) (x : is_least q ≡ false) (y : is_least (next_first q) ≡ false) (z : is_least (next_first (next_first q)) ≡ false) where
  abbrev Below : Type 0
  Below = (q.a < q.d) ⊎ ((q.b < q.d) ⊎ (q.c < q.d))

  under : (n : ℕ) → n ≤ q.a → n ≤ q.b → n ≤ q.c → Below → n ≤ q.d
  under n h k l (inl m) = omega arith
  under n h k l (inr (inl m)) = omega arith
  under n h k l (inr (inr m)) = omega arith

  none_below : Below → ⊥
  none_below m = go (dec_lt q.b q.a) (dec_lt q.c q.a) (dec_lt q.c q.b)
    where
      first : q.a ≤ q.b → q.a ≤ q.c → ⊥
      first h k = not-both (is-least q h k (under q.a (omega arith) h k m)) x

      second : q.b ≤ q.a → q.b ≤ q.c → ⊥
      second h k = not-both (is-least (next_first q) k (under q.b h (omega arith) k m) h) y

      third : q.c ≤ q.a → q.c ≤ q.b → ⊥
      third h k = not-both (is-least (next_first (next_first q)) (under q.c h k (omega arith) m) h k) z

      go : Dec (q.b < q.a) → Dec (q.c < q.a) → Dec (q.c < q.b) → ⊥
      go (no h) (no k) l = first (omega arith) (omega arith)
      go (no h) (yes k) l = third (omega arith) (omega arith)
      go (yes h) k (no l) = second (omega arith) (omega arith)
      go (yes h) k (yes l) = third (omega arith) (omega arith)

  upon : (n : ℕ) → (n < q.d → Below) → q.d ≤ n
  upon n h = go (dec_lt n q.d)
    where
      go : Dec (n < q.d) → q.d ≤ n
      go (yes l) = absurd (none_below (h l))
      go (no l) = omega arith

  last-least : Least (next_first (next_first (next_first q)))
  last-least = record { second = upon q.a (λ l. inl l); third = upon q.b (λ l. inr (inl l)); fourth = upon q.c (λ l. inr (inr l)) }

pub least_first_lem : (q : Corners) → Least (least_first q)
unfolding least_first
least_first_lem q = go (is_least q) (is_least (next_first q)) (is_least (next_first (next_first q))) refl refl refl
  where
    go : (x y z : Bool) → is_least q ≡ x → is_least (next_first q) ≡ y → is_least (next_first (next_first q)) ≡ z
        → Least (cond x q (cond y (next_first q) (cond z (next_first (next_first q)) (next_first (next_first (next_first q))))))
    go true y z d e f = least-is q d
    go false true z d e f = least-is (next_first q) e
    go false false true d e f = least-is (next_first (next_first q)) f
    go false false false d e f = last-least q d e f

-- ---- rising

abbrev Less : Corners → Corners → Type 0
Less q r = packed q < packed r

abbrev pub Rises : Corners → Corners → Type 0
Rises q r = rises q r ≡ true

module _ (t : List ℕ) (o : InOrder t) where
  turned-four : (f : Face) → Four t f → Four t (turned f)
  turned-four f w = record { at = w.adjacent; adjacent = w.opposite; opposite = w.next; next = w.at }

  round-four : (f g : Face) → SameRound f g → Four t f → Four t g
  round-four f g (straight e) w = subst (Four t) e w
  round-four f g (once e) w = subst (Four t) e (turned-four f w)
  round-four f g (twice e) w = subst (Four t) e (turned-four (turned f) (turned-four f w))
  round-four f g (thrice e) w = subst (Four t) e (turned-four (turned (turned f)) (turned-four (turned f) (turned-four f w)))

  -- a face is told by its numbers
  corners-one : (f g : Face) → Four t f → Four t g → corners_of t f ≡ corners_of t g → f ≡ g
  corners-one f g w z e =
      let a = number-one t o f.at g.at w.at z.at (ap (λ (q : Corners). q.a) e) in
      let b = number-one t o f.adjacent g.adjacent w.adjacent z.adjacent (ap (λ (q : Corners). q.b) e) in
      let c = number-one t o f.opposite g.opposite w.opposite z.opposite (ap (λ (q : Corners). q.c) e) in
      let d = number-one t o f.next g.next w.next z.next (ap (λ (q : Corners). q.d) e) in
      λ i. face (a i) (b i) (c i) (d i)

  differ : (f g : Face) → Four t f → Four t g → Differ f g → least_of t f ≡ least_of t g → ⊥
  differ f g w z d e =
      let (f', rf, ef) = least-round t f in
      let (g', rg, eg) = least-round t g in
      let one : f' ≡ g' = corners-one f' g' (round-four f f' rf w) (round-four g g' rg z) (sym ef ∙ e ∙ eg) in
      not-both (faces-alike.both f f' (round_same f f' rf) g ∙ faces-alike.turn f' g ∙ faces-alike.both g g' (round_same g g' rg) f'
      ∙ ap (same_face g') one ∙ faces-alike.self g') d

  pair : (f g : Face) → Four t f → Four t g → Differ f g → Decides rises Less (least_of t f) (least_of t g)
  pair f g w z d =
      let a = least_of t f in
      let b = least_of t g in
      let s = face-small t o f w in
      let k = face-small t o g z in (
        λ h. ltb-true (packed a) (packed b) (sym (pack-rises a b s k) ∙ h),
        λ h.
            let l = ltb-false (packed a) (packed b) (sym (pack-rises a b s k) ∙ h) in
            let ne : packed a ≡ packed b → ⊥ = λ e. differ f g w z d (sym (unpack-pack a s) ∙ ap unpacked e ∙ unpack-pack b k) in
            omega arith,
      )

  decides : (fs : List Face) → Rising Differ fs → ((f : Face) → Memᴰ f fs → Four t f) → Rising (Decides rises Less) (map (least_of t) fs)
  decides [] r h = tt
  decides (f ∷ fs) r h = (λ q m. go q (Memᴰ.of_map (least_of t) fs m), decides fs r.1 (λ g m. h g (Memᴰ.tail m)))
    where
      go : (q : Corners) → (g : Face) × Memᴰ g fs × (least_of t g ≡ q) → Decides rises Less (least_of t f) q
      go q (g, m, e) = subst (Decides rises Less (least_of t f)) e (pair f g (h f (Memᴰ.head refl)) (h g (Memᴰ.tail m)) (r.0 g m))

  module _ (untorn : torn_of t ≡ false) where
    smalls : (q : Corners) → Memᴰ q (face_corners t) → Small q
    smalls q m =
        let (f, k, e) = Memᴰ.of_map (least_of t) (mesh_faces t) (mem-sort rises (map (least_of t) (mesh_faces t)) q m) in
        subst Small e (face-small t o f (mesh-four t o untorn f k))

    -- "faces rise by their numbers"
    pub corners-rise : Rising Rises (face_corners t)
    corners-rise =
        rising-into Less Rises (face_corners t)
        (λ q r m n l. pack-rises q r (smalls q m) (smalls r n) ∙ lt-ltb (packed q) (packed r) l)
        (sort-rising rises Less (λ x y z p q. omega arith) (map (least_of t) (mesh_faces t))
        (decides (mesh_faces t) (mesh-apart t) (mesh-four t o untorn)))

many-map : {A B : Type 0} (test : B → Bool) (g : A → B) (xs : List A) → how_many test (map g xs) ≡ how_many (λ x. test (g x)) xs
unfolding how_many
many-map test g [] = refl
many-map test g (x ∷ xs) = ap (λ (n : ℕ). bit (test (g x)) + n) (many-map test g xs)

-- each is written as often as it is there
pub corners-once : (t : List ℕ) (test : Corners → Bool) → how_many test (face_corners t) ≡ how_many (λ f. test (least_of t f)) (mesh_faces t)
corners-once t test = many-sort test rises (map (least_of t) (mesh_faces t)) ∙ many-map test (least_of t) (mesh_faces t)

pub corners-many : (t : List ℕ) → faces_in t ≡ length (face_corners t)
corners-many t =
    sym (once-long same_face [] (each (faces_at t) (records_of t))) ∙ sym (length-map (mesh_faces t) (least_of t))
    ∙ sym (sort-length rises (map (least_of t) (mesh_faces t)))
