-- Document 02, ticket 4: "The subdivisions made are exactly those that every sequence reaching the goal must contain", of every table in order,
-- grown or not. The half that is not obvious: what the turns make, every sequence that reaches the goal has.
-- `Needs` all such sequences have a list · `Wanted` a task's own subdivisions · `places-wanted` those of a vertex that they bring to degree 6 ·
-- `goes-needs` what is done, they all have · `meets-refuses` where 16 is met, there is none; where 8 is, each wants more slots than there are ·
-- `Once`, `run-once`, `has-length` no sequence makes one twice, so none that has them all is shorter.
-- Why: a vertex of degree 3 to 5 rises only by a subdivision in each direction that it is missing, each at its own level (`needed`);
-- those are the neighbours that the request subdivides. One of them that is of a lower degree and a level lower has to come to degree 6 in every
-- sequence that subdivides it at that level: so what it needs is needed. That the request goes on from a table in which some have been made already
-- does no harm: a vertex that is missing a direction there was missing it at the beginning, or was made on the way, by a subdivision that is needed,
-- and so it is made in every such sequence.
-- Assumes nothing.
use Rattle.std.specs.Prelude.{◌≡◌, refl, ◌≢◌, ◌⊎◌, ℕ, suc, ◌+◌, ◌*◌, ◌%◌, ◌-◌, ◌≤◌, ◌<◌, T, length, Some}
use Rattle.std.proofs.Common.{sym, ◌∙◌, ap, subst, inl, inr, arith}
use mathlib.Core.List.Memᴰ
use mathlib.Core.List.{List, [], ◌∷◌, ◌++◌, Memᴰ}
use Rattle.laws.specs.Choices.{of-true}
use Rattle.lattice.specs.Records.{valid_of}
use Rattle.lattice.specs.RecordLaws.{Inner, inner}
use Rattle.lattice.specs.Ranks.{move_of}
use Rattle.lattice.specs.Stars.{adjacent_at}
use Rattle.lattice.specs.declared.points.Point.{Point}
use Rattle.lattice.specs.declared.records.Record.{Record}
use Rattle.table.specs.Entries.{look_up}
use Rattle.table.specs.Order.{InOrder}
use Rattle.table.specs.Slots.{free_slots}
use Rattle.table.specs.MapLaws.{lookup-valid, lookup-point}
use Rattle.mesh.specs.Subdivide.{subdivided}
use Rattle.mesh.specs.StepLaws.{held_same}
use Rattle.bring.specs.ChainLaws.{places-first}
use Rattle.everywhere.specs.Runs.{Division, Run, here, next, run_on, run-free, Alike, Six, Reaching}
use Rattle.everywhere.specs.Missing.{lacks, place-missing, place-step}
use Rattle.everywhere.specs.Histories.{Rises, waits, risen, rises-run, rises-born, born_at, Origin, stood, born, origin}
use Rattle.everywhere.specs.Histories.{divided-six, run-order, rim-run, rim-origin}
use Rattle.everywhere.specs.First.{Task, neighbour, places, all_places, Denies, tears, few, Goes, six, raised, each, all, Meets}
use Rattle.everywhere.specs.First as first
use Rattle.everywhere.specs.Made.{level_of, divide-run}
use Rattle.everywhere.specs.Filled.{run_in}

-- ---- lists
-- k has all of l
abbrev pub Has : List Division → List Division → Type 0
Has l k = (x : Division) → Memᴰ x l → Memᴰ x k

pub has-append : (k l m : List Division) → Has k m → Has l m → Has (k ++ l) m
has-append [] l m f g = g
has-append (y ∷ k) l m f g = λ x i. go x (Memᴰ.cases_cons i) (has-append k l m (λ z j. f z (Memᴰ.tail j)) g)
  where
    go : (x : Division) → (x ≡ y) ⊎ Memᴰ x (k ++ l) → Has (k ++ l) m → Memᴰ x m
    go x (inl e) ih = f x (Memᴰ.head e)
    go x (inr n) ih = ih x n

has-cons : (y : Division) (l m : List Division) → Memᴰ y m → Has l m → Has (y ∷ l) m
has-cons y l m h f x i = go (Memᴰ.cases_cons i)
  where
    go : (x ≡ y) ⊎ Memᴰ x l → Memᴰ x m
    go (inl e) = subst (λ (z : Division). Memᴰ z m) (sym e) h
    go (inr n) = f x n

-- none stands twice
pub data Once : List Division → Type 0 where
  none : Once []
  one : (x : Division) (l : List Division) → (Memᴰ x l → ⊥) → Once l → Once (x ∷ l)

record Without (x : Division) (k : List Division) : Type 0 where
  rest : List Division
  less : length k ≡ suc (length rest)
  others : (y : Division) → y ≢ x → Memᴰ y k → Memᴰ y rest

without : (x : Division) (k : List Division) → Memᴰ x k → Without x k
without x [] m = absurd (Memᴰ.not-nil m)
without x (z ∷ k) m = go (Memᴰ.cases_cons m) (λ n. without x k n)
  where
    go : (x ≡ z) ⊎ Memᴰ x k → (Memᴰ x k → Without x k) → Without x (z ∷ k)
    go (inl e) ih = record { rest = k; less = refl; others = λ y n i. by y n (Memᴰ.cases_cons i) }
      where
        by : (y : Division) → y ≢ x → (y ≡ z) ⊎ Memᴰ y k → Memᴰ y k
        by y n (inl q) = absurd (n (q ∙ sym e))
        by y n (inr i) = i
    go (inr m) ih =
        let w = ih m in
        record { rest = z ∷ w.rest; less = ap suc w.less; others = λ y n i. by w y n (Memᴰ.cases_cons i) }
      where
        by : (w : Without x k) (y : Division) → y ≢ x → (y ≡ z) ⊎ Memᴰ y k → Memᴰ y (z ∷ w.rest)
        by w y n (inl q) = Memᴰ.head q
        by w y n (inr i) = Memᴰ.tail (w.others y n i)

-- a list that has all of another, in which none stands twice, is at least as long
pub has-length : (l k : List Division) → Once l → Has l k → length l ≤ length k
has-length _ k none h = omega arith
has-length _ k (one x l n o) h =
    let w = without x k (h x (Memᴰ.head refl)) in
    let ih = has-length l w.rest o (λ y i. w.others y (λ q. n (subst (λ (z : Division). Memᴰ z l) q i)) (h y (Memᴰ.tail i))) in
    let e = w.less in
    omega arith

-- ---- a sequence subdivides no vertex twice at one level
pub run-once : (t s : List ℕ) (l : List Division) → Run t l s → Once l
run-once t _ _ here = none
run-once t _ _ (next l s r v e z) =
    one (v.at, v.n.0) l (λ m. (let (x, f, d, lt) = divided-six t s l r v.at v.n.0 m in
    let q : x.n.0 ≡ v.n.0 = ap (λ (y : Record). y.n.0) (held_same (sym f ∙ e)) in omega arith)) (run-once t s l r)

-- ---- the directions that a vertex is missing, after a sequence l, are in every sequence that has all of l and brings that vertex to degree 6
all_made : (k : List Division) (u : List ℕ) (p : Point) (r : Record) → Rises k u p r → Six u p → (e : ℕ) → e < 12 → T (lacks r e)
    → Memᴰ (move_of p e r.n.0, r.n.0) k
all_made k u p r (risen x l d lt f) g e h m = f e h m
all_made k u p r (waits x l nz n6 lv f) (y, i, d) e h m = absurd (n6 (ap (λ (r : Record). r.d) (held_same (sym l ∙ i)) ∙ d))

-- t comes to s by l; from the records of t, in whatever room, k comes to u, has all of l, and the vertex at p has degree 6 then
pub needed : (t s : List ℕ) (l : List Division) → Run t l s → (p : Point) (x : Record) → look_up s p ≡ Some x → x.d ≢ 0 → x.d ≢ 6
    → (t' u : List ℕ) (k : List Division) → Alike t t' → Run t' k u → Has l k → Six u p → (e : ℕ) → e < 12 → T (lacks x e)
    → Memᴰ (move_of p e x.n.0, x.n.0) k
needed t s l r p x i nz n6 t' u k a q h goal e le m = go (origin t s l r p x i nz n6)
  where
    go : Origin t l p x → Memᴰ (move_of p e x.n.0, x.n.0) k
    go (stood y f z n lv g) =
        subst (λ (j : ℕ). Memᴰ (move_of p e j, j) k) lv
        (all_made k u p y (rises-run t' u k q p y (a.same p ∙ f) z n) goal e le (g e le m))
    go (born c i y j b at lv g) =
        let o : (born_at c i j).n.0 ≡ x.n.0 = omega arith in
        subst (λ (j : ℕ). Memᴰ (move_of p e j, j) k) o
        (subst (λ (z : Point). Memᴰ (move_of z e (born_at c i j).n.0, (born_at c i j).n.0) k) (sym at)
        (all_made k u (born_at c i j).at (born_at c i j) (rises-born t' u k q c i (h (c, i) y) j b) (subst (Six u) at goal) e le (g e le m)))

-- ---- the sequences that bring the vertex at p to degree 6, from the records of t
module _ (t : List ℕ) (p : Point) where
  -- they all have l
  abbrev pub Needs : List Division → Type 0
  Needs l = (k : List Division) → Reaching t p k → Has l k

  -- they all have what the task asks for
  abbrev pub Wanted : Task → Type 0
  Wanted (neighbour n q) = (k : List Division) → Reaching t p k → Memᴰ (q, n) k
  Wanted (places v js) = (j : ℕ) → Memᴰ j js → (k : List Division) → Reaching t p k → Memᴰ (adjacent_at v j, v.n.0) k

  -- l has been made, in all of which they agree, and the table is s now
  pub record Going (l : List Division) (s : List ℕ) : Type 0 where
    pub run : Run t l s
    pub order : InOrder s
    pub needs : Needs l

  going_on : (l k : List Division) (s r : List ℕ) → Going l s → Run s k r → Needs k → Going (k ++ l) r
  going_on l k s r g y f =
      record {
        run = run_on t s r l k g.run y;
        order = run-order s r k g.order y;
        needs = λ m x. has-append k l m (f m x) (g.needs m x);
      }

  -- a vertex of degree 3 to 5 that they bring to degree 6: its places
  pub places-wanted : (l : List Division) (s : List ℕ) → Going l s → (v : Record) → look_up s v.at ≡ Some v → v.d ≢ 0 → v.d ≢ 6
      → ((k : List Division) (y : Reaching t p k) → Six y.last v.at) → Wanted (all_places v)
  places-wanted l s g v held nz n6 goal j i k y =
      let (a, b) = run_in (6 - v.d) 0 j (subst (Memᴰ j) (places-first v.d inside.low inside.top) i) in
      let m = needed t s l g.run v.at v held nz n6 y.first y.last k y.alike y.run (g.needs k y) (goal k y) ((v.k + 4 * j) % 12)
      (omega arith) (place-missing v.d v.k j (omega arith)) in
      subst (λ (q : Point). Memᴰ (q, v.n.0) k) (sym (place-step v j good nz (omega arith))) m
    where
      good : T (valid_of v)
      good = of-true (lookup-valid s g.order v.at v held)

      inside : Inner v
      inside = inner v good nz

  -- a neighbour that they subdivide at level n has degree 6 in the end
  wanted-six : (q : Point) (n : ℕ) → Wanted (neighbour n q) → (k : List Division) (y : Reaching t p k) → Six y.last q
  wanted-six q n w k y = let (x, e, d, lt) = divided-six y.first y.last k y.run q n (w k y) in (x, e, d)

  -- so what brings it is wanted
  lower-wanted : (l : List Division) (s : List ℕ) → Going l s → (n : ℕ) (q : Point) → Wanted (neighbour n q) → (u : Record) → look_up s q ≡ Some u
      → u.d ≢ 0 → u.d ≢ 6 → Wanted (all_places u)
  lower-wanted l s g n q w u e z d =
      let at : u.at ≡ q = lookup-point s g.order q u e in
      places-wanted l s g u (ap (look_up s) at ∙ e) z d (λ k y. subst (Six y.last) (sym at) (wanted-six q n w k y))

  -- the subdivision of u, which stands at q
  wanted-one : (s : List ℕ) → InOrder s → (n : ℕ) (q : Point) → Wanted (neighbour n q) → (u : Record) → look_up s q ≡ Some u → u.n.0 ≡ n
      → Needs ((u.at, u.n.0) ∷ [])
  wanted-one s o n q w u e l k y =
      let at : u.at ≡ q = lookup-point s o q u e in
      has-cons (u.at, u.n.0) [] k (subst (λ (d : Division). Memᴰ d k) (λ i. (sym at i, sym l i)) (w k y)) (λ x i. absurd (Memᴰ.not-nil i))

  -- ---- what is done, they all have
  pub goes-needs : (T : Task) (s r : List ℕ) → Goes T s r → level_of T < 12 → (l : List Division) → Going l s → Wanted T
      → (k : List Division) × Run s k r × Needs k
  goes-needs _ _ _ (six n q s u e d v a) h l g w =
      ((u.at, u.n.0) ∷ [], divide-run s g.order q u e d (omega arith) a, wanted-one s g.order n q w u e v)
  goes-needs _ _ _ (raised n q s r u x e z d v b f i j a) h l g w =
      by (goes-needs (all_places u) s r b (omega arith) l g (lower-wanted l s g n q w u e z d))
    where
      by : (k : List Division) × Run s k r × Needs k → (k : List Division) × Run s k (subdivided r x) × Needs k
      by (k, y, c) =
          let o = run-order s r k g.order y in (
            (x.at, x.n.0) ∷ k,
            run_on s r (subdivided r x) k ((x.at, x.n.0) ∷ []) y (divide-run r o q x f i (omega arith) a),
            λ m z. has-append ((x.at, x.n.0) ∷ []) k m (wanted-one r o n q w x f j m z) (c m z),
          )
  goes-needs _ _ _ (each v j js s r u a b) h l g w =
      by (goes-needs (neighbour v.n.0 (adjacent_at v j)) s r a h l g (w j (Memᴰ.head refl)))
      (λ k y c. goes-needs (places v js) r u b h (k ++ l) (going_on l k s r g y c) (λ i m. w i (Memᴰ.tail m)))
    where
      by : (k : List Division) × Run s k r × Needs k → ((k : List Division) → Run s k r → Needs k → (i : List Division) × Run r i u × Needs i)
          → (k : List Division) × Run s k u × Needs k
      by (k, y, c) rest = on (rest k y c)
        where
          on : (i : List Division) × Run r i u × Needs i → (k : List Division) × Run s k u × Needs k
          on (i, z, d) = (i ++ k, run_on s r u k i y z, λ m x. has-append i k m (d m x) (c m x))
  goes-needs _ _ _ (all v s e) h l g w = ([], here, λ m x y i. absurd (Memᴰ.not-nil i))

  -- ---- what is met
  abbrev pub Refuses : ℕ → Type 0
  Refuses x =
      (x ≡ 16 → (k : List Division) → Reaching t p k → ⊥) × (x ≡ 8 → (k : List Division) → Reaching t p k → free_slots t < 6 * length k)

  refuses-7 : (x : ℕ) → x ≡ 7 → Refuses x
  refuses-7 x e = (λ z. absurd (omega arith), λ z. absurd (omega arith))

  -- on the rim it never has degree 6
  rim-none : (l : List Division) (s : List ℕ) → Going l s → (n : ℕ) (q : Point) → Wanted (neighbour n q) → (u : Record) → look_up s q ≡ Some u → u.d ≡ 0
      → (k : List Division) → Reaching t p k → ⊥
  rim-none l s g n q w u e d k y =
      let (x, f, d6) = wanted-six q n w k y in
      let r = rim-run y.first y.last k y.run q u (y.alike.same q ∙ rim-origin t s l g.run q u e d) d in
      let h = ap (λ (r : Record). r.d) (held_same (sym r ∙ f)) in
      omega arith

  -- u still stands at that level, so it is not among those made: one more than fits
  short : (l : List Division) (s : List ℕ) → Going l s → (u : Record) → look_up s u.at ≡ Some u → Needs ((u.at, u.n.0) ∷ []) → free_slots s < 6
      → (k : List Division) → Reaching t p k → free_slots t < 6 * length k
  short l s g u e w less k y =
      let one = has-length ((u.at, u.n.0) ∷ l) k (Once.one (u.at, u.n.0) l new (run-once t s l g.run))
      (has-append ((u.at, u.n.0) ∷ []) l k (w k y) (g.needs k y)) in
      let f = run-free t s l g.run in
      let m : length {A = Division} ((u.at, u.n.0) ∷ l) ≡ suc (length l) = refl in
      omega arith
    where
      new : Memᴰ (u.at, u.n.0) l → ⊥
      new i =
          let (x, h, d, lt) = divided-six t s l g.run u.at u.n.0 i in
          let q : x.n.0 ≡ u.n.0 = ap (λ (z : Record). z.n.0) (held_same (sym h ∙ e)) in
          omega arith

  denies-refuses : (x : ℕ) (l : List Division) (s : List ℕ) → Going l s → (n : ℕ) (q : Point) → Wanted (neighbour n q) → (u : Record) → look_up s q ≡ Some u
      → u.n.0 ≡ n → Denies s u x → Refuses x
  denies-refuses x l s g n q w u e v (tears a z) = refuses-7 x z
  denies-refuses x l s g n q w u e v (few a f z) =
      let own : look_up s u.at ≡ Some u = ap (look_up s) (lookup-point s g.order q u e) ∙ e in
      (λ y. absurd (omega arith), λ y. short l s g u own (wanted-one s g.order n q w u e v) f)

  pub meets-refuses : (x : ℕ) (T : Task) (s : List ℕ) → Meets x T s → level_of T < 12 → (l : List Division) → Going l s → Wanted T → Refuses x
  meets-refuses x _ _ (first.absent n q s e z) h l g w = refuses-7 x z
  meets-refuses x _ _ (first.other n q s u e d v z) h l g w = refuses-7 x z
  meets-refuses x _ _ (first.far n q s u e a d v z) h l g w = refuses-7 x z
  meets-refuses x _ _ (first.boundary n q s u e d z) h l g w = (λ y. rim-none l s g n q w u e d, λ y. absurd (omega arith))
  meets-refuses x _ _ (first.denied n q s u e d v z) h l g w = denies-refuses x l s g n q w u e v z
  meets-refuses x _ _ (first.raised n q s r u y e a d v b f i j z) h l g w =
      by (goes-needs (all_places u) s r b (omega arith) l g (lower-wanted l s g n q w u e a d))
    where
      by : (k : List Division) × Run s k r × Needs k → Refuses x
      by (k, c, m) = denies-refuses x (k ++ l) r (going_on l k s r g c m) n q w y f j z
  meets-refuses x _ _ (first.lower n q s u e a d v m) h l g w =
      meets-refuses x (all_places u) s m (omega arith) l g (lower-wanted l s g n q w u e a d)
  meets-refuses x _ _ (first.now v j js s m) h l g w = meets-refuses x (neighbour v.n.0 (adjacent_at v j)) s m h l g (w j (Memᴰ.head refl))
  meets-refuses x _ _ (first.later v j js s r b m) h l g w =
      by (goes-needs (neighbour v.n.0 (adjacent_at v j)) s r b h l g (w j (Memᴰ.head refl)))
      (λ k c y. meets-refuses x (places v js) r m h (k ++ l) (going_on l k s r g c y) (λ i z. w i (Memᴰ.tail z)))
    where
      by : (k : List Division) × Run s k r × Needs k → ((k : List Division) → Run s k r → Needs k → Refuses x) → Refuses x
      by (k, c, y) rest = rest k c y
  meets-refuses x _ _ (first.below v s e z) h l g w = refuses-7 x z
