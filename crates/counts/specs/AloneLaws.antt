-- What is counted turns on the records alone, not on the slots in which they stand: `counts_alone`.
--
-- Two tables in order that hold the same at every point have the same records, each with the same faces (`faces-same`), and so the same faces and sides
-- in another order: as many different ones (SetLaws of `firsts`). The records of a degree are the different ones among these, no point standing twice
-- (`degree-different`).
-- Assumes nothing.
use Rattle.std.specs.Prelude.{◌≡◌, Bool, true, false, List, [], ◌∷◌, ℕ, ◌<◌, eqb, Option, Some, None}
use Rattle.std.proofs.Math.Path.{refl, ap}
use Rattle.std.proofs.Common.{sym, ◌∙◌, arith, ne_eqb, lit<}
use Rattle.std.proofs.Math.Bool.{cond}
use Rattle.laws.specs.Each.{not-both, same_test}
use Rattle.laws.specs.Some.{some_of, some_at, at_some}
use Rattle.lattice.specs.Stars.{first_at, second_at}
use Rattle.lattice.specs.declared.points.Point.{Point}
use Rattle.lattice.specs.declared.records.Record.{Record}
use Rattle.table.specs.Slots.{slots_of, slot_at}
use Rattle.table.specs.Search.{same_point}
use Rattle.table.specs.Order.{InOrder}
use Rattle.table.specs.Entries.{look_up, is_held, records_below, records_of}
use Rattle.table.specs.MapLaws.{same_refl, same_true, records-looked, looked-records, records-same}
use Rattle.queries.specs.Queries.{there, chosen_at}
use Rattle.firsts.specs.Faces.{bit, different_after, different, gather, each, face_with, faces_at, same_face, sides_of, same_side, faces_in}
use Rattle.firsts.specs.Earlier.{slot_sum}
use Rattle.firsts.specs.DifferentLaws.{sum-each, some_one, some-none, some_same, some-over, some-each, different-nothing, different-one, different-slots}
use Rattle.firsts.specs.SetLaws.{Alike, different-set}
use Rattle.firsts.specs.EarlierLaws.{other-point, slots-pass}
use Rattle.firsts.specs.SameLaws.{sides-alike, faces-alike}
use Rattle.counts.specs.Counts.{numbers, edges_in, degree_in, counts_of}
use Rattle.counts.specs.Counted.{no_degree, degree_at, slot_degree}
use Rattle.counts.specs.DegreeLaws.{degree-counted}

-- ---- the records of a degree are the different ones

abbrev same_at : Record → Record → Bool
same_at v u = same_point v.at u.at

at-alike : Alike same_at
at-alike =
    record {
      self = λ v. same_refl v.at;
      turn = λ v u. same_test (same_at v u) (same_at u v) (turn v u) (turn u v);
      both = λ v u e w. ap (λ (p : Point). same_point p w.at) (same_true v.at u.at e);
    }
  where
    turn : (v u : Record) → same_at v u ≡ true → same_at u v ≡ true
    turn v u e = ap (same_point u.at) (same_true v.at u.at e) ∙ same_refl u.at

-- a record, if it has degree d
abbrev having : ℕ → Record → List Record
having d v = cond (eqb v.d d) (v ∷ []) []

degree-different : (t : List ℕ) → InOrder t → (d : ℕ) → d < no_degree → different same_at (each (having d) (records_of t)) ≡ degree_in d t
unfolding slot_degree
degree-different t o d h =
    different-slots same_at [] (having d) (λ k v. bit (eqb v.d d)) t (slots_of t) first
    ∙ sum-each (λ k. slot_sum (λ v. bit (eqb v.d d)) (slot_at t k)) (slot_degree t d) (slots_of t) (λ k l. one (slot_at t k))
    ∙ degree-counted t d h
  where
    one : (s : Option Record) → slot_sum (λ v. bit (eqb v.d d)) s ≡ bit (eqb (degree_at s) d)
    one None = sym (ap bit (ne_eqb no_degree d (λ e. omega arith)))
    one (Some v) = refl

    -- no earlier record has its point
    new : (k : ℕ) (v : Record) → k < slots_of t → slot_at t k ≡ Some v → some_of (same_at v) (each (having d) (records_below t k)) ≡ false
    new k v l e = go (some_of (same_at v) (each (having d) (records_below t k))) refl
      where
        given : (u : Record) (b : Bool) → some_of (same_at v) (cond b (u ∷ []) []) ≡ true → same_at v u ≡ true
        given u true g = sym (some_one (same_at v) u) ∙ g
        given u false g = absurd (not-both g (some-none (same_at v)))

        go : (b : Bool) → some_of (same_at v) (each (having d) (records_below t k)) ≡ b → some_of (same_at v) (each (having d) (records_below t k)) ≡ false
        go false g = g
        go true g =
            let x = slots-pass t k (λ u. some_of (same_at v) (having d u)) (sym (some-each (same_at v) (having d) t k) ∙ g) in
            absurd (other-point t o k v l e x (sym (same_true v.at x.rec.at (given x.rec (eqb x.rec.d d) x.passes))))

    first : (k : ℕ) (v : Record) → k < slots_of t → slot_at t k ≡ Some v
        → different_after same_at (each (having d) (records_below t k)) (having d v) ≡ bit (eqb v.d d)
    first k v l e = go (eqb v.d d)
      where
        go : (b : Bool) → different_after same_at (each (having d) (records_below t k)) (cond b (v ∷ []) []) ≡ bit b
        go true = different-one same_at (each (having d) (records_below t k)) v false (new k v l e)
        go false = different-nothing same_at (each (having d) (records_below t k))

-- ---- two tables with the same records

module _ (t u : List ℕ) (o : InOrder t) (w : InOrder u) (same : (p : Point) → look_up t p ≡ look_up u p) where
  chosen-same : (v : Record) (j : ℕ) → chosen_at t v j ≡ chosen_at u v j
  unfolding chosen_at
  chosen-same v j = λ i. cond (is_held (same (first_at v j) i)) (Some (first_at v j)) (second (second_at v j) i)
    where
      second : (s : Option Point) → there t s ≡ there u s
      second None = refl
      second (Some p) = ap (λ b. cond b (Some p) None) (ap is_held (same p))

  faces-same : (v : Record) → faces_at t v ≡ faces_at u v
  faces-same v = λ i. gather v.d (λ j. face_with v j (chosen-same v j i))

  -- a test passes at some record of both, or of neither
  some-records : (f : Record → Bool) → some_of f (records_of t) ≡ some_of f (records_of u)
  some-records f = same_test (some_of f (records_of t)) (some_of f (records_of u)) (go t u o w same) (go u t w o (λ p. sym (same p)))
    where
      go : (x y : List ℕ) → InOrder x → InOrder y → ((p : Point) → look_up x p ≡ look_up y p) → some_of f (records_of x) ≡ true → some_of f (records_of y) ≡ true
      go x y a b e h =
          let (r, m, p) = some_at f (records_of x) h in
          at_some f (records_of y) r (looked-records y b r.at r (sym (e r.at) ∙ records-looked x a r m)) p

  -- and at some of what they give
  some-given : {A : Type 0} (f : A → Bool) (g h : Record → List A) → ((v : Record) → g v ≡ h v)
      → some_of f (each g (records_of t)) ≡ some_of f (each h (records_of u))
  some-given f g h e =
      some-over f g (records_of t) ∙ some_same (λ v. some_of f (g v)) (λ v. some_of f (h v)) (records_of t) (λ v. ap (some_of f) (e v))
      ∙ some-records (λ v. some_of f (h v)) ∙ sym (some-over f h (records_of u))

  faces-alone : faces_in t ≡ faces_in u
  faces-alone =
      different-set same_face faces-alike (each (faces_at t) (records_of t)) (each (faces_at u) (records_of u))
      (λ f. some-given (same_face f) (faces_at t) (faces_at u) faces-same)

  edges-alone : edges_in t ≡ edges_in u
  edges-alone =
      different-set same_side sides-alike (each sides_of (each (faces_at t) (records_of t))) (each sides_of (each (faces_at u) (records_of u)))
      (λ s. some-over (same_side s) sides_of (each (faces_at t) (records_of t))
      ∙ some-given (λ f. some_of (same_side s) (sides_of f)) (faces_at t) (faces_at u) faces-same
      ∙ sym (some-over (same_side s) sides_of (each (faces_at u) (records_of u))))

  degree-alone : (d : ℕ) → d < no_degree → degree_in d t ≡ degree_in d u
  degree-alone d h =
      sym (degree-different t o d h)
      ∙ different-set same_at at-alike (each (having d) (records_of t)) (each (having d) (records_of u))
      (λ v. some-given (same_at v) (having d) (having d) (λ r. refl))
      ∙ degree-different u w d h

  pub counts_alone : counts_of t ≡ counts_of u
  unfolding counts_of
  counts_alone =
      λ i.
      numbers (records-same t u o w same i) (edges-alone i) (faces-alone i) (degree-alone 0 (lit< tt) i) (degree-alone 3 (lit< tt) i)
      (degree-alone 4 (lit< tt) i) (degree-alone 5 (lit< tt) i) (degree-alone 6 (lit< tt) i)
