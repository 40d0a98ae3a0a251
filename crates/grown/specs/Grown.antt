-- "grown" of a table, decided: for the readers, whose number 11 turns on it. `Grown` is the mesh's, document 01's sentence; `grown?` decides it, by
-- the local check.
-- `is_grown` the decision as a truth value: `is-grown`, `grown-is` say so · `grown-passes` in a table in order it is the local check · `grown-same` it
-- turns on the records alone.
-- Assumes nothing.
use Rattle.std.specs.Prelude.{◌≡◌, refl, Bool, true, false, List, ℕ, T}
use Rattle.std.proofs.Common.{◌∙◌}
use Rattle.laws.specs.Choices.{of-true, is_true}
use Rattle.laws.specs.Each.{not-both, same_test}
use Rattle.lattice.specs.declared.points.Point.{Point}
use Rattle.table.specs.Entries.{look_up}
use Rattle.table.specs.Order.{InOrder, in_order_of}
use Rattle.table.specs.MapLaws.{order-test, test-order}
use Rattle.mesh.specs.Grown.{Grown}
use Rattle.local.specs.Sheet.{passes_all}
use Rattle.grown.specs.Tables.{test-sheet, grown-checked}
use Rattle.grown.specs.Reach.{sheet-reached}

-- the local check holds exactly where a table in order is grown
pub passes-grown : (t : List ℕ) → InOrder t → T (passes_all t) → Grown t
passes-grown t o h = sheet-reached t o (test-sheet t o h)

-- so every table is grown or not, and one pass tells
pub grown? : (t : List ℕ) → Dec (Grown t)
grown? t = ordered (in_order_of t) refl (passes_all t) refl
  where
    ordered : (b : Bool) → in_order_of t ≡ b → (p : Bool) → passes_all t ≡ p → Dec (Grown t)
    ordered false e p q = no (λ g. not-both (order-test t g.order) e)
    ordered true e true q = yes (passes-grown t (test-order t e) (of-true q))
    ordered true e false q = no (λ g. not-both (is_true (passes_all t) (grown-checked t g)) q)

abbrev pub told : {A : Type 0} → Dec A → Bool
told (yes h) = true
told (no h) = false

unfoldable pub is_grown : List ℕ → Bool
is_grown t = told (grown? t)

pub is-grown : (t : List ℕ) → is_grown t ≡ true → Grown t
unfolding is_grown
is-grown t = go (grown? t)
  where
    go : (d : Dec (Grown t)) → told d ≡ true → Grown t
    go (yes g) e = g
    go (no n) e = absurd (not-both e refl)

pub grown-is : (t : List ℕ) → Grown t → is_grown t ≡ true
unfolding is_grown
grown-is t g = go (grown? t)
  where
    go : (d : Dec (Grown t)) → told d ≡ true
    go (yes h) = refl
    go (no n) = absurd (n g)

pub grown-passes : (t : List ℕ) → InOrder t → is_grown t ≡ passes_all t
grown-passes t o =
    same_test (is_grown t) (passes_all t) (λ h. is_true (passes_all t) (grown-checked t (is-grown t h))) (λ h. grown-is t (passes-grown t o (of-true h)))

-- whatever the tables' room, and wherever their records stand
pub grown-same : (t u : List ℕ) → InOrder u → ((p : Point) → look_up u p ≡ look_up t p) → Grown t → Grown u
grown-same t u o e g = record { order = o; table = g.table; reached = g.reached; same = λ p. e p ∙ g.same p }
