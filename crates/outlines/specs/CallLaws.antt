-- The passes and the request by cases, as the code tests them.
-- `PassLeaves`, `pass-leaves` a pass · `PassesLeave` so many · `Passing`, `passing-..` the loop over them · `request-1`, `request-17`, `request-on` ·
-- `call_none`, `call-other`, `call-on` the call.
-- Assumes nothing.
use Rattle.std.specs.Prelude.{◌≡◌, Bool, true, false, List, length, replicate, Result, Ok, Err}
use Rattle.std.proofs.Math.Path.{refl, ap}
use Rattle.std.proofs.Common.{sym, ◌∙◌, subst, eq-eqb, ne_eqb}
use Rattle.std.proofs.Math.Bool.{cond}
use Prim.Native.Nat.{ℕ, zero, suc, ◌+◌, ◌-◌, ◌≤◌, ◌<◌}
use native.Mathlib.Omega.{arith}
use Rattle.lattice.specs.RefusalLaws.{number-some}
use Rattle.lattice.specs.Refusals.{number_of}
use Rattle.lattice.specs.declared.refusals.Refusal.{Refusal}
use Rattle.table.specs.Order.{in_order_of}
use Rattle.table.specs.Slots.{Table, lengths_fit, slots_of, cleared_of}
use Rattle.table.specs.SlotLaws.{table-lengths, lengths_none, lengths-other}
use Rattle.mesh.specs.Subdivide.{MeshAfter, Many, all_or}
use Rattle.mesh.specs.StepLaws.{Given, Leaves, given-after}
use Rattle.outlines.specs.declared.values.Outline.{Outline}
use Rattle.outlines.specs.Outlines.{list_of, each_of, pass_of, many, passes_from, request_fits, request_of, refine_after, cleared, refine_of}
use Rattle.outlines.specs.PassLaws.{made_from, made_each}
use Rattle.outlines.specs.ListLaws.{ListedIn}

-- ---- a pass
-- what a pass that comes to o leaves of t and s
pub record PassLeaves (t : List ℕ) (o : MeshAfter) (s : List ℕ) (r : Result ℕ Refusal) (t' s' : List ℕ) : Type 0 where
  pub after : Leaves t o r t'
  pub scratch : length s' ≡ length s

pub pass-leaves : (o : Outline) (level : ℕ) (t s s' : List ℕ) (k : ℕ) → ListedIn s (list_of o level t) s' k → (r : Result ℕ Refusal) (t' : List ℕ)
    → Leaves t (all_or t (made_from t s' 0 k)) r t' → PassLeaves t (pass_of o level t) s r t' s'
unfolding pass_of
pass-leaves o level t s s' k l r t' a =
    let e : made_from t s' 0 k ≡ each_of t (list_of o level t) = ap (made_from t s' 0) l.count ∙ made_each t s' 0 (list_of o level t) l.points in
    record {
      after = subst (λ (m : MeshAfter). Leaves t (all_or t m) r t') e a;
      scratch = l.long;
    }

-- ---- the passes
pub record PassesLeave (m : Many) (s : List ℕ) (x i : ℕ) (t' s' : List ℕ) : Type 0 where
  pub number : x ≡ m.number
  pub done : i ≡ m.done
  pub bytes : t' ≡ m.bytes
  pub scratch : length s' ≡ length s

leave-is : {m : Many} (s s' : List ℕ) (x i : ℕ) (t' : List ℕ) → many x i t' ≡ m → length s' ≡ length s → PassesLeave m s x i t' s'
leave-is s s' x i t' e l =
    record { number = ap (λ (m : Many). m.number) e; done = ap (λ (m : Many). m.done) e; bytes = ap (λ (m : Many). m.bytes) e; scratch = l }

pub leave_same : {m q : Many} {s : List ℕ} {x i : ℕ} {t' s' : List ℕ} → m ≡ q → PassesLeave m s x i t' s' → PassesLeave q s x i t' s'
leave_same {m} {q} {s} {x} {i} {t'} {s'} e l = subst (λ (p : Many). PassesLeave p s x i t' s') e l

module _ (o : Outline) (level : ℕ) (t : List ℕ) (i : ℕ) where
  passes-end : many 0 i t ≡ passes_from o level t i 0
  unfolding passes_from
  passes-end = refl

  passes-more : (k : ℕ) → 0 < k → (pass_of o level t).number ≡ 0 → passes_from o level (pass_of o level t).bytes (i + 1) (k - 1) ≡ passes_from o level t i k
  unfolding passes_from
  passes-more zero h e = absurd (omega arith)
  passes-more (suc k) h e =
      let p : suc k - 1 ≡ k = omega arith in
      let a = pass_of o level t in
      ap (passes_from o level a.bytes (i + 1)) p
      ∙ ap (λ (b : Bool). cond b (passes_from o level a.bytes (i + 1) k) (many a.number i a.bytes)) (sym (eq-eqb a.number 0 e))

  passes-stop : (k : ℕ) → 0 < k → ((pass_of o level t).number ≡ 0 → ⊥) → many (pass_of o level t).number i (pass_of o level t).bytes ≡ passes_from o level t i k
  unfolding passes_from
  passes-stop zero h e = absurd (omega arith)
  passes-stop (suc k) h e =
      let a = pass_of o level t in
      ap (λ (b : Bool). cond b (passes_from o level a.bytes (i + 1) k) (many a.number i a.bytes)) (sym (ne_eqb a.number 0 e))

-- t and s are the tables before pass i, f of t's n slots are free
pub record Passing (o : Outline) (level : ℕ) (t₀ s₀ : List ℕ) (n count : ℕ) (t s : List ℕ) (f i : ℕ) : Type 0 where
  pub within : i ≤ count
  pub given : Given t n f
  pub long : length t ≡ length t₀
  pub scratch : length s ≡ length s₀
  pub left : passes_from o level t i (count - i) ≡ passes_from o level t₀ 0 count

pub passing-start : (o : Outline) (level : ℕ) (t s : List ℕ) (n count f : ℕ) → Given t n f → Passing o level t s n count t s f 0
passing-start o level t s n count f g =
    let z : count - 0 ≡ count = omega arith in
    record { within = omega arith; given = g; long = refl; scratch = refl; left = ap (passes_from o level t 0) z }

module _ (o : Outline) (level : ℕ) (t₀ s₀ : List ℕ) (n count : ℕ) (t s : List ℕ) (f i : ℕ) (g : Passing o level t₀ s₀ n count t s f i) where
  pub passing-end : count ≤ i → PassesLeave (passes_from o level t₀ 0 count) s₀ 0 i t s
  passing-end h =
      let z : 0 ≡ count - i = omega (arith, g.within) in
      leave-is s₀ s 0 i t (passes-end o level t i ∙ ap (passes_from o level t i) z ∙ g.left) g.scratch

  module _ (h : i < count) (t' s' : List ℕ) where
    pub passing-stop : (why : Refusal) → PassLeaves t (pass_of o level t) s (Err why) t' s'
        → PassesLeave (passes_from o level t₀ 0 count) s₀ (number_of why) i t' s'
    passing-stop why l =
        let a = l.after in
        leave-is s₀ s' (number_of why) i t'
        ((λ j. many (a.number j) i (a.bytes j)) ∙ passes-stop o level t i (count - i) (omega arith) (λ z. number-some why (a.number ∙ z)) ∙ g.left)
        (l.scratch ∙ g.scratch)

    pub passing-more : (f' : ℕ) → PassLeaves t (pass_of o level t) s (Ok f') t' s' → Passing o level t₀ s₀ n count t' s' f' (i + 1)
    passing-more f' l =
        let a = l.after in
        let step : count - (i + 1) ≡ count - i - 1 = omega arith in
        record {
          within = omega arith;
          given = given-after g.given a;
          long = a.long ∙ g.long;
          scratch = l.scratch ∙ g.scratch;
          left = (λ j. passes_from o level (a.bytes j) (i + 1) (step j)) ∙ passes-more o level t i (count - i) (omega arith) (sym a.number) ∙ g.left;
        }

-- ---- the request
module _ (t : List ℕ) (o : Outline) (passes level : ℕ) (s : List ℕ) where
  abbrev past : Many
  past = cond (request_fits o passes level) (passes_from o level t 0 passes) (many 17 0 t)

  by_order : (b : Bool) → in_order_of t ≡ b → cond b past (many 1 0 t) ≡ request_of t o passes level
  unfolding request_of
  by_order b h = ap (λ (x : Bool). cond x past (many 1 0 t)) (sym h)

  by-fit : in_order_of t ≡ true → (b : Bool) → request_fits o passes level ≡ b
      → cond b (passes_from o level t 0 passes) (many 17 0 t) ≡ request_of t o passes level
  by-fit h b e = ap (λ (x : Bool). cond x (passes_from o level t 0 passes) (many 17 0 t)) (sym e) ∙ by_order true h

  pub request-1 : in_order_of t ≡ false → PassesLeave (request_of t o passes level) s 1 0 t s
  request-1 h = leave-is s s 1 0 t (by_order false h) refl

  pub request-17 : in_order_of t ≡ true → request_fits o passes level ≡ false → PassesLeave (request_of t o passes level) s 17 0 t s
  request-17 h e = leave-is s s 17 0 t (by-fit h false e) refl

  pub request-on : in_order_of t ≡ true → request_fits o passes level ≡ true → passes_from o level t 0 passes ≡ request_of t o passes level
  request-on h e = by-fit h true e

-- ---- the call
module _ (t s : List ℕ) (o : Outline) (passes level : ℕ) where
  by_lengths : (x : Bool) → lengths_fit t s ≡ x → cond x (cleared (request_of t o passes level) s) (refine_after 1 0 t s) ≡ refine_of t s o passes level
  unfolding refine_of
  by_lengths x h = ap (λ (x : Bool). cond x (cleared (request_of t o passes level) s) (refine_after 1 0 t s)) (sym h)

  pub call_none : slots_of t ≡ 0 → refine_after 1 0 t s ≡ refine_of t s o passes level
  call_none e = by_lengths false (lengths_none t s e)

  pub call-other : (length s ≡ length t → ⊥) → refine_after 1 0 t s ≡ refine_of t s o passes level
  call-other e = by_lengths false (lengths-other t s e)

  -- lengths that fit
  pub call-on : (n : ℕ) → Table t n → length s ≡ length t → (x i : ℕ) (t' s' s'' : List ℕ) → PassesLeave (request_of t o passes level) s x i t' s'
      → s'' ≡ cleared_of s' → refine_after x i t' s'' ≡ refine_of t s o passes level
  call-on n w l x i t' s' s'' c e =
      (λ j. refine_after (c.number j) (c.done j) (c.bytes j) (scratch j)) ∙ by_lengths true (table-lengths t s n w l)
    where
      scratch : s'' ≡ cleared_of s
      scratch = e ∙ ap (λ (k : ℕ). replicate k 255) c.scratch
