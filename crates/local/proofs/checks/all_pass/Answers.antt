-- `local::all_pass` meets its promise: slot by slot. Assumes nothing.
use Rattle.std.proofs.Common.{◌≡◌, ◌+◌, ◌<◌, refl, Some, None, Bool, true, ◌&&◌, ◌||◌, ℕ, List, Option, unwrap_or, is_some, sym, ◌∙◌, ap, arith}
use Rattle.std.proofs.Math.Bool.{or-true, or-false}
use Rattle.table.specs.Entries.{records_below}
use Rattle.table.specs.Slots.{slots_of}
use Rattle.local.specs.Slots.{judged_at, has_any, pass_below, some-none, pass-none, some_more, pass-more, passes-failed, passes-all}
use Rattle.local.proofs.checks.all_pass.Goals as goal
use Rattle.local.proofs.checks.all_pass.Goals.{in-Some+else-not-good, in_default}

-- a slot more, by what it was judged
module _ (t : List ℕ) (i : ℕ) (any : Bool) (pass : pass_below t i ≡ true) (any_is : any ≡ has_any (records_below t i)) where
  passed : (j : Option Bool) → j ≡ judged_at t i → unwrap_or j true ≡ true → pass_below t (i + 1) ≡ true
  passed j e h = sym (pass-more t i) ∙ (λ k. pass k && (ap (λ (o : Option Bool). unwrap_or o true) (sym e) ∙ h) k)

  some : (j : Option Bool) → j ≡ judged_at t i → any || is_some j ≡ has_any (records_below t (i + 1))
  some j e = (λ k. any_is k || is_some (e k)) ∙ some_more t i

pub loop-i-init : goal.loop-i-init
loop-i-init c = record { pass = pass-none c.args.t.now; any_is = sym (some-none c.args.t.now) }

pub returns-then-not-good : goal.returns-then-not-good
returns-then-not-good c =
    let h : c.loop-i.i < slots_of c.args.t.now = omega arith in
    passes-failed c.args.t.now c.loop-i.i h (ap (λ (o : Option Bool). unwrap_or o true) (sym c.judge.ensures ∙ c.in-Some.is) ∙ c.if-not-good.true)

pub loop-i-preserved : goal.loop-i-preserved
loop-i-preserved c =
    let v = c.loop-i.invariant in
    elim c.match-judge.branch [
      | in-Some+else-not-good w ↦ record {
        pass = passed c.args.t.now c.loop-i.i c.loop-i.any v.pass v.any_is (Some w.in-Some.good) w.in-Some.ensures w.if-not-good.false;
        any_is = w.any-is ∙ sym (or-true c.loop-i.any) ∙ some c.args.t.now c.loop-i.i c.loop-i.any v.pass v.any_is (Some w.in-Some.good) w.in-Some.ensures;
      }
      | in_default w ↦ record {
        pass = passed c.args.t.now c.loop-i.i c.loop-i.any v.pass v.any_is None w.in_default.ensures refl;
        any_is = w.any-is ∙ sym (or-false c.loop-i.any) ∙ some c.args.t.now c.loop-i.i c.loop-i.any v.pass v.any_is None w.in_default.ensures;
      }
    ]

pub returns : goal.returns
returns c =
    let e : c.loop-i.i ≡ slots_of c.args.t.now = omega arith in
    c.loop-i.invariant.any_is ∙ passes-all c.args.t.now c.loop-i.i e c.loop-i.invariant.pass
