-- `findings::write_keys` meets its promise. Assumes nothing.
use Rattle.std.proofs.Common.{◌≡◌, sym, ◌∙◌, ap, subst, List, ℕ, ◌+◌, ◌-◌, ◌<◌, length, drop, arith}
use mathlib.Core.List.{Memᴰ}
use Rattle.findings.specs.Findings.{entry_at, stands_text}
use Rattle.findings.specs.EntryLaws.{InList, good-is}
use Rattle.findings.specs.Ranks.{key_of, place_of}
use Rattle.findings.specs.RankLaws.{key-place}
use Rattle.findings.specs.BackLaws.{Left, Last, left-start, left-room, left-last, left_step, left_end}
use Rattle.findings.specs.declared.line.Finding.{Finding}
use Rattle.findings.specs.declared.line.Entry.TheVariants.{Good}
use Rattle.findings.proofs.lines.write_keys.Goals as goal

pub loop-i-init : goal.loop-i-init
loop-i-init c fs r = left-start c.args.list.now fs c.args.out.now c.args.k c.args.total r

pub key-v-requires : goal.key-v-requires
key-v-requires c =
    let fs = c.requires.0 in
    let r = c.requires.1 in
    let w = c.loop-i.invariant fs r in
    omega (arith, left-room c.args.list.now fs r.in_list (drop c.args.total c.args.out.now) c.loop-i.out c.loop-i.i c.loop-i.at w, w.room)

-- the finding of the last key that is left
last-key : (l : List ℕ) (fs : List Finding) (h : (f : Finding) → Memᴰ f fs → InList l f) (rest o : List ℕ) (i at : ℕ) → 0 < i → Left l fs rest o i at
    → Last l fs h rest o (i - 1) at
last-key l fs h rest o i at p w =
    let e : i ≡ i - 1 + 1 = omega arith in
    left-last l fs h rest o (i - 1) at (subst (λ (x : ℕ). Left l fs rest o x at) e w)

-- its line stands at the key's place
stands : (l : List ℕ) (f : Finding) (v k : ℕ) → InList l f → v ≡ k → k ≡ key_of l f → entry_at l (place_of l v) ≡ Good f
stands l f v k h e g = ap (λ (x : ℕ). entry_at l (place_of l x)) (e ∙ g) ∙ key-place l f h

pub write_key-at-requires-clause-f_len_bound : goal.write_key-at-requires-clause-f_len_bound
write_key-at-requires-clause-f_len_bound c f h =
    let l = c.args.list.now in
    let fs = c.requires.0 in
    let r = c.requires.1 in
    let w = last-key l fs r.in_list (drop c.args.total c.args.out.now) c.loop-i.out c.loop-i.i c.loop-i.at (omega arith) (c.loop-i.invariant fs r) in
    let e : length (stands_text l f) ≡ length (stands_text l w.last) =
    ap (λ (x : Finding). length (stands_text l x)) (good-is (sym h ∙ stands l w.last c.key-v.result _ w.in_list c.key-v.ensures w.key)) in
    omega (arith, w.place)

pub loop-i-preserved : goal.loop-i-preserved
loop-i-preserved c fs r =
    let l = c.args.list.now in
    let rest = drop c.args.total c.args.out.now in
    let w = last-key l fs r.in_list rest c.loop-i.out c.loop-i.i c.loop-i.at (omega arith) (c.loop-i.invariant fs r) in
    left_step l fs r.in_list rest c.loop-i.out (c.loop-i.i - 1) c.loop-i.at w c.write_key-at.new.out c.write_key-at.result
    (c.write_key-at.ensures w.last (stands l w.last c.key-v.result _ w.in_list c.key-v.ensures w.key))

pub returns : goal.returns
returns c fs r =
    let l = c.args.list.now in
    let rest = drop c.args.total c.args.out.now in
    let e : c.loop-i.i ≡ 0 = omega arith in
    left_end l fs rest c.loop-i.out c.loop-i.at (subst (λ (x : ℕ). Left l fs rest c.loop-i.out x c.loop-i.at) e (c.loop-i.invariant fs r))
