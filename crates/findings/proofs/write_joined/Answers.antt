-- `findings::write_joined` meets its promise: the keys and the lost lines, the keys sorted, their lines. Assumes nothing.
use Rattle.std.proofs.Common.{◌≡◌, ap, List, ◌+◌, ◌<◌, ℕ, length, arith}
use Rattle.table.specs.Order.{InOrder}
use Rattle.findings.specs.Findings.{joined, standing}
use Rattle.findings.specs.StandingLaws.{lengths}
use Rattle.findings.specs.Judged.{found, AllSound, parts_of}
use Rattle.findings.specs.ReadyLaws.{laid-fit, laid-room, ready, ready-past, parts-inside}
use Rattle.findings.specs.JoinLaws.{put-short, put-done, joined-long, joined-done}
use Rattle.findings.specs.declared.lists.Parts.{Parts}
use Rattle.findings.proofs.write_joined.Goals as goal

-- the parts' lengths
module _ (t l : List ℕ) (p : Parts) (e : p ≡ parts_of t l (found l)) where
  begin : p.stands ≡ (parts_of t l (found l)).stands
  begin = ap (λ (x : Parts). x.stands) e

  end : p.stands + p.lost ≡ p.stands + (parts_of t l (found l)).lost
  end = ap (λ (x : Parts). p.stands + x.lost) e

  long : InOrder t → AllSound l → length l < lengths → p.stands + p.lost ≡ length (joined t l (found l))
  long o s h = joined-long t l o s h p.stands (p.stands + p.lost) begin end

pub overflow_add-total : goal.overflow_add-total
overflow_add-total c =
    let t = c.args.table.now in
    let l = c.args.list.now in
    let e = c.requires.parts_value in
    let a = begin t l c.args.parts e in
    let b = end t l c.args.parts e in
    record { fits = omega (arith, parts-inside t l c.requires.in_order.1.1, c.well_formed) }

pub returns-then-out-total : goal.returns-then-out-total
returns-then-out-total c =
    let t = c.args.table.now in
    let l = c.args.list.now in
    let r = c.requires.in_order in
    put-short (joined t l (found l)) c.args.out.now (c.args.parts.stands + c.args.parts.lost)
    (long t l c.args.parts c.requires.parts_value r.0 r.1.1 (omega (arith, c.well_formed))) c.if-out-total.true

pub sort_keys-requires : goal.sort_keys-requires
sort_keys-requires c =
    let t = c.args.table.now in
    let l = c.args.list.now in
    let r = c.requires.in_order in
    let start = c.args.parts.stands in
    let b = begin t l c.args.parts c.requires.parts_value in
    let m = laid-room t l r.0 r.1.1 start b c.args.out.now c.lay-k.new.out c.lay-k.result c.lay-k.ensures in
    (omega (arith, m, c.lay-k.ensures.long), laid-fit t l r.0 r.1.1 start b c.args.out.now c.lay-k.new.out c.lay-k.result c.lay-k.ensures)

pub write_keys-requires : goal.write_keys-requires
write_keys-requires c =
    let t = c.args.table.now in
    let l = c.args.list.now in
    let r = c.requires.in_order in
    let b = begin t l c.args.parts c.requires.parts_value in
    let h : length l < lengths = omega (arith, c.well_formed) in (
      standing t (found l),
      ready t l r.0 r.1.1 c.args.parts.stands b c.args.out.now c.lay-k.new.out c.lay-k.result c.lay-k.ensures h c.sort_keys.new.out c.sort_keys.ensures
          (omega arith),
    )

pub returns : goal.returns
returns c =
    let t = c.args.table.now in
    let l = c.args.list.now in
    let o = c.args.out.now in
    let r = c.requires.in_order in
    let start = c.args.parts.stands in
    let total = start + c.args.parts.lost in
    let b = begin t l c.args.parts c.requires.parts_value in
    let e = end t l c.args.parts c.requires.parts_value in
    let h : length l < lengths = omega (arith, c.well_formed) in
    let o₁ = c.lay-k.new.out in
    let o₂ = c.sort_keys.new.out in
    let o₃ = c.write_keys.new.out in
    let stand = ready t l r.0 r.1.1 start b o o₁ c.lay-k.result c.lay-k.ensures h o₂ c.sort_keys.ensures (omega arith) in
    let past = ready-past t l r.0 r.1.1 start b o o₁ c.lay-k.result c.lay-k.ensures h o₂ c.sort_keys.ensures in
    let done = joined-done t l r.0 r.1.1 h start total b e o o₂ o₃ (c.write_keys.ensures (standing t (found l)) stand) past in
    put-done (joined t l (found l)) o total (long t l c.args.parts c.requires.parts_value r.0 r.1.1 h) o₃ (omega arith) done
