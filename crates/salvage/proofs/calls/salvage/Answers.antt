-- `salvage::calls::salvage` meets its promise: by the tests, in the order of document 02. Assumes nothing.
use Rattle.std.proofs.Common.{◌≡◌, sym, ap, ◌∙◌, refl, length, arith}
use Rattle.lattice.specs.RefusalLaws.{number-some}
use Rattle.lattice.specs.Refusals.{number_of, number_told}
use Rattle.table.specs.MapLaws.{clear-length}
use Rattle.readers.specs.RestoreSteps.{by-stopped}
use Rattle.readers.specs.BeginLaws.{prepared-unfit, prepared-fit}
use Rattle.salvage.specs.Salvage.{salvage_after}
use Rattle.salvage.specs.CallLaws.{written_told, changed_told, both, cleared-alike, judged-held, judged-cleared, call-unfit, call-refused}
use Rattle.salvage.specs.CallLaws.{call-written, call-short}
use Rattle.salvage.proofs.calls.salvage.Goals as goal

pub returns-in_default : goal.returns-in_default
returns-in_default c =
    let t = c.args.table.now in
    let r = c.args.scratch.now in
    let o = c.args.out.now in
    let l = c.args.list.now in
    let w = prepared-unfit t r c.in_default.ensures.prepared refl in
    (λ i. salvage_after 1 0 0 (w.1 i) (w.2 i) o l) ∙ call-unfit t r c.args.file.now o l w.0

pub returns-in-Err : goal.returns-in-Err
returns-in-Err c =
    let t = c.args.table.now in
    let r = c.args.scratch.now in
    let f = c.args.file.now in
    let o = c.args.out.now in
    let l = c.args.list.now in
    let u = c.judge-judged.new.table in
    let p = prepared-fit t r c.in-Some.ensures.prepared c.in-Some.ensures.some in
    let judged = c.in-Err.ensures ∙ judged-cleared t c.prepare.new.table f p.1 in
    let long : length u ≡ length t = omega (arith, c.judge-judged.auto, ap length p.1, clear-length t) in
    let wide : length c.judge-judged.new.scratch ≡ length r = omega (arith, c.judge-judged.auto, ap length p.2, clear-length r) in
    let h = c.refuse.ensures in
    let tab = h.1 ∙ cleared-alike t u long in
    let scr = c.clear.ensures ∙ cleared-alike r c.judge-judged.new.scratch wide in
    (λ i. salvage_after (number_told (h.0 i)) (written_told (h.0 i)) (changed_told (h.0 i)) (tab i) (scr i) o l)
    ∙ call-refused t r f o l p.0 (number_of c.in-Err.why) (sym judged ∙ by-stopped (number_of c.in-Err.why) u (number-some c.in-Err.why))

pub write_both-requires : goal.write_both-requires
write_both-requires c =
    let t = c.args.table.now in
    let f = c.args.file.now in
    let p = prepared-fit t c.args.scratch.now c.in-Some.ensures.prepared c.in-Some.ensures.some in
    let w = judged-held t f c.judge-judged.new.table c.in-Some.n p.3 (sym (c.in_default-judged.ensures ∙ judged-cleared t c.prepare.new.table f p.1)) in
    (w.0, (w.1, w.2))

pub returns-in-Ok : goal.returns-in-Ok
returns-in-Ok c =
    let t = c.args.table.now in
    let r = c.args.scratch.now in
    let f = c.args.file.now in
    let o = c.args.out.now in
    let l = c.args.list.now in
    let u = c.judge-judged.new.table in
    let p = prepared-fit t r c.in-Some.ensures.prepared c.in-Some.ensures.some in
    let good = sym (c.in_default-judged.ensures ∙ judged-cleared t c.prepare.new.table f p.1) in
    let wide : length c.judge-judged.new.scratch ≡ length r = omega (arith, c.judge-judged.auto, ap length p.2, clear-length r) in
    let scr = c.clear.ensures ∙ cleared-alike r c.judge-judged.new.scratch wide in
    let done = c.in-Ok.done in
    (λ i. salvage_after 0 done.written done.changed u (scr i) c.write_both.new.out c.write_both.new.list)
    ∙ call-written t r f o l p.0 u good (both 0 done.written done.changed c.write_both.new.out c.write_both.new.list) c.in-Ok.ensures refl

pub returns-in-Err-write_both : goal.returns-in-Err-write_both
returns-in-Err-write_both c =
    let t = c.args.table.now in
    let r = c.args.scratch.now in
    let f = c.args.file.now in
    let o = c.args.out.now in
    let l = c.args.list.now in
    let u = c.judge-judged.new.table in
    let p = prepared-fit t r c.in-Some.ensures.prepared c.in-Some.ensures.some in
    let good = sym (c.in_default-judged.ensures ∙ judged-cleared t c.prepare.new.table f p.1) in
    let long : length u ≡ length t = omega (arith, c.judge-judged.auto, ap length p.1, clear-length t) in
    let wide : length c.judge-judged.new.scratch ≡ length r = omega (arith, c.judge-judged.auto, ap length p.2, clear-length r) in
    let why = c.in-Err-write_both.why in
    let h = c.refuse-in-Err-write_both.ensures in
    let tab = h.1 ∙ cleared-alike t u long in
    let scr = c.clear.ensures ∙ cleared-alike r c.judge-judged.new.scratch wide in
    (λ i. salvage_after (number_told (h.0 i)) (written_told (h.0 i)) (changed_told (h.0 i)) (tab i) (scr i) c.write_both.new.out c.write_both.new.list)
    ∙ call-short t r f o l p.0 u good (both (number_of why) 0 0 c.write_both.new.out c.write_both.new.list) c.in-Err-write_both.ensures (number-some why)
