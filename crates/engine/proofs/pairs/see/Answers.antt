-- `engine::pairs::see` meets its promise: by whether the pair has the parents' level. Assumes nothing.
use Rattle.std.proofs.Common.{sym, ◌∙◌, pos, cond, ◌+◌}
use Rattle.laws.specs.Machine.{asked}
use Rattle.laws.specs.Rules.{eq_z}
use Rattle.std.specs.Prelude.{◌||◌}
use Rattle.engine.specs.Scan.{seen_by, is_made}
use Rattle.engine.specs.ScanLaws.{see-else, see-parents}
use Rattle.engine.proofs.pairs.see.Goals as goal

pub returns-then-not-at_level : goal.returns-then-not-at_level
returns-then-not-at_level c =
    let a = c.args in
    let maker = sym (asked (is_made a.w.maker a.w.entry.0 a.p) c.ranges.z c.is_made.ensures) in
    let times = c.counted-times.ensures ∙ (λ j. a.s.times + cond (c.same_point.ensures j) 1 0) in
    let off = asked (λ z. eq_z z (pos a.w.level.0)) c.ranges.z c.at_level.ensures ∙ c.if-not-at_level.true in
    (λ j. seen_by a.s.first a.s.second a.s.third (maker j || a.s.maker) (times j)) ∙ see-else a.s a.w a.p a.z off

pub returns : goal.returns
returns c =
    let a = c.args in
    let maker = sym (asked (is_made a.w.maker a.w.entry.0 a.p) c.ranges.z c.is_made.ensures) in
    let times = c.counted-times.ensures ∙ (λ j. a.s.times + cond (c.same_point.ensures j) 1 0) in
    let on = asked (λ z. eq_z z (pos a.w.level.0)) c.ranges.z c.at_level.ensures ∙ c.if-not-at_level.false in
    (λ j. seen_by (c.same_point-2.ensures j || a.s.first) (c.same_point-3.ensures j || a.s.second) (c.same_point-4.ensures j || a.s.third)
    (maker j || a.s.maker) (times j))
    ∙ see-parents a.s a.w a.p a.z on
