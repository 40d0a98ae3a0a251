-- `findings::write_key` meets its promise: the line of the finding at the key's place. Assumes nothing.
use Rattle.std.proofs.Common.{◌≡◌, sym, ◌∙◌, ap}
use Rattle.findings.specs.Findings.{entry_at}
use Rattle.findings.specs.EntryLaws.{entry_in}
use Rattle.findings.specs.Ranks.{place_of}
use Rattle.findings.specs.declared.line.Entry.TheVariants.{Good}
use Rattle.findings.proofs.lines.write_key.Goals as goal

pub write_stands-requires : goal.write_stands-requires
write_stands-requires c =
    let l = c.args.list.now in
    let f = c.in-Good.f in
    let m : entry_at l (place_of l c.args.v) ≡ Good f = ap (entry_at l) (sym c.place_of.ensures) ∙ sym c.entry_at.ensures ∙ c.in-Good.is in
    (entry_in l (place_of l c.args.v) f m, (c.requires.f_len_bound f m, c.requires.end_in_bounds))
