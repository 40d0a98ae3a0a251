-- The invariant of `salvage::listing::put_lines`: the lines passed are listed.
use Rattle.std.proofs.Common.{◌-◌, length}
use Rattle.salvage.specs.ListedLaws.{Listing}
use Rattle.salvage.proofs.listing.put_lines.Given as goal

abbrev pub invariant-loop-next : goal.invariant-loop-next
invariant-loop-next l = Listing l.table l.file l.initial.out l.room l.p l.line l.at l.out l.marks

abbrev pub decreases-loop-next : goal.decreases-loop-next
decreases-loop-next l = length l.file - l.p
