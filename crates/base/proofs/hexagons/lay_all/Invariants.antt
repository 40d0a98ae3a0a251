-- The invariant of `base::lay_all`: the hexagons so far are laid.
use Rattle.std.proofs.Common.{◌≡◌}
use Rattle.base.specs.Base.{Room, lay_all}
use Rattle.base.proofs.hexagons.lay_all.Given as goal

abbrev pub invariant-loop-i : goal.invariant-loop-i
invariant-loop-i l = lay_all l.centres l.i (Room l.initial.table) ≡ Room l.table
