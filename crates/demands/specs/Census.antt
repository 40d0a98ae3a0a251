-- What a census counts. Document 02, ticket 2: "An edge is from now on a side of a face, taken once whichever way it runs. .. This replaces Document 01's
-- E." `edges-sides`, `faces-different` E and F by the same list of faces · `side_same`, `side-self`, `swap-right` two sides are the same exactly where
-- they have the same ends, whichever way they run · `same-sides` a face has the same sides from whichever vertex it is read · `different-set` each is
-- taken once: how many different ones a list has is told by which ones it has, however often; of sides and of faces, by `sides-alike`, `faces-alike` ·
-- `records-by-degree` V is the sum of the records by degree · `counts_alone` two tables in order with the same look-ups have the same counts: they turn
-- on the records alone, not on their slots.
-- Assumes nothing.
pub use Rattle.firsts.specs.SameLaws.{side_same, side-self, swap-right, same-sides, sides-alike, faces-alike}
pub use Rattle.firsts.specs.SetLaws.{Alike, different-set}
pub use Rattle.counts.specs.AloneLaws.{counts_alone}
use Rattle.std.specs.Prelude.{◌≡◌, List, ℕ, ◌+◌}
use Rattle.std.proofs.Math.Path.{refl}
use Rattle.table.specs.Order.{InOrder}
use Rattle.table.specs.Entries.{records_of}
use Rattle.firsts.specs.Faces.{different, each, faces_at, same_face, sides_of, same_side}
use Rattle.counts.specs.Counts.{counts_of}
use Rattle.counts.specs.DegreeLaws.{degrees-all}

module _ (t : List ℕ) where
  pub edges-sides : (counts_of t).edges ≡ different same_side (each sides_of (each (faces_at t) (records_of t)))
  unfolding counts_of
  edges-sides = refl

  pub faces-different : (counts_of t).faces ≡ different same_face (each (faces_at t) (records_of t))
  unfolding counts_of
  faces-different = refl

  pub records-by-degree : InOrder t
      → (counts_of t).d0 + (counts_of t).d3 + (counts_of t).d4 + (counts_of t).d5 + (counts_of t).d6 ≡ (counts_of t).vertices
  unfolding counts_of
  records-by-degree o = degrees-all t o
