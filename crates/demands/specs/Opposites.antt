-- The two opposites of a corner: "The opposite is the first one if that is in the table, else the second", and the second is "the farther opposite".
-- At every degree, orientation and place that has two, the first lies nearer to the vertex. (`farness` orders pattern points by their distance.)
-- Assumes nothing.
pub use Rattle.geometry.specs.Opposites.{farness, first-nearer}
