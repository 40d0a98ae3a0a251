-- "All else is untouched": where two vertices can be subdivided in either order, both orders end with the same records.
-- Assumes nothing.
pub use Rattle.growth.specs.Growth.{order-free}
