-- Document 02, ticket 8: a plan holds together. What is proved of it: Together (stars, faces and queries), Plain (its corners), GrownFrom and Counted
-- (records, edges and faces by hexagons and subdivisions), Making (both told by the records), Tally and Tallied (and so by one pass over the slots). The
-- mathematics stands in docs/MODEL.md, "Faces and edges".
pub mod Together
pub mod Plain
pub mod GrownFrom
pub mod Counted
pub mod Making
pub mod Tally
pub mod Tallied
pub mod Examples
-- how it is proved. A star's opposites by steps; cells; the corners of a vertex are theirs
pub mod StarOpposites
pub mod Cells
pub mod Corners
pub mod Places
-- each corner shows a live cell's face, and each live cell's face is found
pub mod Faces
-- faces by starts, edges by labels
pub mod Inventory
pub mod Gathered
pub mod Added
pub mod Chains
pub mod Starts
pub mod BaseStarts
pub mod Edges
pub mod BaseEdges
