-- Grown meshes, their mathematics: Sheets (document 01's words), Model (the closed form), Local (the test), and what is proved of them: Growth. Of
-- these definitions the second engine's promises cite a few of the records' (`by_splits`, `internal_of`, `given_by`, `vertex`), no other promise any: the crate
-- `grown` shows that the calls' own tables are these sheets.
pub mod Sheets
pub mod Model
pub mod Local
pub mod Growth
pub mod Examples
-- how it is proved. Points and their parents, by steps alone
pub mod Normal
pub mod Directions
pub mod Parents
pub mod Hexagons
pub mod BaseLaws
-- M1, M4: one more subdivision
pub mod Closed
pub mod Updates
pub mod OneStep
pub mod Link
pub mod Subdivide
-- M2: grown is closed, and back
pub mod Order
pub mod GrownLaws
pub mod GrownValid
-- M3: the local test, both ways
pub mod LocalTests
pub mod Checked
pub mod LocalGrown
pub mod GrownLocal
-- no neighbour query is torn
pub mod Neighbours
-- what the crate `bring` cites
pub mod Bring
