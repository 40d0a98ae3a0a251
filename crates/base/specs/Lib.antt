-- Document 01, "Base", in antt.
pub mod Base
pub mod Told
pub mod Examples
-- what the promises of the functions below cite besides
pub mod Laying
-- their laws
pub mod LayLaws
-- what the floors above cite
pub mod Vertices
pub mod HoldLaws
pub mod BaseLaws
