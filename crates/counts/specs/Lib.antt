-- Document 01, "Census program", and document 02, ticket 2, in antt: what is counted of a table.
pub mod Counts
-- what the promises of the functions below cite besides
pub mod Counted
-- their laws
pub mod AcrossLaws
pub mod EdgeLaws
pub mod DegreeLaws
pub mod AloneLaws
pub mod CaseLaws
-- examples that compute
pub mod Examples
