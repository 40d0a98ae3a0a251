-- Document 01's queries, neighbours and faces, in antt: Queries; what many are answered: Many.
pub mod Queries
-- many at once
pub mod Many
-- what the promises of the functions below cite besides
pub mod Asked
-- their laws
pub mod QueryLaws
pub mod OppositeLaws
pub mod ManyLaws
-- examples that compute
pub mod Examples
-- the same in the rows that are lent, and many at once
pub mod RowExamples
