-- Document 02, ticket 13, in antt.
pub mod Engine
pub mod Examples
pub mod Many
-- what the promises of the functions below cite besides
pub mod Scan
-- what a list of pairs comes to in the model
pub mod MadeLaws
-- a sequence of subdivisions, room aside, and the list it leaves
pub mod Traced
-- how the call ends, for all lists
pub mod Ends
-- what the proofs of the functions cite
pub mod ScanLaws
-- a pair that fits, by what it stands on
pub mod Words
-- the calls by cases
pub mod CallLaws
pub mod ManyLaws
