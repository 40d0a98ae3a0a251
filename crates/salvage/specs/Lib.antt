-- Document 02, ticket 12, in antt.
pub mod Salvage
pub mod Examples
-- the sorted records entered
pub mod FillLaws
pub mod EnterLaws
pub mod MendLaws
pub mod KeyLaws
pub mod FilledLaws
-- a file judged
pub mod JudgeLaws
-- the list of changes
pub mod NoteLaws
pub mod ListLaws
pub mod ListedLaws
-- the call
pub mod CallLaws
