-- Document 01, "Files", the readers' half, in antt.
pub mod Readers
pub mod Additions
pub mod ReadLaws
pub mod RestoreLaws
pub mod FaultLaws
pub mod Outcomes
-- what the code's steps obey
pub mod LineSteps
pub mod BeginLaws
pub mod RestoreSteps
pub mod RestoreLines
pub mod Keeps
pub mod TableKeeps
pub mod CallLaws
