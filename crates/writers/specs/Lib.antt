-- Document 01, "Files", the writers' half, in antt.
pub mod Files
pub mod Examples
-- what the code goes by
pub mod Kept
pub mod Named
pub mod KeptLaws
pub mod FileKeys
pub mod LeftLaws
pub mod CallLaws
pub mod ReducedLaws
-- what the floors above cite
pub mod RedundantLaws
pub mod FileLaws
