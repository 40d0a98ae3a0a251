-- Document 01 in antt: Points, Records, Patterns, Stars, Subdivision; Ranks is ours, for the model of grown meshes.
pub mod Points
pub mod Records
pub mod Patterns
pub mod Stars
pub mod Refusals
pub mod AnswerRows
pub mod Rows
pub mod Terms
pub mod Arms
pub mod Subdivision
pub mod Ranks
pub mod Examples
-- what they obey
pub mod PointLaws
pub mod Bounds
pub mod RecordLaws
pub mod PatternLaws
pub mod RowLaws
pub mod NumberedRows
pub mod StarLaws
pub mod RefusalLaws
pub mod AnswerRowLaws
pub mod ArmLaws
pub mod Places
pub mod RankBounds
