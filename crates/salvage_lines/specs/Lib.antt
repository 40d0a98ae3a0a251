-- Document 02, ticket 12, in antt: the lines of an old file.
pub mod OldLines
pub mod Examples
-- a line, as the code takes it apart
pub mod LineLaws
pub mod LinesOn
-- number 20
pub mod ClashLaws
pub mod Rounds
pub mod RoundLaws
-- where a line ends, and what it is
pub mod LineEnds
