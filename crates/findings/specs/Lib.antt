-- Document 02, ticket 1, in antt.
pub mod Findings
pub mod Examples
-- a line of the list: as the code takes it apart, and what it obeys
pub mod EntryCases
pub mod EntryLaws
-- how long the lines out are
pub mod TextLengths
-- the findings on the plan
pub mod KeepLaws
pub mod StandingLaws
-- the list, line by line; the first malformed line
pub mod ListLaws
pub mod FaultLaws
-- what the joined list obeys: each line once, however its point is spelled
pub mod OnceLaws
pub mod SpellingLaws
-- a list judged
pub mod Judged
pub mod JudgeLaws
-- the keys of findings, and what they are compared by
pub mod Ranks
pub mod RankLaws
-- the output on its way
pub mod Laying
pub mod LayLaws
pub mod BackLaws
pub mod ReadyLaws
-- the call
pub mod JoinLaws
