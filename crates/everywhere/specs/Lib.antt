-- Document 02, ticket 4, of every table in order, grown or not. In words: sequences that reach the goal, and what is done or met turn by turn
pub mod Runs
pub mod First
-- one vertex along a sequence
pub mod Missing
pub mod Histories
-- what is done, and that the definition does it
pub mod Made
pub mod Meeting
pub mod Filled
-- every sequence that reaches the goal has it
pub mod Necessary
-- on grown tables: never 7, and how many
pub mod Beside
pub mod Coming
pub mod OnGrown
-- the call
pub mod Everywhere
