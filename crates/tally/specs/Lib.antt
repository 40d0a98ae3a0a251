-- The call `count`, ours, in antt: the census's numbers of a table in memory. What a tally adds up is together's specs/Tally.
pub mod Count
-- its laws
pub mod CountLaws
