-- Document 02, ticket 5: the numbers of vertices, in antt.
pub mod Numbering
pub mod Counting
-- by the vertices' keys, sorted
pub mod Keyed
pub mod Ranks
-- guessed by slot
pub mod Guesses
