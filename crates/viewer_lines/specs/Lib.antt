-- Document 02, ticket 5: the lines of a viewer's file, in antt.
pub mod ViewerLines
-- a face's four numbers in one
pub mod Packed
-- lines written from the last back
pub mod Backward
-- the lines by their keys
pub mod Lines
