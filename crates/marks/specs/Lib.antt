-- One bit for each of many places, in antt.
pub mod Marks
