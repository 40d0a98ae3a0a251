-- the tables that document 01's calls make are the model's
pub mod Bases
pub mod Steps
pub mod Tables
-- and back: the calls make every grown sheet
pub mod Room
pub mod Lists
pub mod Reach
-- so grown is decided
pub mod Grown
-- what is so on a grown table
pub mod Untorn
