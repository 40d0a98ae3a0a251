-- Searches in a row.
pub mod Lookups
