-- The census program: what can be promised of its reading.
pub mod Input
