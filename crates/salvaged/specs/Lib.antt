-- Document 02, ticket 12: what salvage gives back.
-- of a file that is not broken
pub mod WholeLaws
pub mod Undamaged
-- of any file
pub mod SalvageLaws
pub mod Told
-- of files that differ only in spellings
pub mod Spelled
-- as the reduced reader
pub mod ReaderLaws
