-- Document 01, "Base", its first sentence, in antt.
pub mod Centres
-- what the promises cite besides
pub mod Marks
-- their laws
pub mod MarkLaws
-- a good list is a base of the model
pub mod ModelLaws
