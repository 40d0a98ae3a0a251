-- Document 01, "Table in memory", in antt: Slots, Search, Order, Entries, and examples that compute; Told is document 02, ticket 3.
pub mod Slots
pub mod Search
pub mod Order
pub mod Told
pub mod Entries
pub mod Ranges
pub mod Examples
-- what the promises of the functions below cite besides
pub mod Reading
-- their laws, each file over the one before
pub mod SlotLaws
pub mod PairLaws
pub mod SearchLaws
pub mod HomeLaws
pub mod OrderLaws
pub mod EntryLaws
pub mod RunLaws
pub mod ChangeLaws
pub mod WriteLaws
pub mod RecordLaws
pub mod LookLaws
pub mod GroupLaws
pub mod PutLaws
pub mod AllLaws
-- what the floors above cite: the index of the three before
pub mod MapLaws
