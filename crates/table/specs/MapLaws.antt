-- A table in order is a finite map from points to records: what the floors above cite. They need no other file of laws, and never open `slot_at`,
-- `put_slot`, `find_of` or `look_up`. The laws stand in three files, by subject; this one is their index.
--
-- The map       `lookup-point`, `lookup-valid`, `lookup-stands` what is found · `lookup-complete`, `slot-looked` what stands is found ·
--               `stands_one` one record a point · `outside-absent`, `held-inside` records have points in their ranges ·
--               `lookup-same` two tables that hold the same at a point
-- A search      `Searched`, `searched` its three ends, each with what it says of the map and of the free slots ·
--               `at_held`, `at-free`, `at-full` the same, by where it ended · `find-held`, `find-free`, `find-full` where it ends, by what the
--               map holds: at a free slot exactly where the point is absent and a slot is free · `slot-in-held`, `slot-in-absent`,
--               `slot-in-most` what the map holds, by the slot of a point (`slot_found`) · `find-told` what it tells (Told) ·
--               `resumed` it goes on from the slot told · `enter-reaches` it comes as far as it came when a record has entered, since
--               slots only fill (`enter-fills`), and ends where it ended at its point (`enter-stays`)
-- Entering      `enter-order`, `enter-finds`, `enter-keeps`, `enter-free`, `enter-records` · `enter-there`, `enter-full` nothing changes ·
--               `enter-length` · `put-enter`
-- Replacing     `replace-order`, `replace-finds`, `replace-keeps`, `replace-free`, `replace-find` · `replace-length`, `replace-table` · `put-replace`
-- Clearing      `clear-order`, `clear-absent`, `clear-free`, `clear-length`, `clear-table` · `empty-absent` a table whose slots are all free
-- All records   `records-none`, `records-more` one slot more · `records-looked`, `looked-records` they are what is found ·
--               `records-apart` no point twice · `records-count` · `records-same` equal maps have as many
-- A table       `table_of`, `order-table` · `slots-table`, `table-slots`, `table_same` the number of slots ·
--               `order-test`, `test-order` the test and the four conditions ·
--               `at_room`, `free-room` the slot where a search ended lies in it, as `read_slot` and `write_slot` ask
-- Points        `same_or_not`, `same_refl`, `same_true`
-- Assumes nothing.
pub use Rattle.table.specs.LookLaws.{lookup-point, lookup-valid, lookup-stands, lookup-complete, slot-looked, stands_one}
pub use Rattle.table.specs.LookLaws.{outside-absent, held-inside, lookup-same, order-table}
pub use Rattle.table.specs.LookLaws.{Searched, there, room, full, searched, AtHeld, AtFree, at_held, at-free, at-full}
pub use Rattle.table.specs.LookLaws.{find-held, find-free, find-full, slot-in-held, slot-in-absent, slot-in-most}
pub use Rattle.table.specs.PutLaws.{enter-order, enter-finds, enter-keeps, enter-free, enter-there, enter-full, enter-length, put-enter}
pub use Rattle.table.specs.PutLaws.{enter-fills, enter-reaches, enter-stays}
pub use Rattle.table.specs.PutLaws.{replace-order, replace-finds, replace-keeps, replace-free, replace-find, replace-length, replace-table, put-replace}
pub use Rattle.table.specs.PutLaws.{clear-order, clear-absent, clear-free, clear-length, clear-table}
pub use Rattle.table.specs.AllLaws.{records-none, records-more, records-looked, looked-records, records-apart, records-count, records-same}
pub use Rattle.table.specs.AllLaws.{empty-absent, enter-records}
pub use Rattle.table.specs.SearchLaws.{same_or_not, same_refl, same_true}
pub use Rattle.table.specs.SlotLaws.{slots-table, table-slots, table_same}
pub use Rattle.table.specs.OrderLaws.{order-test, test-order}
pub use Rattle.table.specs.EntryLaws.{at_room, free-room, find-told, resumed}
pub use Rattle.table.specs.WriteLaws.{StandsIn, table_of}
pub use Rattle.table.specs.RecordLaws.{Apart}
