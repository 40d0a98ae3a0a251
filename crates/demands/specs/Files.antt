-- Demand 2, the files: "both files agree with document 01, for writing and reading". Number 1's "in order" is said here too, in the document's four conditions.
-- `order-test`, `test-order` the promises' test is true exactly where the four conditions `InOrder` hold · `sorted_rises`, `sorted-holds`,
-- `holds-sorted` the lines of a full file rise and are the table's records, each once; `left-rises`, `left-holds`, `holds-left` the same of a reduced
-- file and the records that are not redundant · `full-same`, `reduced-same` the file of a table depends on its records alone, not on their slots or
-- its room · `line_write` a written line parses to its record · `line_read_lem` only a written line parses · `line-prefix` no two records have one line.
-- Assumes nothing.
pub use Rattle.table.specs.MapLaws.{order-test, test-order}
pub use Rattle.writers.specs.FileLaws.{sorted_rises, sorted-holds, holds-sorted, left-rises, left-holds, holds-left, full-same, reduced-same}
pub use Rattle.text.specs.LineLaws.{line_write, line_read_lem, line-prefix}
