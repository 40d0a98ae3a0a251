-- Document 01, "Files", in antt: Decimal and Line are the format, Reading what stands at a position of any bytes.
pub mod Decimal
pub mod Reading
pub mod Line
-- how a point may be spelled in what others wrote
pub mod Limits
-- what they obey: numbers
pub mod DecimalLaws
pub mod ReadingLaws
-- lines
pub mod Near
pub mod LineLengths
pub mod Back
pub mod Copy
pub mod Shorter
pub mod LineOrder
pub mod LineCount
pub mod LineLaws
-- examples, computed
pub mod Examples
