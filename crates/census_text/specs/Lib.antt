-- Document 01, "Census program", in antt: what is written for an input.
pub mod Census
-- its laws
pub mod TextLaws
pub mod InputLaws
pub mod ProgramLaws
-- examples that compute
pub mod Examples
