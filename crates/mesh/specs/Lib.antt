-- Document 01, "Subdivision of v", in antt.
pub mod Subdivide
pub mod Grown
pub mod Examples
-- what the promises of the functions below cite besides
pub mod Met
pub mod MetLaws
-- what they obey
pub mod SubdivideLaws
pub mod WriteLaws
pub mod CallLaws
pub mod CaseLaws
pub mod StepLaws
