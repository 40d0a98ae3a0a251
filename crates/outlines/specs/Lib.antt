-- Document 02, ticket 9, "Refine round an outline", in antt.
pub mod Outlines
pub mod Examples
-- what it obeys
pub mod PlaceLaws
pub mod PassLaws
pub mod ListLaws
pub mod CallLaws
pub mod TurnLaws
pub mod RefineLaws
pub mod GrownLaws
pub mod FitLaws
