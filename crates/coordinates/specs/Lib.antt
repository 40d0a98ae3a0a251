-- Document 02, ticket 5: coordinates, in antt.
pub mod Coordinates
pub mod Examples
-- what they obey
pub mod RootLaws
pub mod NearLaws
pub mod TextLaws
