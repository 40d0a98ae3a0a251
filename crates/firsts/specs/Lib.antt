-- Document 01, "Census program", and document 02, ticket 2, in antt: faces and their sides, and how many different ones there are.
pub mod Faces
-- what the promises cite besides
pub mod Earlier
pub mod Strides
pub mod Choices
-- their laws
pub mod DifferentLaws
pub mod SetLaws
pub mod EarlierLaws
pub mod StarLaws
pub mod FaceLaws
pub mod SameLaws
pub mod NearFarLaws
pub mod StrideLaws
pub mod ToldLaws
pub mod CaseLaws
