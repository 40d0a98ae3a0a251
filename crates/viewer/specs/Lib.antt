-- Document 02, ticket 5, in antt.
pub mod Viewer
pub mod Examples
-- keys stored
pub mod Stored
-- the call
pub mod BodyLaws
pub mod CallLaws
-- what the file is: a number is a place in the full file; each face once, turned, rising
pub mod Places
pub mod FaceLaws
