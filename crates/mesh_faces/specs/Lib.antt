-- What the promises cite
pub mod MeshFaces
-- each face at the first vertex that has it, and where all corners are plain
pub mod Once
pub mod Plain
