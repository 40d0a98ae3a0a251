-- Demand 3: files and grown meshes. What is written comes back; nothing else is accepted; two meshes of one file are one; and how many records there are.
pub mod Returns
-- the full file: full-returns, full-accepted, full-one, full-count
pub mod Full
-- the reduced file: reduced-returns, reduced-accepted, reduced-one, reduced-count, kept-twelve, twelve-kept
pub mod Leaves
pub mod Reduced
