-- every public call, and that its outcome is one
pub mod Calls
-- demand 1: the numbers, where a reader finds fault, and the bytes of a refusal
pub mod Numbers
pub mod ReadNumbers
pub mod Faults
pub mod Refused
-- many queries at once: each answer is the single call's
pub mod Queries
-- demand 2: one form of a point, the opposites of a corner, the meshes, the files
pub mod Points
pub mod Opposites
pub mod SeenFaces
pub mod Forms
pub mod Meshes
pub mod Order
pub mod Files
-- what a census counts
pub mod Census
-- document 02's ticket 8: the plan holds together
pub mod Together
pub mod Histories
-- demand 3: what is written comes back, call by call
pub mod Returns
-- document 02's ticket 1: the findings list joined
pub mod Findings
-- document 02's ticket 3: what a search tells
pub mod Search
-- document 02's ticket 4: a vertex brought to degree 6
pub mod Bring
pub mod BringEnds
-- document 02's ticket 5: OFF and OBJ files, whose faces turn left
pub mod Turning
pub mod Viewer
-- document 02's ticket 9: a mesh refined round an outline
pub mod Refine
-- document 02's ticket 12: salvage of old files; a whole call, computed
pub mod Salvage
pub mod Mended
-- document 02's ticket 13: the second engine
pub mod Engine
-- document 02's ticket 7: no new point is deeper than 6, and no call answers 6
pub mod Unused
-- the starred examples
pub mod Starred
-- what pins the definitions themselves, computed: limits on both sides, which number stands where, the order of entering
pub mod Limits
pub mod Rows
pub mod Entering
pub mod Counted
