-- Demand 2, the meshes: what the calls make, point by point, as theorems over their own definitions.
-- `base-list`, `base-order`, `base-holds`, `base-count` an accepted base: its list is good, it is in order, it holds the vertex of each point of the
-- base and nothing else, and as many · `accepted` an accepted subdivision is document 01's step, of a table in order at any level · `base-grown`,
-- `divided-grown` so what the calls make is grown · `subdivision-end` the number that a subdivision of a grown table gets, and when; `never-torn`,
-- `neighbours-given`, `neighbours-untorn` nothing is torn on it.
-- `triple-3`, `many_more`, `many-stop`, `many-end`, `many-1` ours, many subdivisions: each as one call would, those before the first refusal stand;
-- 3 where m is in no byte.
-- Assumes nothing.
pub use Rattle.base.specs.BaseLaws.{base-list, base-order, base-holds, base-count}
pub use Rattle.mesh.specs.CaseLaws.{triple-3, many_more, many-stop, many-end, many-1}
pub use Rattle.grown.specs.Steps.{Accepted, accepted}
pub use Rattle.grown.specs.Untorn.{subdivision-end, never-torn, neighbours-given, neighbours-untorn, base-grown, divided-grown}
pub use Rattle.grown.specs.Grown.{grown?, is-grown, grown-is, grown-same}
