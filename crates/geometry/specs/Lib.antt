-- What follows of the lattice's points, stars and ranks, for the floors above: no function cites it, so it stands apart from them.
pub mod Forms
pub mod Opposites
pub mod GeometryLaws
pub mod SideLaws
pub mod SubdivisionLaws
pub mod RankLaws
pub mod RankSteps
pub mod StarSteps
