-- Document 02, ticket 4, "Refine here, whatever the degree", in antt.
pub mod Bring
pub mod Examples
-- what it obeys, as the code goes; what it does, turn by turn and on tables of any kind: the crate `everywhere`
pub mod ChainLaws
pub mod BareSteps
pub mod CallLaws
pub mod Numbers
pub mod Boundary
-- on grown tables
pub mod Ways
pub mod Runs
pub mod Least
pub mod Costs
pub mod Ends
pub mod BringLaws
