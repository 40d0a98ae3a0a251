-- Where a vertex across from a side can stand.
pub mod Across
-- its laws
pub mod FactorLaws
pub mod OppositeLaws
