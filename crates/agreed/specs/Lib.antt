-- the second engine and the tables agree
pub mod Tables
-- every grown table has its list
pub mod Lists
-- the calls that make several subdivisions leave their list
pub mod Made
pub mod Refined
-- computed
pub mod Examples
