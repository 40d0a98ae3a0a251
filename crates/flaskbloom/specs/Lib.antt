-- What the promises of the C interface cite besides the definitions of the calls.
pub mod Numbers
pub mod Examples
-- its laws
pub mod NumberLaws
