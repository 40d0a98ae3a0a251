-- Laws that every floor cites; each file opens with an index of what it holds.
-- whole numbers for `omega`: Parts, Sizes, Linear, Multiples, Products, Residue, Thirds
pub mod Parts
pub mod Sizes
pub mod Linear
pub mod Multiples
pub mod Products
pub mod Residue
pub mod Thirds
-- what the machine makes of them: Machine, Flags, Signs
pub mod Machine
pub mod Flags
pub mod Signs
-- truth values, computed tables: Bools, Choices, Rules, Each
pub mod Bools
pub mod Choices
pub mod Rules
pub mod Each
-- lists and bytes: Some, Sets, Stores, Words, Bits, Triples
pub mod Some
pub mod Sets
pub mod Stores
pub mod Words
pub mod Bits
pub mod Triples
