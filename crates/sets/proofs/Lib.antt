-- The laws of `sets` that callers cite. Assumes nothing.
pub mod Tests
pub mod Numbers
pub mod Bits
pub mod Sets
pub mod Plain
pub mod Ranks
pub mod Counts
pub mod Members
pub mod Those
pub mod Theorems
