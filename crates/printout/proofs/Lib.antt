-- The proofs of `printout`, in the order to read them. Assumes nothing.
pub mod Decimal
pub mod Writing
pub mod Rows
pub mod Fit
pub mod Texts
pub mod Lines
pub mod Room
pub mod Theorems
pub mod Examples
