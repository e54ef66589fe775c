-- The laws of `relation` that callers cite. Assumes nothing.
pub mod Tables
pub mod Agreement
pub mod Sharing
pub mod Fitting
pub mod KeptSets
pub mod Backwards
pub mod Standing
pub mod Unions
pub mod Computed
pub mod Theorems
pub mod Examples
pub mod BookRows
