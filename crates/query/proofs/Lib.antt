-- The laws of `query` that callers cite. Assumes nothing.
pub mod Faulting
pub mod Asking
pub mod Conditions
pub mod Names
pub mod Fits
pub mod Whole
pub mod Outcomes
pub mod Loops
pub mod Theorems
pub mod Examples
