-- The laws of `run`. Assumes nothing.
pub mod Answering
pub mod Stepping
pub mod Items
pub mod Returns
pub mod Theorems
