-- The laws of `host`. Assumes nothing.
pub mod Given
pub mod Places
pub mod Words
pub mod Theorems
pub mod Examples
