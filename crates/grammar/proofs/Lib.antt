-- The laws of `grammar`. Assumes nothing.
pub mod Bytes
pub mod Candidates
pub mod Nexts
pub mod Spelled
pub mod Sound
pub mod Complete
pub mod Texts
pub mod Theorems
pub mod Examples
