-- The laws of `sorted` that callers cite. Assumes nothing.
pub mod Rows
pub mod Keys
pub mod Loops
pub mod Halving
pub mod Seeking
pub mod Placed
pub mod Copying
pub mod Merging
pub mod Sorting
pub mod Theorems
pub mod Examples
