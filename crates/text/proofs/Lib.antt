-- The laws of `text`. Assumes nothing.
pub mod Tokens
pub mod Scanning
pub mod Marks
pub mod Finding
pub mod Writing
pub mod Comparing
pub mod Listing
pub mod Chains
pub mod Parsers
pub mod Whole
