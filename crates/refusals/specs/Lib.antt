-- The definitions of `refusals`. Assumes nothing.
pub mod Refusals
