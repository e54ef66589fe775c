-- The definitions of `numbers`. Assumes nothing.
pub mod Numbers
