-- The laws of `program`. Assumes nothing.
pub mod Going
mod Reading
