-- The definitions of `answer`. Assumes nothing.
pub mod Asked
