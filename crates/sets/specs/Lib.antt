-- The definitions of `sets`. Assumes nothing.
pub mod Sets
pub mod Statements
