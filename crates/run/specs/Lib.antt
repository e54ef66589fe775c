-- The definitions of `run`, in the order to read them. Assumes nothing.
pub mod Running
pub mod Items
pub mod Statements
