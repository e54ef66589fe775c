-- The definitions of `sorted`, in the order to read them. Assumes nothing.
pub mod Rows
pub mod Statements
