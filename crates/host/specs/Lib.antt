-- The definitions of `host`, in the order to read them. Assumes nothing.
pub mod Results
pub mod Words
pub mod Statements
