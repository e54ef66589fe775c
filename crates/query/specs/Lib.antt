-- The definitions of `query`, in the order to read them. Assumes nothing.
pub mod Asking
pub mod Faults
pub mod Conditions
pub mod Reading
pub mod Accepting
pub mod Statements
