-- The definitions of `connection`, in the order to read them. Assumes nothing.
pub mod Picks
pub mod Connection
pub mod Answers
pub mod Order
pub mod Fitting
pub mod Answering
pub mod Statements
pub mod Outcomes
