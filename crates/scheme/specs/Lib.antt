-- The definitions of `scheme`, in the order to read them. Assumes nothing.
pub mod Dependencies
pub mod Growing
pub mod MaximalObjects
pub mod KeptSets
pub mod OfScheme
pub mod Statements
