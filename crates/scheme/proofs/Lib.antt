-- The laws of `scheme` that callers cite. Assumes nothing.
pub mod Repeating
pub mod Closing
pub mod Growing
pub mod Lists
pub mod KeptOrder
pub mod Removals
pub mod MaximalObjects
pub mod Packing
pub mod Loops
pub mod KeptSets
pub mod ListLoops
pub mod OfScheme
pub mod Theorems
pub mod Examples
