-- The laws of `answer`. Assumes nothing.
pub mod Asked
pub mod Ending
pub mod Returning
