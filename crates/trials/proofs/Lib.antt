-- The starred trials, and the index of all statements. Assumes nothing.
pub mod Starred
pub mod Index
pub mod Requests
pub mod Names
