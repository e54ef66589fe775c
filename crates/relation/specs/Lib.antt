-- The definitions of `relation`. `Demand3` is the claim that the others are for; they stand in the order to read them.
-- Assumes nothing.
pub mod Demand3
pub mod Tables
pub mod Joins
pub mod Computed
pub mod BookRows
pub mod Statements
