-- The laws of `connection`. Assumes nothing.
pub mod InRange
pub mod Picks
pub mod Shown
pub mod Named
pub mod Connected
pub mod Fitted
pub mod Ranged
pub mod Choices
pub mod Answered
pub mod Combined
pub mod Ways
pub mod Order
pub mod Spaces
pub mod Outcomes
pub mod Numbered
pub mod Theorems
pub mod Examples
