-- The proofs of `refusals`. Assumes nothing.
pub mod Numbers
