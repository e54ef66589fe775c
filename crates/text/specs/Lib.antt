-- The definitions of `text`, in the order to read them. Assumes nothing.
pub mod Tokens
pub mod Programs
