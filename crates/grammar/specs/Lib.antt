-- The definitions of `grammar`, in the order to read them. Assumes nothing.
pub mod Pieces
pub mod Grammar
pub mod Parser
pub mod Statements
