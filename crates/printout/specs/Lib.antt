-- The definitions of `printout`, in the order to read them. Assumes nothing.
pub mod Decimal
pub mod Lines
pub mod Printing
pub mod Statements
