pub mod Values
pub mod Operators
pub mod Table
pub mod Statements
