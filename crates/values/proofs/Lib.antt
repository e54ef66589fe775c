pub mod Tests
pub mod Values
pub mod Operators
pub mod Table
pub mod Theorems
pub mod Examples
