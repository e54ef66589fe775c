-- The definitions of `book`, in the order to read them. Assumes nothing.
pub mod Faults
pub mod Declaring
pub mod Reading
pub mod Accepting
pub mod Conditions
pub mod WellFormed
pub mod TablesOf
pub mod RecordsSay
pub mod Statements
