pub mod Specifiers
pub mod Operators
pub mod Entries
pub mod InitialOperators
pub mod Rows
pub mod Settings
