pub mod OnTerms
pub mod Syntax
pub mod Search
pub mod Session
