pub mod Terms
pub mod Syntax
pub mod Search
pub mod Session
pub mod Worked
