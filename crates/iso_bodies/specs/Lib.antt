pub mod Steps
pub mod Instructions
pub mod Notes
pub mod Clauses
