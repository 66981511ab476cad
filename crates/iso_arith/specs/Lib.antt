pub mod Faults
pub mod Operations
pub mod Quotients
pub mod Tables
pub mod Evaluables
pub mod Evaluations
