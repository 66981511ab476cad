pub mod Area
pub mod Ownership
pub mod Places
pub mod Reading
pub mod Stacks
