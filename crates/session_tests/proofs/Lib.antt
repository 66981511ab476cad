pub mod Additions
pub mod Stops
