pub mod Pushing
pub mod Writing
