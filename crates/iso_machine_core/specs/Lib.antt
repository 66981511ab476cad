pub mod Filling
pub mod Heads
pub mod Entering
pub mod Goals
