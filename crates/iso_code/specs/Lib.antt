pub mod Loaded
pub mod Standing
pub mod Loading
