pub mod Running
pub mod Frames
pub mod Costs
