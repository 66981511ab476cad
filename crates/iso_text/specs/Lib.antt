pub mod Written
pub mod Forms
pub mod Elements
pub mod Parts
pub mod Bounds
