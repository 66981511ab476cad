pub mod Storing
pub mod Shown
pub mod Declaring
pub mod Matching
pub mod Adding
pub mod Cells
