pub mod Stacks
pub mod Stacked
pub mod Entered
pub mod Leveled
pub mod Met
pub mod Goals
pub mod Putting
pub mod Answering
