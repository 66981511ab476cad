pub mod Engines
pub mod LinkMembers
pub mod LinkValues
pub mod Links
