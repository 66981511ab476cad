pub mod Styles
pub mod Forms
pub mod Edges
pub mod Tasks
pub mod Leads
