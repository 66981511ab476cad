pub mod Arities
pub mod Made
pub mod Replied
pub mod Views
