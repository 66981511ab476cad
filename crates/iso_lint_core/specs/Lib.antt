pub mod Shapes
pub mod Names
pub mod Settings
pub mod Calls
pub mod KeyViews
pub mod Indicators
