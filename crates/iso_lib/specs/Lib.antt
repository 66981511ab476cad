pub mod Settlements
pub mod Indicators
