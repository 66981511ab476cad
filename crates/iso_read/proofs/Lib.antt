mod PlaceLemmas
pub mod Found
mod Joins
mod Rows
mod Climbs
mod Splits
mod Nexts
