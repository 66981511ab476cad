pub mod AreaLemmas
pub mod Memory
pub mod ReadingLemmas
pub mod Sharing
