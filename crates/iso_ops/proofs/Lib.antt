pub mod PlaceLemmas
pub mod TableLemmas
pub mod EntryLemmas
pub mod InitialLemmas
