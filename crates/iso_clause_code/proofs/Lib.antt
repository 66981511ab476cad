pub mod CheckedLemmas
pub mod KeptLemmas
pub mod LowLemmas
pub mod EntryLemmas
pub mod CellLemmas
