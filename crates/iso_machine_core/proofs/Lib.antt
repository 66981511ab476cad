pub mod BlockLemmas
pub mod LoopLemmas
pub mod HeadLemmas
pub mod EntryLemmas
pub mod GoalLemmas
pub mod NumberLemmas
pub mod LoadedLemmas
