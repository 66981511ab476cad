pub mod RangeLemmas
pub mod QuotientLemmas
pub mod PowerLemmas
pub mod ShiftLemmas
pub mod TableLemmas
pub mod EvaluableLemmas
pub mod EvaluationLemmas
