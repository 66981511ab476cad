mod Solving
mod Reading
mod Coming
pub mod SolveLemmas
mod ReadLemmas
mod FillLemmas
mod RunLemmas
pub mod HeadLemmas
mod OrderLemmas
mod MarkLemmas
mod EmitLemmas
mod HeadCodeLemmas
mod GoalLemmas
pub mod NextLemmas
mod ShapeLemmas
mod CellLemmas
mod RegisterLemmas
mod BodyLemmas
mod ControlLemmas
mod ClauseLemmas
mod ExpressionLemmas
mod VoidLemmas
mod EntryLemmas
mod EvaluationLemmas
mod BirthLemmas
mod WayLemmas
