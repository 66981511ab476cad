pub mod StepLemmas
pub mod GoalLemmas
pub mod ValueLemmas
pub mod ShortLemmas
