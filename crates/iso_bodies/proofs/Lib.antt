pub mod NoteLemmas
pub mod FreshLemmas
pub mod BodyLemmas
pub mod StepLemmas
pub mod KeptLemmas
