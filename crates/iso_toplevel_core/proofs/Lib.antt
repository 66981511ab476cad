mod PartLemmas
mod LineLemmas
mod QueryLemmas
mod TalkLemmas
pub mod EndLemmas
mod WordsLemmas
mod ShowingLemmas
