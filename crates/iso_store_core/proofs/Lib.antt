pub mod AtomLemmas
pub mod PatternLemmas
pub mod ArgumentLemmas
pub mod RetainLemmas
