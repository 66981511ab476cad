pub mod KnownLemmas
pub mod VariableLemmas
pub mod FlatLemmas
pub mod BlockLemmas
