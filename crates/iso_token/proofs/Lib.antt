pub mod ShowsLemmas
pub mod CodeLemmas
pub mod PieceLemmas
pub mod KnownLemmas
