pub mod EdgeLemmas
pub mod FormLemmas
pub mod TaskLemmas
pub mod PieceLemmas
pub mod LeadLemmas
