pub mod CallLemmas
pub mod EngineLemmas
pub mod LinkLemmas
pub mod LinkMoves
