pub mod OperandLemmas
pub mod MemberLemmas
pub mod LoopLemmas
pub mod GetLemmas
