pub mod ControlMoves
pub mod FirstMoves
