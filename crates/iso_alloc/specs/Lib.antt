pub mod Plans
pub mod Arguments
