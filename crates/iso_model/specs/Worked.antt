-- Small programs, texts and terms, worked by the definitions alone. Each is proved, and no definition rests on them.
pub mod Runs
pub mod Control
pub mod Groups
pub mod Loads
pub mod Arithmetic
pub mod Texts
pub mod Terms
