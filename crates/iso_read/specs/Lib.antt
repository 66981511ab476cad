pub mod Views
pub mod Cursor
pub mod Places
pub mod Gives
pub mod Answers
