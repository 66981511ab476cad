pub mod Reading
pub mod Gets
