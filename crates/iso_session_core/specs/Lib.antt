pub mod Named
pub mod Read
pub mod Progress
pub mod Directed
pub mod Consoles
pub mod Statuses
pub mod Words
pub mod Files
