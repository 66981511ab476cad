-- What a session writes.
pub mod Lines
pub mod Directives
pub mod Sessions
pub mod Beginnings
