-- Lemmas on sessions.
pub mod RunNumbers
