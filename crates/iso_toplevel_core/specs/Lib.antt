pub mod Questions
pub mod Dialogues
pub mod Progress
pub mod Screens
pub mod Ends
pub mod Showing
pub mod Words
