pub mod NewStores
pub mod Replies
pub mod Views
