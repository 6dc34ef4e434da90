pub mod Clients
pub mod Moves
pub mod Posts
pub mod Stores
pub mod Untaken
