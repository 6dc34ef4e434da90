pub mod Encoded
pub mod Inboxes
pub mod Replies
pub mod Routes
