pub mod Applied
pub mod Bytes
pub mod Followed
pub mod Placed
pub mod Indexed
pub mod Held
pub mod Room
