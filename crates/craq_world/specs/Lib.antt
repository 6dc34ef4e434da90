pub mod Worlds
pub mod Named
pub mod Promise
pub mod Apart
