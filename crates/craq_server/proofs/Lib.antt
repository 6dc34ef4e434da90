pub mod Floats
pub mod Reached
pub mod Sessions
pub mod Witnessing
