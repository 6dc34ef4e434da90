pub mod Asks
pub mod Batches
pub mod Loads
pub mod Missed
pub mod Resting
