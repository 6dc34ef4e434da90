pub mod Batches
mod Ends
pub mod Scans
pub mod Windows
