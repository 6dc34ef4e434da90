pub mod Copies
pub mod Histories
pub mod Kept
pub mod Nodes
pub mod Writes
pub mod Parts
pub mod Full
