pub mod Sound
pub mod Compacted
