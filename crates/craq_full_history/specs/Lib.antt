pub mod Scans
pub mod Slots
