pub mod Kept
pub mod Invariants
