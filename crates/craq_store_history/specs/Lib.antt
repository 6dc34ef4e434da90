pub mod Entries
pub mod Chains
pub mod Steps
