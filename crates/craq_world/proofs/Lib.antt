pub mod Chains
pub mod Apart
pub mod Named
pub mod Unasked
pub mod Chosen
