pub mod Chains
pub mod Place
pub mod Plan
pub mod Reading
