pub mod Authors
pub mod Causal
