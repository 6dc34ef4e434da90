pub mod Prefixes
pub mod Authors
pub mod Keeping
