pub mod Follows
pub mod Lines
