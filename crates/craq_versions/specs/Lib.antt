pub mod Tables
pub mod Versions
pub mod Kept
