pub mod Forward
pub mod Outcomes
pub mod Settling
pub mod Places
pub mod Rows
pub mod Gathered
pub mod Sent
