mod Joins
pub mod Openings
pub mod Sent
