pub mod Limits
pub mod Maps
pub mod Places
pub mod Refused
pub mod Order
pub mod Short
