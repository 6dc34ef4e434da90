pub mod Named
pub mod Sending
