pub mod SentOrder
pub mod Sending
pub mod Beginning
pub mod Joining
pub mod Refusing
pub mod Between
pub mod Telling
