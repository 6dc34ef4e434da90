pub mod Listening
pub mod Sessions
pub mod Slots
pub mod Refusing
pub mod Status
