pub mod Apart
pub mod Running
pub mod Sound
pub mod Waiting
