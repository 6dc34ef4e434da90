pub mod Running
pub mod Recording
pub mod Sessions
