pub mod Verdicts
pub mod Drawn
pub mod Stopped
