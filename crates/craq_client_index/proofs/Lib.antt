pub mod Placing
pub mod Through
pub mod Keeping
pub mod Telling
