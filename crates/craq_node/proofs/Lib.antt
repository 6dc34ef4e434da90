pub mod Ignored
pub mod Transitions
pub mod Kept
pub mod Remembered
pub mod Stops
pub mod Orders
