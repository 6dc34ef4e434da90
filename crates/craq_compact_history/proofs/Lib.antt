pub mod Applies
pub mod Counted
pub mod Forgets
pub mod Keys
pub mod Observed
pub mod Others
pub mod Seen
pub mod Unsettled
mod Versions
