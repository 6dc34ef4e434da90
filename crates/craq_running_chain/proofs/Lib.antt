pub mod Asks
pub mod Owed
pub mod Reacting
pub mod Routes
