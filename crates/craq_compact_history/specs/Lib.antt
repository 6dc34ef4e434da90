pub mod Counted
pub mod Figures
pub mod Forgotten
pub mod Later
pub mod Others
pub mod Stored
