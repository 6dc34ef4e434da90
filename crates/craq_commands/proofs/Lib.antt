pub mod Doubles
pub mod Entries
pub mod Lists
pub mod Windows
pub mod Keeping
