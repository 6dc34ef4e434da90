pub mod Switched
pub mod Mastered
pub mod Doubles
