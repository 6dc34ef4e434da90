pub mod Held
pub mod Membered
