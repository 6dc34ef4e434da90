pub mod Doubles
pub mod Memberships
