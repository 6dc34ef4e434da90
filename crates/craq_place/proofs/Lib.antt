pub mod Places
pub mod Plans
