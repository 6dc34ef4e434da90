pub mod Lookups
pub mod Journals
pub mod Audited
pub mod Places
pub mod Chained
pub mod Lines
