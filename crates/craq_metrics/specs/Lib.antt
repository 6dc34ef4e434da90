pub mod Exposition
pub mod Families
pub mod Health
pub mod Http
pub mod Metrics
pub mod Status
