pub mod Lines
pub mod Calls
pub mod Permits
pub mod Adding
pub mod Between
