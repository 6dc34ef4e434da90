pub mod ValidEntries
pub mod Updates
