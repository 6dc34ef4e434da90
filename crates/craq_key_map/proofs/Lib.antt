mod Absorbing
pub mod Lookups
pub mod Writes
pub mod Splitting
pub mod Sorting
pub mod Chunking
pub mod Next
pub mod Filled
