pub mod Merged
pub mod Within
pub mod Sorted
