pub mod Numbered
pub mod Placed
pub mod Taken
pub mod Written
