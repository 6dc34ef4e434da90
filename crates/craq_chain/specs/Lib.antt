pub mod Chained
pub mod Parts
pub mod Sent
pub mod Standing
