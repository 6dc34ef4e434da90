pub mod Writes
pub mod Lows
pub mod Facts
pub mod Runs
pub mod Holding
pub mod Promised
