pub mod Members
pub mod Machine
pub mod Promises
pub mod Schedules
pub mod Wrong
