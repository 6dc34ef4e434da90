pub mod Rounds
pub mod Recovered
pub mod Taken
pub mod Answers
pub mod Room
