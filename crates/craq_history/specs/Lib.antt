pub mod Change
pub mod Standing
pub mod Nodes
pub mod Room
pub mod Waiting
pub mod Effects
pub mod InMemory
