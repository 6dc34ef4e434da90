pub mod Explained
pub mod Moves
pub mod Printed
pub mod Played
pub mod OnCells
pub mod Alone
pub mod Reported
