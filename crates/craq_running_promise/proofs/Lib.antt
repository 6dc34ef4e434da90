mod Asked
mod Copies
mod Growing
mod Orders
mod Seen
mod Standing
