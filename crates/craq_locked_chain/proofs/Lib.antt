mod Becoming
mod Guards
mod Openings
mod Sent
