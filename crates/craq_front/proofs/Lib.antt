pub mod Asks
pub mod Exchanges
