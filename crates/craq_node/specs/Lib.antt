pub mod Admitted
pub mod Represented
