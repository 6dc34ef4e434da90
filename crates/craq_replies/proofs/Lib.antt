pub mod Shifted
pub mod Tables
