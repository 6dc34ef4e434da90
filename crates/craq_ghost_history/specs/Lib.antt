pub mod Authors
pub mod Histories
pub mod Views
