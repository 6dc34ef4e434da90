pub mod Lists
pub mod Numbers
pub mod Places
pub mod Puts
pub mod Refusals
pub mod Words
