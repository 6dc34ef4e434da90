pub mod Shown
pub mod Firsts
pub mod Tables
pub mod Noted
