pub mod Printed
pub mod Ready
pub mod Statuses
