pub mod Absent
pub mod Next
