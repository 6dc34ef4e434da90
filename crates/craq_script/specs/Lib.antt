pub mod Grammar
pub mod Reading
pub mod Texts
pub mod Words
pub mod Asked
pub mod Printed
